-- One more statement in a pass over all.
use Rattle.std.proofs.Common.{◌≡◌, ℕ, ◌+◌, ◌<◌, Bool, List, [], ◌∷◌, ◌++◌, length, get_or, take, map, append_assoc, refl, sym, ap, ◌∙◌}
use Rattle.std.proofs.lemmas.List.{take_more, map-append, append-nil}
use Rattle.std.specs.Borrow.{Bor}
use Rattle.meaning.specs.declared.refusal.Rule.{Rule}
use Rattle.meaning.specs.declared.syntax.Item.{Item}
use Rattle.meaning.specs.Syntax.{ItemTree}
use Rattle.meaning.specs.NameRules.{told}
use Rattle.meaning.specs.Statements.{broken_if}
use Rattle.rule_passes.specs.Listed.{tree_at}

pub trees_more : (ms : List (Bor Item)) (i : ℕ) (m : Bor Item) → i < length ms → m ≡ get_or ms i m → map tree_at (take (i + 1) ms) ≡ map tree_at (take i ms) ++ tree_at m ∷ []
trees_more ms i m lt is =
    ap (map tree_at) (take_more ms i m lt ∙ ap (λ x. take i ms ++ x ∷ []) (sym is)) ∙ map-append tree_at (take i ms) (m ∷ [])

module _ (breaks : List ItemTree → ItemTree → Bool) (rule : Rule) where
  pub told-push : (before xs : List ItemTree) (m : ItemTree) → told breaks rule before (xs ++ m ∷ []) ≡ told breaks rule before xs ++ broken_if (breaks (before ++ xs) m) m.line rule
  unfolding told
  told-push before [] m =
      append-nil (broken_if (breaks before m) m.line rule) ∙ ap (λ b. broken_if (breaks b m) m.line rule) (sym (append-nil before))
  told-push before (x ∷ xs) m =
      ap (λ r. broken_if (breaks before x) x.line rule ++ r) (told-push (before ++ x ∷ []) xs m)
      ∙ sym (append_assoc (broken_if (breaks before x) x.line rule) (told breaks rule (before ++ x ∷ []) xs) (broken_if (breaks ((before ++ x ∷ []) ++ xs) m) m.line rule))
      ∙ ap (λ b. (broken_if (breaks before x) x.line rule ++ told breaks rule (before ++ x ∷ []) xs) ++ broken_if (breaks b m) m.line rule) (append_assoc before (x ∷ []) xs)

  pub told_none : told breaks rule [] [] ≡ []
  unfolding told
  told_none = refl

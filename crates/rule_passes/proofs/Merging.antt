-- The least pair of those that one rule tells.
use Rattle.std.proofs.Common.{◌≡◌, ℕ, ◌<◌, Bool, true, false, ◌&&◌, ◌||◌, List, [], ◌∷◌, ◌++◌, Option, Some, None, option_map, refl, sym, ap, ap₂, ◌∙◌, arith, inl, inr}
use Rattle.std.specs.Prelude.{if◌then◌else◌, nat_lt, ◌==◌}
use Rattle.std.proofs.lemmas.Bool.{cases_order, false_from_ne_true, le-ltb, lt-ltb, eqb-true}
use Rattle.meaning.specs.declared.refusal.Broken.{Broken}
use Rattle.meaning.specs.declared.refusal.Rule.{Rule}
use Rattle.meaning.specs.Ranks.{rank_of}
use Rattle.meaning.specs.Refusals.{is_less, least, lesser, merge}
use Rattle.meaning.specs.NameRules.{told}
use Rattle.meaning.specs.Statements.{broken_if}
use Rattle.meaning.specs.Syntax.{ItemTree}
use Rattle.meaning.proofs.Least.{least-append}

abbrev pub at_line : Rule → ℕ → Broken
at_line rule n = record { line = n; rule = rule }

-- the lesser of two of one rule
lesser_first : (rule : Rule) (i j : ℕ) → i < j → lesser (at_line rule i) (at_line rule j) ≡ at_line rule i
lesser_first rule i j lt =
    let later : nat_lt j i ≡ false = le-ltb j i (omega arith) in
    let other : (j == i) ≡ false = false_from_ne_true (j == i) (λ h. let same : j ≡ i = eqb-true j i h in absurd (omega arith)) in
    ap₂ (λ (a b : Bool). if (a || (b && nat_lt (rank_of rule) (rank_of rule))) then at_line rule j else at_line rule i) later other

lesser_last : (rule : Rule) (i j : ℕ) → j < i → lesser (at_line rule i) (at_line rule j) ≡ at_line rule j
lesser_last rule i j lt =
    ap (λ (a : Bool). if (a || ((j == i) && nat_lt (rank_of rule) (rank_of rule))) then at_line rule j else at_line rule i) (lt-ltb j i lt)

lesser_same : (b : Broken) → lesser b b ≡ b
lesser_same b = by_test (is_less b b)
  where
    by_test : (t : Bool) → (if t then b else b) ≡ b
    by_test true = refl
    by_test false = refl

-- a pair of a rule, if there is one
abbrev pub OfRule : Rule → Option Broken → Type 0
OfRule rule o = (l : Option ℕ) × (o ≡ option_map (at_line rule) l)

merge_lines : (rule : Rule) (l m : Option ℕ) → OfRule rule (merge (option_map (at_line rule) l) (option_map (at_line rule) m))
merge_lines rule None None = (None, refl)
merge_lines rule None (Some j) = (Some j, refl)
merge_lines rule (Some i) None = (Some i, refl)
merge_lines rule (Some i) (Some j) = elim (cases_order i j) [
  | inl same ↦ (Some i, ap Some (ap (λ k. lesser (at_line rule i) (at_line rule k)) (sym same) ∙ lesser_same (at_line rule i)))
  | inr apart ↦ elim apart [
    | inl lt ↦ (Some i, ap Some (lesser_first rule i j lt))
    | inr gt ↦ (Some j, ap Some (lesser_last rule i j gt))
  ]
]

merge_of : (rule : Rule) (o p : Option Broken) → OfRule rule o → OfRule rule p → OfRule rule (merge o p)
merge_of rule o p first second =
    let both = merge_lines rule first.0 second.0 in
    (both.0, ap₂ merge first.1 second.1 ∙ both.1)

here_of : (rule : Rule) (b : Bool) (line : ℕ) → OfRule rule (least (broken_if b line rule))
here_of rule true line = (Some line, refl)
here_of rule false line = (None, refl)

module _ (rule : Rule) where
  pub told_of : (p : List ItemTree → ItemTree → Bool) (before xs : List ItemTree) → OfRule rule (least (told p rule before xs))
  unfolding told
  told_of p before [] = (None, refl)
  told_of p before (x ∷ xs) =
      let here = here_of rule (p before x) x.line in
      let rest = told_of p (before ++ x ∷ []) xs in
      let both = merge_of rule (least (broken_if (p before x) x.line rule)) (least (told p rule (before ++ x ∷ []) xs)) here rest in
      (both.0, least-append (broken_if (p before x) x.line rule) (told p rule (before ++ x ∷ []) xs) ∙ both.1)

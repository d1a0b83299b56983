-- The statement of a line among those behind references.
use Rattle.std.proofs.Common.{◌≡◌, ℕ, ◌+◌, ◌<◌, ◌≢◌, List, [], ◌∷◌, ◌++◌, length, get_or, take, drop, map, sym, ap, ◌∙◌, eq-eqb, ne_eqb, ◌≤◌, Option, None}
use Rattle.std.specs.Prelude.{◌==◌, if◌then◌else◌}
use Rattle.std.proofs.lemmas.List.{drop_all}
use Rattle.symbols.proofs.Passes.{map_left, map_more}
use Rattle.meaning.specs.Syntax.{ItemTree}
use Rattle.culprits.specs.Placing.{at_line, item_line}

module _ {A X : Type 0} (ask : List ItemTree → ItemTree → Option A) (line : ℕ) (f : X → ItemTree) (xs : List X) (i : ℕ) (x : X) where
  left : i < length xs → x ≡ get_or xs i x → at_line item_line ask line (map f (take i xs)) (map f (drop i xs)) ≡ (if (f x).line == line then ask (map f (take i xs)) (f x) else at_line item_line ask line (map f (take i xs) ++ f x ∷ []) (map f (drop (i + 1) xs)))
  unfolding at_line
  left lt is = ap (at_line item_line ask line (map f (take i xs))) (map_left f xs i x lt is)

  pub at_hit : i < length xs → x ≡ get_or xs i x → (f x).line ≡ line → at_line item_line ask line (map f (take i xs)) (map f (drop i xs)) ≡ ask (map f (take i xs)) (f x)
  at_hit lt is hit =
      left lt is ∙ ap (λ b. if b then ask (map f (take i xs)) (f x) else at_line item_line ask line (map f (take i xs) ++ f x ∷ []) (map f (drop (i + 1) xs))) (eq-eqb (f x).line line hit)

  pub at_miss : i < length xs → x ≡ get_or xs i x → (f x).line ≢ line → at_line item_line ask line (map f (take (i + 1) xs)) (map f (drop (i + 1) xs)) ≡ at_line item_line ask line (map f (take i xs)) (map f (drop i xs))
  at_miss lt is miss =
      ap (λ b. at_line item_line ask line b (map f (drop (i + 1) xs))) (map_more f xs i x lt is)
      ∙ sym (left lt is ∙ ap (λ b. if b then ask (map f (take i xs)) (f x) else at_line item_line ask line (map f (take i xs) ++ f x ∷ []) (map f (drop (i + 1) xs))) (ne_eqb (f x).line line miss))

-- there is none behind all of them
pub at_end : {A X : Type 0} (ask : List ItemTree → ItemTree → Option A) (line : ℕ) (f : X → ItemTree) (xs : List X) (i : ℕ) → length xs ≤ i → at_line item_line ask line (map f (take i xs)) (map f (drop i xs)) ≡ None
unfolding at_line
at_end ask line f xs i le = ap (λ ys. at_line item_line ask line (map f (take i xs)) (map f ys)) (drop_all i xs le)

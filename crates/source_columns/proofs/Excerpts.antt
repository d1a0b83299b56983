-- The continuation lines that come first among lines.
use Rattle.std.proofs.Common.{◌≡◌, ℕ, Bool, true, false, ◌&&◌, not, List, [], ◌∷◌, cond, refl, ap, ◌∙◌}
use Rattle.std.specs.List.{filter, take_while}
use Rattle.std.proofs.lemmas.List.Sums.{take_while-cons}
use Rattle.meaning.specs.Lines.{card, is_comment, is_initial}
use Rattle.source_columns.specs.Excerpts.{continued, is_continuation, is_start}

by_class : (l : List ℕ) (ls : List (List ℕ)) → continued (l ∷ ls) ≡ cond (not (is_start l)) (cond (is_continuation l) (l ∷ continued ls) (continued ls)) []
by_class l ls = ap (filter is_continuation) (take_while-cons (λ x. not (is_start x)) l ls) ∙ go (not (is_start l))
  where
    go : (b : Bool) → filter is_continuation (cond b (l ∷ take_while (λ x. not (is_start x)) ls) []) ≡ cond b (cond (is_continuation l) (l ∷ continued ls) (continued ls)) []
    go true = refl
    go false = refl

module _ (l : List ℕ) (ls : List (List ℕ)) where
  abbrev told : Bool → Bool → List (List ℕ)
  told comment initial = cond (not (not comment && initial)) (cond (not comment && not initial) (l ∷ continued ls) (continued ls)) []

  -- a comment line is passed over
  pub past_comment : is_comment (card l) ≡ true → continued (l ∷ ls) ≡ continued ls
  past_comment c = by_class l ls ∙ ap (λ b. told b (is_initial (card l))) c

  -- an initial line ends them
  pub at_start : is_comment (card l) ≡ false → is_initial (card l) ≡ true → continued (l ∷ ls) ≡ []
  at_start c i = by_class l ls ∙ (λ k. told (c k) (i k))

  -- a continuation line is the first of them
  pub at_continuation : is_comment (card l) ≡ false → is_initial (card l) ≡ false → continued (l ∷ ls) ≡ l ∷ continued ls
  at_continuation c i = by_class l ls ∙ (λ k. told (c k) (i k))

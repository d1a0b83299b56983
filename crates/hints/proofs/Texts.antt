-- Texts that are put together from lines, and patterns at their front.
use Rattle.std.proofs.Common.{◌≡◌, ap, ℕ, true, ◌||◌, List, [], ◌∷◌, ◌++◌, append_assoc, sym, ◌∙◌}
use Rattle.std.specs.List.{flat_map}
use Rattle.hints.specs.Patterns.{begins, holds}

-- what a line gives is behind the text, and no longer before it
pub one_more : (f : List ℕ → List ℕ) (text new line : List ℕ) (lines rest : List (List ℕ)) (all : List ℕ)
    → lines ≡ line ∷ rest → new ≡ text ++ f line → text ++ flat_map f lines ≡ all → new ++ flat_map f rest ≡ all
one_more f text new line lines rest all first added told =
    ap (λ t. t ++ flat_map f rest) added ∙ append_assoc text (f line) (flat_map f rest) ∙ ap (λ ls. text ++ flat_map f ls) (sym first) ∙ told

-- what a text begins with it has
pub holds_front : (text pattern : List ℕ) → begins text pattern ≡ true → holds text pattern ≡ true
unfolding holds
holds_front [] pattern e = e
holds_front (c ∷ cs) pattern e = ap (λ b. b || holds cs pattern) e

-- Pairs in order, none twice.
use Rattle.std.specs.Prelude.{◌≡◌, ◌↔◌, true, List, [], ◌∷◌}
use Rattle.std.specs.List.{AllByRecursion, Contains}
use Rattle.meaning.specs.declared.refusal.Broken.{Broken}
use Rattle.meaning.specs.Ranks.{rank_of}
use Rattle.meaning.specs.Refusals.{is_less}

-- each is less than those behind it
abbrev pub Ascends : List Broken → Type 0
Ascends [] = Unit {0}
Ascends (b ∷ bs) = AllByRecursion (λ c. is_less b c ≡ true) bs × Ascends bs

-- both have the same pairs
abbrev pub HaveSame : List Broken → List Broken → Type 0
HaveSame xs ys = (b : Broken) → Contains xs b ↔ Contains ys b

-- two pairs at one line and of one rank are the same
abbrev pub AreApart : List Broken → Type 0
AreApart xs =
    (a b : Broken) → Contains xs a → Contains xs b → a.line ≡ b.line → rank_of a.rule
    ≡ rank_of b.rule → a ≡ b

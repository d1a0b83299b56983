-- The program units that sources spell, and their initial lines (ANSI X3.9-1978, 3.2, 3.3 and 3.5).
use Rattle.std.specs.Prelude.{◌≡◌, ◌≤◌, ℕ, suc, List, [], ◌∷◌, map, Ok, Result}
use Rattle.meaning.specs.declared.refusal.Broken.{Broken}
use Rattle.meaning.specs.Answers.{members_of}
use Rattle.meaning.specs.Nesting.{nest}
use Rattle.meaning.specs.Refusals.{◌>>=◌}
use Rattle.meaning.specs.Statements.{statements_of}
use Rattle.meaning.specs.Trees.{Nested, flatten}

-- the program unit that a source spells, whether or not it keeps the rules K
abbrev pub unit_of : List ℕ → Result Nested Broken
unit_of source = statements_of source >>= λ entries. members_of entries >>= λ members. nest members

abbrev pub Spells : List ℕ → Nested → Type 0
Spells source t = unit_of source ≡ Ok t

-- some source spells it
pub record IsSpelled (t : Nested) : Type 0 where
  pub source : List ℕ
  pub spells : Spells source t

-- the initial lines of its statements
abbrev pub lines_in : Nested → List ℕ
lines_in t = map (λ x. x.line) (flatten t)

-- numbers ascend, from a least one on and up to a greatest one at most
abbrev pub Ascend : ℕ → ℕ → List ℕ → Type 0
Ascend least greatest [] = Unit {0}
Ascend least greatest (n ∷ ns) = (least ≤ n) × (n ≤ greatest) × Ascend (suc n) greatest ns

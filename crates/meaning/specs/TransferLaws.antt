-- Laws of transfers of control (ANSI X3.9-1978, 11.1 to 11.4), for those who build on execution.
use Rattle.std.specs.Prelude.{◌≡◌, ℕ, true, Ok}
use Rattle.std.specs.List.{list_any, AllByRecursion}
use Rattle.meaning.specs.LabelRules.{has_label, transfers_of}
use Rattle.meaning.specs.Trees.{Nested, flatten}
use Rattle.meaning.specs.Rules.{checked}
use Rattle.meaning.specs.Maps.{Map}
use Rattle.meaning.specs.Execution.{jump, exec}

-- in a program unit that breaks no rule each transfer is to the label of a statement
abbrev pub TransfersArrive : Type 0
TransfersArrive =
    (t u : Nested) → checked t ≡ Ok u →
    AllByRecursion (λ x. AllByRecursion (λ s. list_any (has_label s) (flatten t) ≡ true)
    (transfers_of x.shape)) (flatten t)

-- and no transfer leaves the body
abbrev pub TransfersStay : Type 0
TransfersStay =
    (t u : Nested) → checked t ≡ Ok u → (m : Map) (n s : ℕ) →
    (exec (flatten t) t.body t.body m n).outcome ≡ jump s → ⊥

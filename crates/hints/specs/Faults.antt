-- The hints for faults (own).
use Rattle.std.specs.Prelude.{ℕ, ◌-◌, Bool, false, ◌&&◌, ◌==◌, List, [], ◌∷◌, length, take, drop}
use Rattle.std.specs.Prelude.{nat_eq, if◌then◌else◌, Option, Some, None, codes}
use Rattle.std.specs.List.{starts_with, ends_with}
use Rattle.meaning.specs.declared.ending.FaultKind.{FaultKind}
use Rattle.meaning.specs.declared.ending.FaultKind.TheVariants.{F2, F4}
use Rattle.meaning.specs.Spelling.{balanced}
use Rattle.hints.specs.declared.hint.Hint.{Hint}
use Rattle.hints.specs.declared.hint.Hint.TheVariants.{Product, Turns}
use Rattle.hints.specs.Patterns.{holds}

-- the first equals sign of a text and what stands behind it
unfoldable pub from_equals : List ℕ → List ℕ
from_equals [] = []
from_equals (c ∷ cs) = if c == 61 then c ∷ cs else from_equals cs

-- arguments and the parenthesis that closes them at the end, with a product among them
abbrev pub are_with_product : List ℕ → Bool
are_with_product rest =
    ends_with nat_eq rest (41 ∷ 10 ∷ [])
    && (balanced 0 false (take (length rest - 2) rest)
    && holds (take (length rest - 2) rest) (codes "*"))

-- a reference to MOD by itself
abbrev pub is_mod_of_product : List ℕ → Bool
is_mod_of_product text = starts_with nat_eq text (codes "=MOD(") && are_with_product (drop 5 text)

-- the hint for a fault in a statement of this outline
abbrev pub fault_hint : FaultKind → List ℕ → Option Hint
fault_hint F4 text = Some Turns
fault_hint F2 text = if is_mod_of_product (from_equals text) then Some Product else None
fault_hint kind text = None

-- What the cells start with: what DATA statements give, and 0 elsewhere (ANSI X3.9-1978, chapters 9
-- and 17).
use Rattle.std.specs.Prelude.{◌≡◌, ℕ, true, ℤ, pos, List, flat_map, is_some, map, Option, Some}
use Rattle.std.specs.Prelude.{None}
use Rattle.std.specs.Global.{Vec}
use Rattle.std.specs.List.{AllByRecursion, range_with_len}
use Rattle.indexmap.specs.IndexMap.{IndexMap}
use Rattle.meaning.specs.declared.ending.Value.{Value}
use Rattle.meaning.specs.Values.{as_integer}
use Rattle.k_rules.specs.declared.verdict.Facts.{Facts}
use Rattle.k_rules.specs.Judged.{starts_in}
use Rattle.storage.specs.declared.parts.Entry.{Entry}
use Rattle.checker.specs.Entries.{Placed, Said, cells_at, said_at}

abbrev pub first_placed : Option Placed → Option ℕ
first_placed None = None
first_placed (Some p) = Some p.first

-- the first cell, if the name has cells
abbrev pub first_said : Option Said → Option ℕ
first_said None = None
first_said (Some s) = first_placed s.storage

abbrev pub firsts_in : {S : Type 0} → IndexMap (Vec ℕ) Entry S → List ℕ → Option ℕ
firsts_in m n = first_said (said_at m n)

-- the number of a place that was given this
abbrev pub number_given : Option Value → ℤ
number_given None = pos 0
number_given (Some v) = as_integer v

-- those of so many places, those of a name's, and those of names, one behind another
abbrev pub values_in : (ℕ → Option Value) → ℕ → List ℤ
values_in given cells = map (λ i. number_given (given i)) (range_with_len 0 cells)

abbrev pub values_of : Facts → List ℕ → List ℤ
values_of f n = values_in (starts_in f n) (cells_at f n)

abbrev pub starts_by : Facts → List (List ℕ) → List ℤ
starts_by f names = flat_map (values_of f) names

-- What is wrong with the values of a DATA statement (ANSI X3.9-1978, 9.1).
use Rattle.std.specs.Prelude.{ℕ, is_none, List, [], ◌∷◌, if◌then◌else◌, Option, Some, None}
use Rattle.std.specs.Option.{option_or}
use Rattle.meaning.specs.Initial.{repeat_value}
use Rattle.meaning.specs.Syntax.{DataConstantTree, data_number, data_truth, data_name}
use Rattle.meaning.specs.Syntax.{DataValueTree, RepeatTree, repeat_number, repeat_name}
use Rattle.meaning.specs.Values.{Known}
use Rattle.number_culprits.specs.Told.{unknown}
use Rattle.data_culprits.specs.Told.{Told, numbered, no_count}

-- a repeat count that is none
abbrev pub count_word : RepeatTree → List ℕ
count_word (repeat_number digits) = digits
count_word (repeat_name n) = n

abbrev pub count_fault : Known → Option RepeatTree → Option Told
count_fault known None = None
count_fault known (Some c) =
    if is_none (repeat_value known (Some c)) then Some (no_count (count_word c)) else None

-- a name that is no constant's
abbrev pub constant_fault : Known → DataConstantTree → Option Told
constant_fault known (data_number sign digits) = None
constant_fault known (data_truth b) = None
constant_fault known (data_name n) =
    if is_none (known n) then Some (numbered (unknown n)) else None

abbrev pub value_fault : Known → DataValueTree → Option Told
value_fault known v =
    option_or (count_fault known v.repeat_count) (constant_fault known v.constant)

abbrev pub values_fault : Known → List DataValueTree → Option Told
values_fault known [] = None
values_fault known (v ∷ vs) = option_or (value_fault known v) (values_fault known vs)

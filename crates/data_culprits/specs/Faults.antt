-- What is wrong with a subscript, or with the limits of an implied DO, in a DATA statement (ANSI
-- X3.9-1978, 9.1 and 9.3).
use Rattle.std.specs.Prelude.{ℕ, ℤ, is_none, List, [], ◌∷◌, if◌then◌else◌, Option, Some, None}
use Rattle.std.specs.Prelude.{option_map, unwrap_or}
use Rattle.std.specs.Option.{option_or}
use Rattle.meaning.specs.Arrays.{Dimension, above}
use Rattle.meaning.specs.Initial.{known_value}
use Rattle.meaning.specs.Syntax.{ExprTree, ExprsTree, no_exprs, exprs, LimitsTree}
use Rattle.meaning.specs.Types.{Types}
use Rattle.meaning.specs.Values.{Known}
use Rattle.number_culprits.specs.Numbers.{none_in}
use Rattle.number_culprits.specs.Told.{faulty}
use Rattle.data_culprits.specs.Told.{Told, numbered, outside, unmatched, no_trips}

-- what keeps an expression from being one of constants, or what faults
abbrev pub none_told : Types → Known → List ℕ → ExprTree → Option Told
none_told types known n e = option_map numbered (none_in types known (faulty n) e)

-- a subscript outside of its bounds
abbrev pub outside_in : List ℕ → Dimension → Option ℤ → Option Told
outside_in n d None = None
outside_in n d (Some s) = if is_none (above d s) then Some (outside n s d.lower d.upper) else None

abbrev pub subscript_fault : Types → Known → List ℕ → Dimension → ExprTree → Option Told
subscript_fault types known n d e =
    option_or (none_told types known n e) (outside_in n d (known_value types known e))

-- the first subscript that is bad
abbrev pub subscripts_fault : Types → Known → List ℕ → List Dimension → ExprsTree → Told
subscripts_fault types known n [] es = unmatched n
subscripts_fault types known n (d ∷ ds) no_exprs = unmatched n
subscripts_fault types known n (d ∷ ds) (exprs e es) =
    unwrap_or (subscript_fault types known n d e) (subscripts_fault types known n ds es)

-- limits that are no constants, or give no trips
abbrev pub step_fault : Types → Known → List ℕ → Option ExprTree → Option Told
step_fault types known n None = None
step_fault types known n (Some e) = none_told types known n e

abbrev pub limits_fault : Types → Known → List ℕ → LimitsTree → Told
limits_fault types known n l =
    unwrap_or (option_or (none_told types known n l.first)
    (option_or (none_told types known n l.last) (step_fault types known n l.step))) (no_trips n)

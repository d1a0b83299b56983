-- The trips of a DO (ANSI X3.9-1978, 11.10.3): its limits, and how often its range is executed.
use Rattle.std.specs.Prelude.{ℕ, ℤ, pos, ◌+ℤ◌, ◌-ℤ◌, ◌*ℤ◌, int_div, List, map, if◌then◌else◌}
use Rattle.std.specs.Prelude.{Option, Some, None, Result, Ok, Err}
use Rattle.std.specs.List.{range_with_len}
use Rattle.std.specs.Ordering.{int_eq}
use Rattle.meaning.specs.declared.ending.FaultKind.{FaultKind}
use Rattle.meaning.specs.declared.ending.FaultKind.TheVariants.{F5}
use Rattle.meaning.specs.declared.ending.Value.TheVariants as values
use Rattle.meaning.specs.Characters.{at_least_zero}
use Rattle.meaning.specs.Syntax.{ExprTree, LimitsTree}
use Rattle.meaning.specs.Maps.{Map}
use Rattle.meaning.specs.Values.{Scope, Valued, value, as_integer, and_then, ◌>>=◌}

-- MAX(INT((last-first+step)/step),0), in exact numbers
abbrev pub trip_count : ℤ → ℤ → ℤ → ℕ
trip_count first last step = at_least_zero (int_div (last -ℤ first +ℤ step) step)

-- the values of the DO variable, one for each trip
abbrev pub trips : ℤ → ℤ → ℤ → List ℤ
trips first last step =
    map (λ k. first +ℤ pos k *ℤ step) (range_with_len 0 (trip_count first last step))

-- the values of limits
pub record Span : Type 0 where
  pub first : ℤ
  pub last : ℤ
  pub step : ℤ

-- the step, which is 1 when not written
abbrev pub step_value : Scope → Option ExprTree → Map → Valued
step_value s None m = Ok (values.Int (pos 1))
step_value s (Some e) m = value s e m

-- a step of zero is a fault (own)
abbrev pub with_step : ℤ → ℤ → ℤ → Result Span FaultKind
with_step first last step =
    if int_eq step (pos 0) then Err F5 else Ok (record { first = first; last = last; step = step })

-- the values of limits, from the left
unfoldable pub span_of : Scope → LimitsTree → Map → Result Span FaultKind
unfolding and_then
span_of s l m =
    value s l.first m >>= λ a. value s l.last m >>= λ b. step_value s l.step m >>=
    λ c. with_step (as_integer a) (as_integer b) (as_integer c)

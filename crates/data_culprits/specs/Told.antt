-- What is told of a DATA statement that breaks the rule on them.
use Rattle.std.specs.Prelude.{ℕ, ℤ, List, Option, option_map}
use Rattle.meaning.specs.declared.ending.Value.{Value}
use Rattle.number_culprits.specs.Told.{Told as NumberTold, told_at as number_told_at}
use Rattle.data_culprits.specs.declared.culprit.DataCulprit.{DataCulprit}
use Rattle.data_culprits.specs.declared.culprit.DataCulprit.TheVariants as culprits

pub data Told : Type 0 where
  -- the first word of an item that is no variable, no array and no element
  no_item : List ℕ → Told
  -- what keeps a subscript or a limit from being a constant expression, or a value from being one
  numbered : NumberTold → Told
  -- an array, a subscript, and the bounds that it is outside of
  outside : List ℕ → ℤ → ℤ → ℤ → Told
  -- an array with another number of subscripts than it has dimensions
  unmatched : List ℕ → Told
  -- the variable of an implied DO that is none of an INTEGER
  no_counter : List ℕ → Told
  -- the variable of an implied DO with step 0, or without trips
  no_trips : List ℕ → Told
  -- a repeat count
  no_count : List ℕ → Told
  -- a name, and a value of another type
  mistyped : List ℕ → Value → Told
  -- a name that no value is left for, or that has a value already
  unserved : List ℕ → Told
  given_again : List ℕ → Told
  -- a value that is left over
  left_over : Told

-- what a value of the Rust type stands for
abbrev pub told_at : DataCulprit → Told
told_at (culprits.Item word) = no_item word.now
told_at (culprits.Number culprit) = numbered (number_told_at culprit)
told_at (culprits.Outside name subscript lower upper) = outside name.now subscript lower upper
told_at (culprits.Unmatched name) = unmatched name.now
told_at (culprits.Counter name) = no_counter name.now
told_at (culprits.Trips name) = no_trips name.now
told_at (culprits.Count text) = no_count text.now
told_at (culprits.Mistyped name value) = mistyped name.now value
told_at (culprits.Unserved name) = unserved name.now
told_at (culprits.Again name) = given_again name.now
told_at culprits.LeftOver = left_over

-- what is told, if anything is
abbrev pub tell : Option DataCulprit → Option Told
tell c = option_map told_at c

-- What is told of a broken rule K: what breaks it.
use Rattle.std.specs.Prelude.{ℕ, Bool, List, Option, option_map}
use Rattle.culprits.specs.declared.culprit.Culprit.{Culprit}
use Rattle.culprits.specs.declared.culprit.Culprit.TheVariants as culprits
use Rattle.culprits.specs.declared.culprit.Wanted.{Wanted}
use Rattle.data_culprits.specs.Told.{Told as DataTold, told_at as data_told_at}
use Rattle.function_culprits.specs.Told.{Told as FunctionTold, told_at as function_told_at}
use Rattle.number_culprits.specs.Told.{Told as NumberTold, told_at as number_told_at}
use Rattle.output_culprits.specs.Told.{Told as OutputTold, told_at as output_told_at}
use Rattle.type_culprits.specs.Told.{Told as TypeTold, told_at as type_told_at}
use Rattle.size_culprits.specs.Told.{Told as SizeTold, told_at as size_told_at}
use Rattle.name_culprits.specs.Told.{Told as NameTold, told_at as name_told_at}
use Rattle.list_culprits.specs.Told.{Told as ListTold, told_at as list_told_at}

pub data Told : Type 0 where
  -- K1: a label, and the line of an earlier statement that has it
  repeated : ℕ → ℕ → Told
  -- K3: a name, and whether IMPLICIT NONE stands
  real : List ℕ → Bool → Told
  -- K8: a name, how many subscripts or arguments it wants, and how many it has, if it has
  -- parentheses
  miscounted : List ℕ → Wanted → Option ℕ → Told
  -- K5: what is of the wrong type
  mistyped : TypeTold → Told
  -- K6: what breaks the rule on integer constants and constant expressions
  numbered : NumberTold → Told
  -- K7: what breaks the rule on the sizes of arrays
  sized : SizeTold → Told
  -- K4: what breaks the rule on what names are
  disputed : NameTold → Told
  -- K10: what breaks the rule on DATA statements
  misgiven : DataTold → Told
  -- K11: what breaks the rule on units and formats
  misformed : OutputTold → Told
  -- K12: what breaks the rule on statement functions
  defined : FunctionTold → Told
  -- K13: the name of a function
  unknown : List ℕ → Told
  -- K2 and K9: what breaks a rule on lists
  listed : ListTold → Told

-- what a value of the Rust type stands for
abbrev pub told_at : Culprit → Told
told_at (culprits.Repeated label earlier) = repeated label earlier
told_at (culprits.Real name without_letters) = real name.now without_letters
told_at (culprits.Miscounted name wanted given) = miscounted name.now wanted given
told_at (culprits.Type culprit) = mistyped (type_told_at culprit)
told_at (culprits.Number culprit) = numbered (number_told_at culprit)
told_at (culprits.Size culprit) = sized (size_told_at culprit)
told_at (culprits.Name culprit) = disputed (name_told_at culprit)
told_at (culprits.Data culprit) = misgiven (data_told_at culprit)
told_at (culprits.Output culprit) = misformed (output_told_at culprit)
told_at (culprits.Function culprit) = defined (function_told_at culprit)
told_at (culprits.Unknown name) = unknown name.now
told_at (culprits.Listed culprit) = listed (list_told_at culprit)

-- what is told, if anything is
abbrev pub tell : Option Culprit → Option Told
tell c = option_map told_at c

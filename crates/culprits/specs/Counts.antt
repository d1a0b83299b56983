-- How many subscripts and arguments names want, and what has a wrong number of them (ANSI
-- X3.9-1978, 5.4.2, 15.3, 15.4 and table 5).
use Rattle.std.specs.Prelude.{ℕ, ◌==◌, ◌&&◌, Bool, List, length, min, is_some, option_map, Option}
use Rattle.std.specs.Prelude.{Some, None}
use Rattle.std.specs.List.{find}
use Rattle.std.specs.Option.{option_or}
use Rattle.meaning.specs.Intrinsics.{Intrinsic, absolute, remainder, greatest, least, sign_transfer}
use Rattle.meaning.specs.Intrinsics.{positive_difference, intrinsic_named}
use Rattle.meaning.specs.NameRules.{is_misused_array, is_misused_function, is_other_number}
use Rattle.meaning.specs.NameRules.{length_if}
use Rattle.meaning.specs.Scopes.{listed}
use Rattle.meaning.specs.Syntax.{ExprTree, ExprsTree, ShapeTree}
use Rattle.meaning.specs.Uses.{Symbols, Use, count}
use Rattle.name_uses.specs.UsesIn.{reads_in, uses_in}
use Rattle.culprits.specs.declared.culprit.Wanted.{Wanted}
use Rattle.culprits.specs.declared.culprit.Wanted.TheVariants.{Subscripts, Arguments}
use Rattle.culprits.specs.declared.culprit.Wanted.TheVariants.{ArgumentsOrMore}
use Rattle.culprits.specs.Told.{Told, miscounted}

-- the greatest number stands for each greater one; a statement has 1320 characters at most
abbrev pub capped : ℕ → ℕ
capped n = min n 18446744073709551615

-- ---- what is wanted

abbrev pub wanted_by : Intrinsic → Wanted
wanted_by absolute = Arguments 1
wanted_by remainder = Arguments 2
wanted_by greatest = ArgumentsOrMore 2
wanted_by least = ArgumentsOrMore 2
wanted_by sign_transfer = Arguments 2
wanted_by positive_difference = Arguments 2

abbrev pub subscripts_of : Symbols → List ℕ → Option Wanted
subscripts_of r n = option_map Subscripts (length_if (r.names.arrays n))

abbrev pub arguments_of : Symbols → List ℕ → Option Wanted
arguments_of r n =
    option_or (option_map (λ k. Arguments (capped k)) (length_if (r.names.functions n)))
    (option_map wanted_by (intrinsic_named n))

-- ---- what is told: a use, with how many its name wants

abbrev pub miscounting : (List ℕ → Option Wanted) → Option Use → Option Told
miscounting wanted None = None
miscounting wanted (Some u) =
    option_map (λ w. miscounted u.name w (option_map capped u.arguments)) (wanted u.name)

-- the first array with a wrong number of subscripts, else the first function with a wrong number of
-- arguments
abbrev pub miscounted_in : Symbols → Bool → ShapeTree → Option Told
miscounted_in r defines s =
    option_or (miscounting (subscripts_of r) (find (is_misused_array r) (uses_in r defines s)))
    (miscounting (arguments_of r) (find (is_misused_function r) (reads_in r defines s)))

-- ---- the parts of the rule's tests

abbrev pub are_as_many : ExprsTree → ExprsTree → Bool
are_as_many dummies arguments = length (listed dummies) == count arguments

abbrev pub is_other_count : List ExprTree → Option ℕ → Bool
is_other_count dummies arguments =
    is_some arguments && is_other_number (Some (length dummies)) arguments

abbrev pub is_other_reference : Symbols → Use → Bool
is_other_reference r u =
    is_some u.arguments && is_other_number (length_if (r.names.functions u.name)) u.arguments

-- Numbers of subscripts, arguments and dummies.
use Rattle.std.specs.Prelude.{ℕ, ◌==◌, ◌&&◌, ◌||◌, Bool, List, length, is_some, Option, Some}
use Rattle.std.specs.List.{list_any}
use Rattle.meaning.specs.Intrinsics.{intrinsic_named}
use Rattle.meaning.specs.NameRules.{does_not_take, is_misused_array, is_misused_function}
use Rattle.meaning.specs.NameRules.{is_other_number, length_if}
use Rattle.meaning.specs.Scopes.{listed}
use Rattle.meaning.specs.Syntax.{ExprTree, ExprsTree}
use Rattle.meaning.specs.Uses.{Symbols, Use, count}

abbrev pub are_as_many : ExprsTree → ExprsTree → Bool
are_as_many dummies arguments = length (listed dummies) == count arguments

-- parentheses with another number of arguments than there are dummies
abbrev pub is_other_count : List ExprTree → Option ℕ → Bool
is_other_count dummies arguments =
    is_some arguments && is_other_number (Some (length dummies)) arguments

-- a reference to a statement function with another number of arguments than it has dummies
abbrev pub is_other_reference : Symbols → Use → Bool
is_other_reference r u =
    is_some u.arguments && is_other_number (length_if (r.names.functions u.name)) u.arguments

-- an intrinsic function that doesn't take so many arguments
abbrev pub takes_other : List ℕ → Option ℕ → Bool
takes_other name arguments = does_not_take (intrinsic_named name) arguments

-- a misused array among uses, or a misused function among those whose values are taken
abbrev pub has_misused : Symbols → List Use → List Use → Bool
has_misused r uses reads =
    list_any (is_misused_array r) uses || list_any (is_misused_function r) reads

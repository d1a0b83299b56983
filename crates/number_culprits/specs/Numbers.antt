-- The first thing by which a statement breaks the rule on integer constants and constant
-- expressions (ANSI X3.9-1978, 4.3, 5.1.1 and 8.6).
use Rattle.std.specs.Prelude.{ℕ, is_some, is_none, List, [], ◌∷◌, ◌++◌, map, flat_map}
use Rattle.std.specs.Prelude.{if◌then◌else◌, Option, Some, None, option_map}
use Rattle.std.specs.List.{find}
use Rattle.std.specs.Option.{option_or}
use Rattle.meaning.specs.NumberRules.{data_numbers, is_too_great, is_unknown, known_behind_all}
use Rattle.meaning.specs.NumberRules.{numbers_in}
use Rattle.meaning.specs.Scopes.{constant_value, constants_in, declarators_in, with_constant}
use Rattle.meaning.specs.Syntax.{ConstantTree, DeclaratorTree, ExprTree, ItemTree, ShapeTree}
use Rattle.meaning.specs.Types.{Types}
use Rattle.meaning.specs.Typing.{expected_in, in_bounds}
use Rattle.meaning.specs.Uses.{Symbols, Use, uses_in}
use Rattle.meaning.specs.Values.{Known}
use Rattle.number_culprits.specs.Told.{Told, great, unknown, referenced, faulty, unbounded}

-- a constant that is too great
abbrev pub numbers_of : Symbols → ShapeTree → List (List ℕ)
numbers_of r s = flat_map (λ x. numbers_in x.expr) (expected_in r.names s) ++ data_numbers s

abbrev pub great_in : Symbols → ShapeTree → Option Told
great_in r s = option_map great (find is_too_great (numbers_of r s))

-- an expression that isn't one of constants that are known by then, or that faults, of which the
-- last is told
abbrev pub unknown_told : Use → Told
unknown_told u = if is_none u.arguments then unknown u.name else referenced u.name

abbrev pub unknown_in : Known → ExprTree → Option Told
unknown_in known e = option_map unknown_told (find (is_unknown known) (uses_in e))

abbrev pub valueless_in : Types → Known → Told → ExprTree → Option Told
valueless_in types known fault e =
    if is_none (constant_value types known e) then Some fault else None

abbrev pub none_in : Types → Known → Told → ExprTree → Option Told
none_in types known fault e = option_or (unknown_in known e) (valueless_in types known fault e)

-- one of several
abbrev pub first_none : Types → Known → Told → List ExprTree → Option Told
first_none types known fault [] = None
first_none types known fault (e ∷ es) =
    option_or (none_in types known fault e) (first_none types known fault es)

-- the constants of a PARAMETER statement, each with those before it
abbrev pub bad_constant : Types → Known → List ConstantTree → Option Told
bad_constant types known [] = None
bad_constant types known (c ∷ cs) =
    option_or (none_in types known (faulty c.name) c.value)
    (bad_constant types (with_constant types known c) cs)

-- the bounds of arrays
abbrev pub bounds_of : DeclaratorTree → List ExprTree
bounds_of d = flat_map (λ b. map (λ x. x.expr) (in_bounds b)) d.bounds

abbrev pub bad_bound : Types → Known → List DeclaratorTree → Option Told
bad_bound types known [] = None
bad_bound types known (d ∷ ds) =
    option_or (first_none types known (unbounded d.name) (bounds_of d)) (bad_bound types known ds)

-- K6, at a statement behind others
abbrev pub bad_in : Symbols → List ItemTree → ItemTree → Option Told
bad_in r before x =
    option_or (great_in r x.shape)
    (option_or (bad_constant r.names.types (known_behind_all r before) (constants_in x.shape))
    (bad_bound r.names.types (known_behind_all r before) (declarators_in x.shape)))

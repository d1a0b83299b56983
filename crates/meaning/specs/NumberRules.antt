-- The rules on constants and on the sizes of arrays: K6 and K7 (ANSI X3.9-1978, 4.3, 5.1.1 and
-- 8.6).
use Rattle.std.specs.Prelude.{ℕ, ◌+◌, int_lt, Bool, true, false, not, ◌&&◌, ◌||◌, nat_lt, length}
use Rattle.std.specs.Prelude.{List, [], ◌∷◌, ◌++◌, map, flat_map, sum_by, is_some, is_none}
use Rattle.std.specs.Prelude.{if◌then◌else◌, Option, Some, None}
use Rattle.std.specs.List.{list_any, filter}
use Rattle.meaning.specs.declared.ending.Value.{Value}
use Rattle.meaning.specs.declared.ending.Value.TheVariants as values
use Rattle.meaning.specs.Characters.{number_of}
use Rattle.meaning.specs.Syntax.{ExprTree, number, truth, name, signed, negated, binary, paren}
use Rattle.meaning.specs.Syntax.{element, call, ExprsTree, no_exprs, exprs, DeclaratorTree}
use Rattle.meaning.specs.Syntax.{ConstantTree, DataConstantTree, data_number, data_truth, data_name}
use Rattle.meaning.specs.Syntax.{RepeatTree, repeat_number, repeat_name, DataValueTree, ShapeTree}
use Rattle.meaning.specs.Syntax.{initializing, ItemTree}
use Rattle.meaning.specs.Arrays.{Dimension, size}
use Rattle.meaning.specs.Types.{Types}
use Rattle.meaning.specs.Values.{Known}
use Rattle.meaning.specs.Scopes.{constant_value, constants_in, declarators_in, dimension_of}
use Rattle.meaning.specs.Scopes.{known_of, with_constant}
use Rattle.meaning.specs.Typing.{option_list, in_bounds, expected_in}
use Rattle.meaning.specs.Uses.{Use, Symbols, uses_in}

-- ---- K6

-- the digits of the integer constants in an expression
abbrev mutual
  pub numbers_in : ExprTree → List (List ℕ)
  numbers_in (number digits) = digits ∷ []
  numbers_in (truth value) = []
  numbers_in (name letters) = []
  numbers_in (signed sign e) = numbers_in e
  numbers_in (negated e) = numbers_in e
  numbers_in (binary operator a b) = numbers_in a ++ numbers_in b
  numbers_in (paren e) = numbers_in e
  numbers_in (element letters es) = numbers_in_all es
  numbers_in (call letters) = []

  pub numbers_in_all : ExprsTree → List (List ℕ)
  numbers_in_all no_exprs = []
  numbers_in_all (exprs e es) = numbers_in e ++ numbers_in_all es

abbrev pub in_data_constant : DataConstantTree → List (List ℕ)
in_data_constant (data_number sign digits) = digits ∷ []
in_data_constant (data_truth value) = []
in_data_constant (data_name letters) = []

abbrev pub in_repeat : RepeatTree → List (List ℕ)
in_repeat (repeat_number digits) = digits ∷ []
in_repeat (repeat_name letters) = []

abbrev pub in_data_value : DataValueTree → List (List ℕ)
in_data_value v = flat_map in_repeat (option_list v.repeat_count) ++ in_data_constant v.constant

abbrev pub data_numbers : ShapeTree → List (List ℕ)
data_numbers (initializing sets) = flat_map (λ s. flat_map in_data_value s.values) sets
data_numbers s = []

abbrev pub is_too_great : List ℕ → Bool
is_too_great digits = nat_lt 2147483647 (number_of digits)

abbrev pub has_too_great : Symbols → ShapeTree → Bool
has_too_great r s =
    list_any is_too_great
    (flat_map (λ x. numbers_in x.expr) (expected_in r.names s) ++ data_numbers s)

-- an expression that isn't one of constants that are known by then, or that faults
abbrev pub is_unknown : Known → Use → Bool
is_unknown known u = is_some u.arguments || is_none (known u.name)

abbrev pub is_no_constant : Types → Known → ExprTree → Bool
is_no_constant types known e =
    list_any (is_unknown known) (uses_in e) || is_none (constant_value types known e)

-- the constants of a PARAMETER statement, each with those before it
abbrev pub is_bad_constant : Types → Known → List ConstantTree → Bool
is_bad_constant types known [] = false
is_bad_constant types known (c ∷ cs) =
    is_no_constant types known c.value || is_bad_constant types (with_constant types known c) cs

abbrev pub has_bad_bound : Types → Known → List DeclaratorTree → Bool
has_bad_bound types known ds =
    list_any (is_no_constant types known)
    (flat_map (λ d. flat_map (λ b. map (λ x. x.expr) (in_bounds b)) d.bounds) ds)

abbrev pub known_behind_all : Symbols → List ItemTree → Known
known_behind_all r before = known_of r.names.types before

abbrev pub has_bad_number : Symbols → List ItemTree → ItemTree → Bool
has_bad_number r before x =
    has_too_great r x.shape
    || (is_bad_constant r.names.types (known_behind_all r before) (constants_in x.shape)
    || has_bad_bound r.names.types (known_behind_all r before) (declarators_in x.shape))

-- ---- bounds without a value

abbrev pub is_integer : Option Value → Bool
is_integer (Some (values.Int z)) = true
is_integer (Some (values.Bool b)) = false
is_integer None = false

-- a bound that is no INTEGER constant breaks another rule at its line
abbrev pub is_no_integer : Types → Known → ExprTree → Bool
is_no_integer types known e =
    is_no_constant types known e || not (is_integer (constant_value types known e))

abbrev pub lacks_bound : Types → Known → DeclaratorTree → Bool
lacks_bound types known d =
    list_any (is_no_integer types known) (flat_map (λ b. map (λ x. x.expr) (in_bounds b)) d.bounds)

-- the arrays that statements declare with such a bound
abbrev pub sizeless_at : Symbols → List ItemTree → ItemTree → List (List ℕ)
sizeless_at r before x =
    map (λ d. d.name)
    (filter (lacks_bound r.names.types (known_behind_all r before)) (declarators_in x.shape))

unfoldable pub sizeless_in : Symbols → List ItemTree → List ItemTree → List (List ℕ)
sizeless_in r before [] = []
sizeless_in r before (x ∷ xs) = sizeless_at r before x ++ sizeless_in r (before ++ x ∷ []) xs

-- ---- K7: more than seven dimensions, a lower bound above the upper one, or more than 16,777,216
-- elements (own); an array without a bound's value has no bounds to compare, and counts no elements

abbrev pub is_reversed : Dimension → Bool
is_reversed d = int_lt d.upper d.lower

abbrev pub dimensions_by : Types → Known → DeclaratorTree → List Dimension
dimensions_by types known d = map (dimension_of types known) d.bounds

abbrev pub elements_of : Types → Known → DeclaratorTree → ℕ
elements_of types known d =
    if nat_lt 0 (length d.bounds) && not (lacks_bound types known d)
    then size (dimensions_by types known d) else 0

abbrev pub is_too_large : Types → Known → ℕ → DeclaratorTree → Bool
is_too_large types known before d =
    nat_lt 7 (length d.bounds)
    || (not (lacks_bound types known d) && (list_any is_reversed (dimensions_by types known d)
    || (nat_lt 0 (length d.bounds) && nat_lt 16777216 (before + elements_of types known d))))

abbrev pub have_too_large : Types → Known → ℕ → List DeclaratorTree → Bool
have_too_large types known before [] = false
have_too_large types known before (d ∷ ds) =
    is_too_large types known before d
    || have_too_large types known (before + elements_of types known d) ds

-- the elements of the arrays that statements declare
unfoldable pub elements_in : Symbols → List ItemTree → List ItemTree → ℕ
elements_in r before [] = 0
elements_in r before (x ∷ xs) =
    sum_by (elements_of r.names.types (known_behind_all r before)) (declarators_in x.shape) +
    elements_in r (before ++ x ∷ []) xs

abbrev pub has_large_array : Symbols → List ItemTree → ItemTree → Bool
has_large_array r before x =
    have_too_large r.names.types (known_behind_all r before) (elements_in r [] before)
    (declarators_in x.shape)

-- What the names of a program unit stand for: its constants (ANSI X3.9-1978, 8.6), arrays (5.1),
-- statement functions (15.4) and intrinsic functions (15.3).
use Rattle.std.specs.Prelude.{ℕ, ℤ, pos, Bool, true, false, ◌&&◌, nat_lt, length, List, [], ◌∷◌}
use Rattle.std.specs.Prelude.{map, flat_map, is_some, if◌then◌else◌, Option, Some, None, Ok, Err}
use Rattle.std.specs.Prelude.{reverse}
use Rattle.std.specs.List.{fold, list_any}
use Rattle.std.specs.Str.{bytes_eq}
use Rattle.meaning.specs.declared.ending.Value.{Value}
use Rattle.meaning.specs.Syntax.{ExprTree, name, ExprsTree, no_exprs, exprs, BoundsTree}
use Rattle.meaning.specs.Syntax.{DeclaratorTree, ConstantTree, ShapeTree, typing, logical_typing}
use Rattle.meaning.specs.Syntax.{dimensioning, parameter, format, naming, implying, implicit_none}
use Rattle.meaning.specs.Syntax.{initializing, assignment, definition, ItemTree}
use Rattle.meaning.specs.Arrays.{Dimension}
use Rattle.meaning.specs.Types.{Types, types_of}
use Rattle.meaning.specs.Values.{Valued, Arrays, Known, Calls, Scope, value, as_integer}
use Rattle.meaning.specs.Intrinsics.{Intrinsic, intrinsic_named, intrinsic_value}
use Rattle.meaning.specs.Maps.{Map, start}

-- ---- constants (8.6)

abbrev pub nothing_known : Known
nothing_known n = None

abbrev pub intrinsic_call : Option Intrinsic → Option (List Value → Map → Valued)
intrinsic_call None = None
intrinsic_call (Some f) = Some (λ vs m. intrinsic_value f (map as_integer vs))

-- a scope of constants and intrinsic functions alone; the rules leave no function in an expression
-- of constants
abbrev pub constants_alone : Types → Known → Scope
constants_alone types known =
    record {
      types = types;
      arrays = λ n. None;
      known = known;
      calls = λ n. intrinsic_call
          (intrinsic_named n);
    }

abbrev pub value_if : Valued → Option Value
value_if (Ok v) = Some v
value_if (Err k) = None

-- the value of an expression of constants, if it has one
abbrev pub constant_value : Types → Known → ExprTree → Option Value
constant_value types known e = value_if (value (constants_alone types known) e start)

abbrev pub with_constant : Types → Known → ConstantTree → Known
with_constant types known c =
    λ n. if bytes_eq n c.name then constant_value types known c.value else known n

-- what is known behind a statement
abbrev pub constants_in : ShapeTree → List ConstantTree
constants_in (parameter cs) = cs
constants_in s = []

abbrev pub known_behind : Types → Known → ShapeTree → Known
known_behind types known s = fold (with_constant types) known (constants_in s)

abbrev pub known_of : Types → List ItemTree → Known
known_of types all = fold (λ known x. known_behind types known x.shape) nothing_known all

-- ---- arrays (5.1)

-- the declarators of INTEGER, LOGICAL and DIMENSION statements
abbrev pub declarators_in : ShapeTree → List DeclaratorTree
declarators_in (typing ds) = ds
declarators_in (logical_typing ds) = ds
declarators_in (dimensioning ds) = ds
declarators_in s = []

abbrev pub declares : List ℕ → DeclaratorTree → Bool
declares n d = bytes_eq n d.name

-- the declarator gives the name bounds
abbrev pub gives_bounds : List ℕ → DeclaratorTree → Bool
gives_bounds n d = declares n d && nat_lt 0 (length d.bounds)

-- the value of a bound; the rules leave INTEGER constants
abbrev pub integer_if : Option Value → ℤ
integer_if (Some v) = as_integer v
integer_if None = pos 0

abbrev pub lower_of : Types → Known → Option ExprTree → ℤ
lower_of types known None = pos 1
lower_of types known (Some e) = integer_if (constant_value types known e)

abbrev pub dimension_of : Types → Known → BoundsTree → Dimension
dimension_of types known b =
    record {
      lower = lower_of types known b.lower;
      upper = integer_if
          (constant_value types known b.upper);
    }

abbrev pub dimensions_in : Types → Known → List DeclaratorTree → Arrays
dimensions_in types known [] n = None
dimensions_in types known (d ∷ ds) n =
    if gives_bounds n d then Some (map (dimension_of types known) d.bounds)
    else dimensions_in types known ds n

abbrev pub or_dimensions : Option (List Dimension) → Option (List Dimension) →
    Option (List Dimension)
or_dimensions None o = o
or_dimensions (Some ds) o = Some ds

-- the arrays that statements declare, with what is known where they stand; the first declarator
-- that gives bounds counts
unfoldable pub arrays_from : Types → Known → List ItemTree → Arrays
arrays_from types known [] n = None
arrays_from types known (x ∷ xs) n =
    or_dimensions (dimensions_in types known (declarators_in x.shape) n)
    (arrays_from types (known_behind types known x.shape) xs n)

-- ---- statement functions (15.4)

-- its name, its dummies and its expression
pub record Definition : Type 0 where
  pub name : List ℕ
  pub dummies : List ExprTree
  pub body : ExprTree

abbrev pub definition_if : Bool → List ℕ → List ExprTree → ExprTree → Option Definition
definition_if true n dummies e = None
definition_if false n dummies e = Some (record { name = n; dummies = dummies; body = e })

abbrev pub listed : ExprsTree → List ExprTree
listed no_exprs = []
listed (exprs e es) = e ∷ listed es

-- the names among dummies; the rules leave nothing else
abbrev pub dummy_name : ExprTree → List (List ℕ)
dummy_name (name letters) = letters ∷ []
dummy_name e = []

-- a dummy has a scope of its own, its statement function's statement (18.2.3)
abbrev pub is_dummy : List ExprTree → List ℕ → Bool
is_dummy dummies n = list_any (bytes_eq n) (flat_map dummy_name dummies)

-- a statement that assigns to a name with parentheses that is no array's may be a statement
-- function's
abbrev pub defined_by : Arrays → ShapeTree → Option Definition
defined_by arrays (assignment n (exprs e es) body) =
    definition_if (is_some (arrays n)) n (e ∷ listed es) body
defined_by arrays (definition n body) = definition_if (is_some (arrays n)) n [] body
defined_by arrays s = None

-- PROGRAM, IMPLICIT, IMPLICIT NONE, PARAMETER, type, DIMENSION, DATA and FORMAT statements aren't
-- executable (chapter 7)
abbrev pub is_specification : ShapeTree → Bool
is_specification (naming letters) = true
is_specification (implying parts) = true
is_specification implicit_none = true
is_specification (parameter constants) = true
is_specification (typing ds) = true
is_specification (logical_typing ds) = true
is_specification (dimensioning ds) = true
is_specification (initializing sets) = true
is_specification (format text) = true
is_specification s = false

abbrev pub defined_before : Option Definition → Bool → List Definition → List Definition
defined_before (Some d) passes more = d ∷ more
defined_before None true more = more
defined_before None false more = []

-- the statement functions stand before all executable statements
unfoldable pub definitions_of : Arrays → List ItemTree → List Definition
definitions_of arrays [] = []
definitions_of arrays (x ∷ xs) =
    defined_before (defined_by arrays x.shape) (is_specification x.shape) (definitions_of arrays xs)

-- ---- calls

-- the value that goes with a dummy
abbrev pub with_dummies : List ExprTree → List Value → Known → Known
with_dummies (name letters ∷ es) (v ∷ vs) known =
    λ n. if bytes_eq n letters then Some v else with_dummies es vs known n
with_dummies es vs known = known

-- a statement function's value is that of its expression, with its own dummies put in; it calls
-- those before it and intrinsic functions. The definitions stand last to first
unfoldable pub calls_by : Types → Arrays → Known → List Definition → Calls
calls_by types arrays known [] n = intrinsic_call (intrinsic_named n)
calls_by types arrays known (d ∷ ds) n =
    if bytes_eq n d.name
    then Some (λ vs m. value
    (record {
      types = types;
      arrays = arrays;
      known = with_dummies d.dummies vs known;
      calls =
          calls_by types arrays known ds;
    }) d.body m)
    else calls_by types arrays known ds n

-- ---- the whole scope

abbrev pub arrays_of : List ItemTree → Arrays
arrays_of all = arrays_from (types_of all) nothing_known all

abbrev pub scope_of : List ItemTree → Scope
scope_of all = record {
  types = types_of all;
  arrays = arrays_of all;
  known = known_of (types_of all) all;
  calls = calls_by (types_of all) (arrays_of all) (known_of (types_of all) all)
      (reverse (definitions_of (arrays_of all) all));
}

-- The types of expressions (ANSI X3.9-1978, 6.1 to 6.4), and what is of the wrong type. Nothing is
-- converted. A part whose type isn't known, a REAL name or an unknown function, agrees with every
-- type.
use Rattle.std.specs.Prelude.{ℕ, Bool, true, false, not, ◌&&◌, ◌||◌, List, [], ◌∷◌, ◌++◌, map}
use Rattle.std.specs.Prelude.{flat_map, is_some, if◌then◌else◌, Option, Some, None}
use Rattle.std.specs.List.{list_any}
use Rattle.meaning.specs.declared.syntax.DataType.{DataType}
use Rattle.meaning.specs.declared.syntax.DataType.TheVariants as types
use Rattle.meaning.specs.declared.syntax.Operator.{Operator}
use Rattle.meaning.specs.declared.syntax.Operator.TheVariants as operators
use Rattle.meaning.specs.Syntax.{ExprTree, number, truth, name, signed, negated, binary, paren}
use Rattle.meaning.specs.Syntax.{element, call, ExprsTree, no_exprs, exprs, BoundsTree, UnitTree}
use Rattle.meaning.specs.Syntax.{star, unit_number, LimitsTree, ListItemsTree, no_items, more_items}
use Rattle.meaning.specs.Syntax.{value_item, loop_item, ShapeTree, assignment, writing, printing}
use Rattle.meaning.specs.Syntax.{doing, parameter, initializing, definition, computed_going}
use Rattle.meaning.specs.Syntax.{arithmetic_if, logical_if, block_if, else_if, doing_while}
use Rattle.meaning.specs.Types.{Types}
use Rattle.meaning.specs.Values.{Arrays}
use Rattle.meaning.specs.Scopes.{listed, declarators_in, is_dummy}

-- what is said of names: their types, which are arrays, the dummies of statement functions, and
-- which are intrinsic functions
pub record Names : Type 0 where
  pub types : Types
  pub arrays : Arrays
  pub functions : List ℕ → Option (List ExprTree)
  pub intrinsics : List ℕ → Bool

-- the same in the statement of a statement function: there a dummy is no array and no function
abbrev pub unless_dummy : {A : Type 0} → List ExprTree → (List ℕ → Option A) → List ℕ → Option A
unless_dummy dummies said n = if is_dummy dummies n then None else said n

abbrev pub within : List ExprTree → Names → Names
within dummies ns = record {
  types = ns.types;
  arrays = unless_dummy dummies ns.arrays;
  functions = unless_dummy dummies ns.functions;
  intrinsics = λ n. not (is_dummy dummies n) && ns.intrinsics n;
}

-- a type, if it is known
abbrev pub SomeType : Type 0
SomeType = Option DataType

abbrev pub integer_type : SomeType
integer_type = Some types.Integer

abbrev pub logical_type : SomeType
logical_type = Some types.Logical

-- the type of the operands, and of the result
abbrev pub is_logical_operator : Operator → Bool
is_logical_operator operators.And = true
is_logical_operator operators.Or = true
is_logical_operator operators.Equivalent = true
is_logical_operator operators.NotEquivalent = true
is_logical_operator o = false

abbrev pub is_arithmetic_operator : Operator → Bool
is_arithmetic_operator operators.Power = true
is_arithmetic_operator operators.Multiply = true
is_arithmetic_operator operators.Divide = true
is_arithmetic_operator operators.Add = true
is_arithmetic_operator operators.Subtract = true
is_arithmetic_operator o = false

abbrev pub operand_type : Operator → SomeType
operand_type o = if is_logical_operator o then logical_type else integer_type

abbrev pub result_type : Operator → SomeType
result_type o = if is_arithmetic_operator o then integer_type else logical_type

-- the type of a name with parentheses: an array's, a statement function's, an intrinsic function's
abbrev pub reference_type : Names → List ℕ → SomeType
reference_type ns n =
    if is_some (ns.arrays n) || is_some (ns.functions n) then ns.types n
    else (if ns.intrinsics n then integer_type else None)

abbrev pub type_of : Names → ExprTree → SomeType
type_of ns (number digits) = integer_type
type_of ns (truth value) = logical_type
type_of ns (name letters) = ns.types letters
type_of ns (signed sign e) = integer_type
type_of ns (negated e) = logical_type
type_of ns (binary operator a b) = result_type operator
type_of ns (paren e) = type_of ns e
type_of ns (element letters es) = reference_type ns letters
type_of ns (call letters) = reference_type ns letters

-- two known types that differ
abbrev pub clash : SomeType → SomeType → Bool
clash (Some types.Integer) (Some types.Logical) = true
clash (Some types.Logical) (Some types.Integer) = true
clash j k = false

-- the types that arguments or subscripts should have, first to last, and that of any further one
pub record Wanted : Type 0 where
  pub first : List SomeType
  pub others : SomeType

abbrev pub all_integer : Wanted
all_integer = record { first = []; others = integer_type }

abbrev pub any_type : Wanted
any_type = record { first = []; others = None }

-- dummies that are no names break another rule
abbrev pub wanted_if : Option (List ExprTree) → Names → Wanted → Wanted
wanted_if (Some dummies) ns other = record { first = map (type_of ns) dummies; others = None }
wanted_if None ns other = other

abbrev pub wanted_by : Names → List ℕ → Wanted
wanted_by ns n =
    if is_some (ns.arrays n) then all_integer
    else wanted_if (ns.functions n) ns (if ns.intrinsics n then all_integer else any_type)

abbrev pub first_or : SomeType → List SomeType → SomeType
first_or k [] = k
first_or k (j ∷ js) = j

abbrev pub behind_first : List SomeType → List SomeType
behind_first [] = []
behind_first (j ∷ js) = js

abbrev pub next_wanted : Wanted → SomeType
next_wanted w = first_or w.others w.first

abbrev pub further_wanted : Wanted → Wanted
further_wanted w = record { first = behind_first w.first; others = w.others }

abbrev mutual
  -- an operand, argument or subscript in an expression is of the wrong type
  pub is_ill : Names → ExprTree → Bool
  is_ill ns (number digits) = false
  is_ill ns (truth value) = false
  is_ill ns (name letters) = false
  is_ill ns (signed sign e) = clash integer_type (type_of ns e) || is_ill ns e
  is_ill ns (negated e) = clash logical_type (type_of ns e) || is_ill ns e
  is_ill ns (binary operator a b) =
      (clash (operand_type operator) (type_of ns a) || is_ill ns a)
      || (clash (operand_type operator) (type_of ns b) || is_ill ns b)
  is_ill ns (paren e) = is_ill ns e
  is_ill ns (element letters es) = are_ill ns (wanted_by ns letters) es
  is_ill ns (call letters) = false

  pub are_ill : Names → Wanted → ExprsTree → Bool
  are_ill ns w no_exprs = false
  are_ill ns w (exprs e es) =
      (clash (next_wanted w) (type_of ns e) || is_ill ns e) || are_ill ns (further_wanted w) es

-- ---- statements

-- an expression and the type that it should have
pub record Expected : Type 0 where
  pub data_type : SomeType
  pub expr : ExprTree

abbrev pub expected : SomeType → ExprTree → Expected
expected k e = record { data_type = k; expr = e }

abbrev pub is_mistyped : Names → Expected → Bool
is_mistyped ns x = clash x.data_type (type_of ns x.expr) || is_ill ns x.expr

abbrev pub option_list : {A : Type 0} → Option A → List A
option_list None = []
option_list (Some x) = x ∷ []

abbrev pub in_limits : LimitsTree → List Expected
in_limits l = map (expected integer_type) (l.first ∷ (l.last ∷ option_list l.step))

abbrev pub in_bounds : BoundsTree → List Expected
in_bounds b = map (expected integer_type) (option_list b.lower ++ b.upper ∷ [])

-- an item of an output list has either type; what stands in the parentheses of an item of DATA are
-- subscripts, whether or not its name is an array's
abbrev pub in_item : Bool → ExprTree → List Expected
in_item true (element letters es) = map (expected integer_type) (listed es)
in_item of_data e = expected None e ∷ []

abbrev pub in_items : Bool → ListItemsTree → List Expected
in_items of_data no_items = []
in_items of_data (more_items (value_item e) xs) = in_item of_data e ++ in_items of_data xs
in_items of_data (more_items (loop_item ys variable limits) xs) =
    in_items of_data ys ++ (in_limits limits ++ in_items of_data xs)

abbrev pub in_unit : UnitTree → List Expected
in_unit star = []
in_unit (unit_number e) = expected None e ∷ []

-- the subscripts of an array that is set, or what stands there without one: dummies, and what
-- should be one
abbrev pub in_target : Names → List ℕ → ExprsTree → List Expected
in_target ns n es =
    map (expected (if is_some (ns.arrays n) then integer_type else None)) (listed es)

-- the expressions of a statement
abbrev pub expected_in : Names → ShapeTree → List Expected
expected_in ns (assignment n es e) = in_target ns n es ++ expected (ns.types n) e ∷ []
expected_in ns (definition n e) = expected (ns.types n) e ∷ []
expected_in ns (writing control list) = in_unit control.unit ++ in_items false list
expected_in ns (printing source list) = in_items false list
expected_in ns (doing label comma variable limits) = in_limits limits
expected_in ns (doing_while label comma e) = expected logical_type e ∷ []
expected_in ns (parameter cs) = map (λ c. expected (ns.types c.name) c.value) cs
expected_in ns (initializing sets) = flat_map (λ x. in_items true x.list) sets
expected_in ns (computed_going labels comma e) = expected integer_type e ∷ []
expected_in ns (arithmetic_if e negative zero positive) = expected integer_type e ∷ []
expected_in ns (logical_if e statement) = expected logical_type e ∷ expected_in ns statement
expected_in ns (block_if e) = expected logical_type e ∷ []
expected_in ns (else_if e) = expected logical_type e ∷ []
expected_in ns s = flat_map (λ d. flat_map in_bounds d.bounds) (declarators_in s)

-- the dummies of a statement that is a statement function's
abbrev pub dummies_in : ShapeTree → List ExprTree
dummies_in (assignment n es e) = listed es
dummies_in s = []

abbrev pub dummies_if : Bool → ShapeTree → List ExprTree
dummies_if true s = dummies_in s
dummies_if false s = []

-- K5
abbrev pub has_wrong_type : Names → Bool → ShapeTree → Bool
has_wrong_type ns defines s =
    list_any (is_mistyped (within (dummies_if defines s) ns)) (expected_in ns s)

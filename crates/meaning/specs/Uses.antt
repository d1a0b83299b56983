-- Uses of names in the statements of a program unit, and what the names are: constants, arrays,
-- statement functions, variables (ANSI X3.9-1978, chapters 5, 8 and 15, and 18.2).
use Rattle.std.specs.Prelude.{ℕ, suc, Bool, true, false, not, ◌&&◌, ◌||◌, List, [], ◌∷◌, ◌++◌, map}
use Rattle.std.specs.Prelude.{flat_map, is_some, is_none, if◌then◌else◌, Option, Some, None}
use Rattle.std.specs.List.{list_any, list_all, filter}
use Rattle.std.specs.Str.{bytes_eq}
use Rattle.meaning.specs.Syntax.{ExprTree, number, truth, name, signed, negated, binary, paren}
use Rattle.meaning.specs.Syntax.{element, call, ExprsTree, no_exprs, exprs, UnitTree, star}
use Rattle.meaning.specs.Syntax.{unit_number, LimitsTree, ListItemsTree, no_items, more_items}
use Rattle.meaning.specs.Syntax.{value_item, loop_item, DataConstantTree, data_number, data_truth}
use Rattle.meaning.specs.Syntax.{data_name, RepeatTree, repeat_number, repeat_name, DataValueTree}
use Rattle.meaning.specs.Syntax.{DataSetTree, ShapeTree, assignment, writing, printing, doing}
use Rattle.meaning.specs.Syntax.{parameter, initializing, definition, computed_going, arithmetic_if}
use Rattle.meaning.specs.Syntax.{logical_if, block_if, else_if, doing_while, ItemTree}
use Rattle.meaning.specs.Types.{types_of}
use Rattle.meaning.specs.Intrinsics.{intrinsic_named}
use Rattle.meaning.specs.Scopes.{listed, constants_in, declarators_in, arrays_of, Definition}
use Rattle.meaning.specs.Scopes.{definitions_of, defined_by, is_dummy, is_specification}
use Rattle.meaning.specs.Typing.{Names, option_list, in_bounds}

-- a use of a name: without parentheses, or with so many subscripts or arguments
pub record Use : Type 0 where
  pub name : List ℕ
  pub arguments : Option ℕ

abbrev pub bare_use : List ℕ → Use
bare_use n = record { name = n; arguments = None }

abbrev pub use_with : List ℕ → ℕ → Use
use_with n k = record { name = n; arguments = Some k }

abbrev pub count : ExprsTree → ℕ
count no_exprs = 0
count (exprs e es) = suc (count es)

-- the uses in an expression from the left
abbrev mutual
  pub uses_in : ExprTree → List Use
  uses_in (number digits) = []
  uses_in (truth value) = []
  uses_in (name letters) = bare_use letters ∷ []
  uses_in (signed sign e) = uses_in e
  uses_in (negated e) = uses_in e
  uses_in (binary operator a b) = uses_in a ++ uses_in b
  uses_in (paren e) = uses_in e
  uses_in (element letters es) = use_with letters (count es) ∷ uses_in_all es
  uses_in (call letters) = use_with letters 0 ∷ []

  pub uses_in_all : ExprsTree → List Use
  uses_in_all no_exprs = []
  uses_in_all (exprs e es) = uses_in e ++ uses_in_all es

-- ---- what names are

-- a name that a PARAMETER statement defines
abbrev pub defined_constants : List ItemTree → List (List ℕ)
defined_constants all = flat_map (λ x. map (λ c. c.name) (constants_in x.shape)) all

abbrev pub dummies_named : List Definition → List ℕ → Option (List ExprTree)
dummies_named [] n = None
dummies_named (d ∷ ds) n = if bytes_eq n d.name then Some d.dummies else dummies_named ds n

-- what the statements of a program unit say of names
pub record Symbols : Type 0 where
  pub names : Names
  pub constants : List (List ℕ)

abbrev pub symbols_of : List ItemTree → Symbols
symbols_of all = record {
  names = record {
    types = types_of all;
    arrays = arrays_of all;
    functions = dummies_named
        (definitions_of (arrays_of all) all);
    intrinsics = λ n. is_some (intrinsic_named n);
  };
  constants = defined_constants all;
}

abbrev pub is_one_of : List (List ℕ) → List ℕ → Bool
is_one_of names n = list_any (bytes_eq n) names

abbrev pub is_constant : Symbols → List ℕ → Bool
is_constant r n = is_one_of r.constants n

abbrev pub is_array : Symbols → List ℕ → Bool
is_array r n = is_some (r.names.arrays n)

abbrev pub is_function : Symbols → List ℕ → Bool
is_function r n = is_some (r.names.functions n)

-- none of these: a variable, where it stands without parentheses, or a function of another kind
abbrev pub is_other : Symbols → List ℕ → Bool
is_other r n = not (is_constant r n) && (not (is_array r n) && not (is_function r n))

-- ---- uses in statements

-- in its statement function a dummy hides the program's own name, also where that has parentheses
abbrev pub shown : List ExprTree → List Use → List Use
shown dummies us = filter (λ u. not (is_dummy dummies u.name)) us

abbrev pub unit_uses : UnitTree → List Use
unit_uses star = []
unit_uses (unit_number e) = uses_in e

abbrev pub limit_uses : LimitsTree → List Use
limit_uses l = uses_in l.first ++ (uses_in l.last ++ flat_map uses_in (option_list l.step))

-- an item that is a name alone stands for a whole array, if it is an array's
abbrev pub value_uses : Symbols → ExprTree → List Use
value_uses r (name letters) = if is_array r letters then [] else bare_use letters ∷ []
value_uses r e = uses_in e

-- an implied DO sets its variable
abbrev pub item_uses : Symbols → ListItemsTree → List Use
item_uses r no_items = []
item_uses r (more_items (value_item e) xs) = value_uses r e ++ item_uses r xs
item_uses r (more_items (loop_item ys variable limits) xs) =
    item_uses r ys ++ (bare_use variable ∷ (limit_uses limits ++ item_uses r xs))

-- in a DATA statement it has nothing to do with the program's own variables (9.3)
abbrev pub is_variable_of : List ℕ → Use → Bool
is_variable_of n u = is_none u.arguments && bytes_eq n u.name

abbrev pub without : List ℕ → List Use → List Use
without n us = filter (λ u. not (is_variable_of n u)) us

-- the variables and elements that a DATA statement gives values; what has parentheses there is no
-- function reference
abbrev pub given_uses : Symbols → ExprTree → List Use
given_uses r (name letters) = value_uses r (name letters)
given_uses r (element letters es) = use_with letters (count es) ∷ []
given_uses r e = []

abbrev pub data_item_sets : Symbols → ListItemsTree → List Use
data_item_sets r no_items = []
data_item_sets r (more_items (value_item e) xs) = given_uses r e ++ data_item_sets r xs
data_item_sets r (more_items (loop_item ys variable limits) xs) =
    data_item_sets r ys ++ data_item_sets r xs

-- their subscripts, and the limits of implied DOs
abbrev pub subscript_uses : ExprTree → List Use
subscript_uses (element letters es) = uses_in_all es
subscript_uses e = []

abbrev pub data_item_uses : ListItemsTree → List Use
data_item_uses no_items = []
data_item_uses (more_items (value_item e) xs) = subscript_uses e ++ data_item_uses xs
data_item_uses (more_items (loop_item ys variable limits) xs) =
    without variable (data_item_uses ys) ++ (limit_uses limits ++ data_item_uses xs)

abbrev pub data_constant_uses : DataConstantTree → List Use
data_constant_uses (data_number sign digits) = []
data_constant_uses (data_truth value) = []
data_constant_uses (data_name letters) = bare_use letters ∷ []

abbrev pub repeat_uses : RepeatTree → List Use
repeat_uses (repeat_number digits) = []
repeat_uses (repeat_name letters) = bare_use letters ∷ []

abbrev pub data_value_uses : DataValueTree → List Use
data_value_uses v =
    flat_map repeat_uses (option_list v.repeat_count) ++ data_constant_uses v.constant

abbrev pub data_set_uses : DataSetTree → List Use
data_set_uses s = data_item_uses s.list ++ flat_map data_value_uses s.values

-- the use that an assignment makes of its target
abbrev pub target_use : List ℕ → ExprsTree → Use
target_use n no_exprs = bare_use n
target_use n (exprs e es) = use_with n (suc (count es))

-- what a statement sets, and what it has values of
pub record Parts : Type 0 where
  pub sets : List Use
  pub reads : List Use

abbrev pub reading : List Use → Parts
reading us = record { sets = []; reads = us }

-- a statement function's statement uses what its expression uses, and what stands in dummies that
-- are no names, its dummies aside
abbrev pub if_defines : Bool → Parts → Parts → Parts
if_defines true p q = p
if_defines false p q = q

abbrev pub parts_of : Symbols → Bool → ShapeTree → Parts
parts_of r defines (assignment n es e) =
    if_defines defines (reading (shown (listed es) (uses_in_all es ++ uses_in e)))
    (record { sets = target_use n es ∷ []; reads = uses_in_all es ++ uses_in e })
parts_of r defines (definition n e) =
    if_defines defines (reading (uses_in e))
    (record { sets = use_with n 0 ∷ []; reads = uses_in e })
parts_of r defines (writing control list) = reading (unit_uses control.unit ++ item_uses r list)
parts_of r defines (printing source list) = reading (item_uses r list)
parts_of r defines (doing label comma variable limits) =
    record { sets = bare_use variable ∷ []; reads = limit_uses limits }
parts_of r defines (doing_while label comma e) = reading (uses_in e)
parts_of r defines (parameter cs) = reading (flat_map (λ c. uses_in c.value) cs)
parts_of r defines (initializing sets) =
    record {
      sets = flat_map (λ x. data_item_sets r x.list) sets;
      reads = flat_map data_set_uses
          sets;
    }
parts_of r defines (computed_going labels comma e) = reading (uses_in e)
parts_of r defines (arithmetic_if e negative zero positive) = reading (uses_in e)
parts_of r defines (logical_if e statement) =
    record {
      sets = (parts_of r false statement).sets;
      reads = uses_in e
          ++ (parts_of r false statement).reads;
    }
parts_of r defines (block_if e) = reading (uses_in e)
parts_of r defines (else_if e) = reading (uses_in e)
parts_of r defines s =
    reading (flat_map (λ d. flat_map (λ b. flat_map (λ x. uses_in x.expr) (in_bounds b)) d.bounds)
    (declarators_in s))

-- no executable statement stands before
abbrev pub is_before_executables : Symbols → List ItemTree → Bool
is_before_executables r before =
    list_all (λ y. is_specification y.shape || is_some (defined_by r.names.arrays y.shape)) before

-- the statement is a statement function's
abbrev pub is_defining : Symbols → List ItemTree → ItemTree → Bool
is_defining r before x =
    is_before_executables r before && is_some (defined_by r.names.arrays x.shape)

abbrev pub parts_at : Symbols → List ItemTree → ItemTree → Parts
parts_at r before x = parts_of r (is_defining r before x) x.shape

abbrev pub uses_at : Symbols → List ItemTree → ItemTree → List Use
uses_at r before x = (parts_at r before x).sets ++ (parts_at r before x).reads

-- the same of statements that stand behind others
abbrev pub joined : Parts → Parts → Parts
joined p q = record { sets = p.sets ++ q.sets; reads = p.reads ++ q.reads }

unfoldable pub parts_from : Symbols → List ItemTree → List ItemTree → Parts
parts_from r before [] = reading []
parts_from r before (x ∷ xs) = joined (parts_at r before x) (parts_from r (before ++ x ∷ []) xs)

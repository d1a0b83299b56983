-- What the execution of statements evaluates, sets and counts with, and when there can be codes of
-- it (ANSI X3.9-1978, chapters 6 and 10 to 12).
use Rattle.std.specs.Prelude.{◌≡◌, ◌<◌, ◌≤◌, ◌^◌, ℕ, List, [], ◌∷◌, ◌++◌, if◌then◌else◌, is_some}
use Rattle.std.specs.Prelude.{length, Option, Some, None, false, map, slice_get, take}
use Rattle.std.specs.List.{AllByRecursion}
use Rattle.meaning.specs.Arrays.{Dimension, cell_of}
use Rattle.meaning.specs.Characters.{number_of}
use Rattle.meaning.specs.Maps.{CellNumbers}
use Rattle.meaning.specs.NumberRules.{numbers_in}
use Rattle.meaning.specs.Scopes.{Definition, arrays_of, listed}
use Rattle.meaning.specs.Surroundings.{controlled_by}
use Rattle.meaning.specs.Syntax.{ExprTree, name, no_exprs, exprs, LimitsTree, ListItemsTree}
use Rattle.meaning.specs.Syntax.{no_items, more_items, value_item, loop_item, ShapeTree}
use Rattle.meaning.specs.Syntax.{arithmetic_if, assignment, block_if, computed_going, doing}
use Rattle.meaning.specs.Syntax.{doing_while, else_if, logical_if, printing, writing}
use Rattle.meaning.specs.Typing.{option_list}
use Rattle.meaning.specs.Trees.{Nested, flatten}
use Rattle.meaning.specs.Uses.{Use, is_one_of, target_use, uses_in}
use Rattle.meaning.specs.Values.{Arrays}
use Rattle.expressions.specs.Glossaries.{Glossary}
use Rattle.storage.specs.Checked.{glossary_of}
use Rattle.storage.specs.Numbered.{named_of}
use Rattle.rule_laws.specs.References.{HasCell, HasElement, IsReference}

-- ---- expressions

abbrev pub in_limits : LimitsTree → List ExprTree
in_limits l = l.first ∷ (l.last ∷ option_list l.step)

-- an item that is an array's name stands for its elements, and isn't evaluated
abbrev pub in_item : Arrays → ExprTree → List ExprTree
in_item arrays (name n) = if is_some (arrays n) then [] else name n ∷ []
in_item arrays e = e ∷ []

abbrev pub in_items : Arrays → ListItemsTree → List ExprTree
in_items arrays no_items = []
in_items arrays (more_items (value_item e) xs) = in_item arrays e ++ in_items arrays xs
in_items arrays (more_items (loop_item ys variable limits) xs) =
    in_items arrays ys ++ (in_limits limits ++ in_items arrays xs)

-- those of a statement; a statement function's statement is passed over
abbrev pub evaluated : Arrays → ShapeTree → List ExprTree
evaluated arrays (assignment n no_exprs e) = e ∷ []
evaluated arrays (assignment n (exprs d ds) e) =
    if is_some (arrays n) then d ∷ (listed ds ++ e ∷ []) else []
evaluated arrays (writing control list) = in_items arrays list
evaluated arrays (printing source list) = in_items arrays list
evaluated arrays (doing label comma variable limits) = in_limits limits
evaluated arrays (doing_while label comma e) = e ∷ []
evaluated arrays (computed_going labels comma e) = e ∷ []
evaluated arrays (arithmetic_if e negative zero positive) = e ∷ []
evaluated arrays (logical_if e s) = e ∷ evaluated arrays s
evaluated arrays (block_if e) = e ∷ []
evaluated arrays (else_if e) = e ∷ []
evaluated arrays s = []

-- constants are in range, and names with parentheses are references
pub record IsFit (g : Glossary) (numbers : CellNumbers) (callable : ℕ) (e : ExprTree) : Type 0 where
  pub constants : AllByRecursion (λ digits. number_of digits < 2 ^ 31) (numbers_in e)
  pub references : AllByRecursion (IsReference g numbers callable) (uses_in e)

-- ---- targets of assignments

abbrev pub targets_of : ShapeTree → List Use
targets_of (assignment n es e) = target_use n es ∷ []
targets_of (logical_if e s) = targets_of s
targets_of s = []

-- so many subscripts of an array; what is no array's defines a statement function
abbrev pub IsTargetAs : CellNumbers → List ℕ → ℕ → Option (List Dimension) → Type 0
IsTargetAs numbers n count (Some ds) = (count ≡ length ds) × HasElement numbers n
IsTargetAs numbers n count None = Unit {0}

abbrev pub IsTargetBy : Arrays → CellNumbers → List ℕ → Option ℕ → Type 0
IsTargetBy arrays numbers n None = HasCell numbers n []
IsTargetBy arrays numbers n (Some count) = IsTargetAs numbers n count (arrays n)

-- a variable has a cell
abbrev pub IsTarget : Arrays → CellNumbers → Use → Type 0
IsTarget arrays numbers u = IsTargetBy arrays numbers u.name u.arguments

-- ---- statements and statement functions

-- as its execution wants it: its expressions, its target, and the variables of its loops, which
-- have cells
pub record IsReady (g : Glossary) (numbers : CellNumbers) (s : ShapeTree) : Type 0 where
  pub expressions : AllByRecursion (IsFit g numbers (length g.definitions)) (evaluated g.arrays s)
  pub targets : AllByRecursion (IsTarget g.arrays numbers) (targets_of s)
  pub counters : AllByRecursion (λ n. HasCell numbers n []) (controlled_by s)

-- one that stands behind so many others, which its expression may call; it has sixteen dummies at
-- most
pub record IsReadyFunction (g : Glossary) (numbers : CellNumbers) (at : ℕ) (d : Definition) : Type 0
  where
    pub body : IsFit g numbers at d.body
    pub dummies : length d.dummies ≤ 16

-- ---- whole program units

abbrev pub names_of : Nested → Glossary
names_of t = glossary_of (flatten t)

abbrev pub numbers_of : Nested → CellNumbers
numbers_of t = cell_of (named_of (flatten t))

abbrev pub AreReady : Nested → Type 0
AreReady t = AllByRecursion (λ x. IsReady (names_of t) (numbers_of t) x.shape) (flatten t)

abbrev pub AreReadyFunctions : Nested → Type 0
AreReadyFunctions t =
    (at : ℕ) (d : Definition) → slice_get (names_of t).definitions at ≡ Some d →
    IsReadyFunction (names_of t) (numbers_of t) at d

-- each array has an element with a cell
abbrev pub AreStored : Nested → Type 0
AreStored t =
    (n : List ℕ) (dims : List Dimension) → arrays_of (flatten t) n ≡ Some dims →
    HasElement (numbers_of t) n

-- no statement function has the name of one before it
abbrev pub AreOwnNames : Nested → Type 0
AreOwnNames t =
    (at : ℕ) (d : Definition) → slice_get (names_of t).definitions at ≡ Some d →
    is_one_of (map (λ e. e.name) (take at (names_of t).definitions)) d.name ≡ false

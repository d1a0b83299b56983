-- What a statement's execution needs is what the statement says (ANSI X3.9-1978, 10.1, chapter 11,
-- 12.8 and 15.4).
use Rattle.std.specs.Prelude.{◌≡◌, ◌⊎◌, ℕ, Bool, true, false, List, map, IsTrue, Option, None}
use Rattle.std.specs.Prelude.{IsSome}
use Rattle.meaning.specs.declared.syntax.Tree.{Tree}
use Rattle.meaning.specs.Answers.{told_by}
use Rattle.meaning.specs.Characters.{number_of}
use Rattle.meaning.specs.Scopes.{defined_by}
use Rattle.meaning.specs.Syntax.{ExprTree, ExprsTree, LimitsTree, StopTree, ShapeTree, assignment}
use Rattle.meaning.specs.Syntax.{format, doing, continuing, typing, ending, naming, implying}
use Rattle.meaning.specs.Syntax.{logical_typing, dimensioning, parameter, initializing, definition}
use Rattle.meaning.specs.Syntax.{going, computed_going, arithmetic_if, logical_if, block_if}
use Rattle.meaning.specs.Syntax.{else_if, otherwise, end_if, stopping, doing_while, end_do}
use Rattle.meaning.specs.Syntax.{implicit_none}
use Rattle.storage.specs.Checked.{names_in}
use Rattle.label_targets.specs.Quiet.{output_in}
use Rattle.postfix.specs.declared.code.Code.{Code}
use Rattle.program.specs.declared.action.Action.{Action}
use Rattle.program.specs.declared.action.Action.TheVariants.{Pass, Assign, Continue, GoTo}
use Rattle.program.specs.declared.action.Action.TheVariants.{ComputedGoTo, ArithmeticIf, Stop}
use Rattle.program.specs.declared.action.Action.TheVariants.{Output, If', Test, Repeat as Do}
use Rattle.program.specs.declared.action.Action.TheVariants.{While}
use Rattle.program.specs.declared.action.Repeat.{Repeat}
use Rattle.program.specs.declared.action.Target.{Target}
use Rattle.program.specs.Codes.{AreLimits, IsCell, IsCode, IsTarget}
use Rattle.program.specs.Items.{AreItemsOf}

-- ---- what is passed over

-- it is not executable, or it is ELSE, END IF or END
abbrev pub is_idle : ShapeTree → Bool
is_idle (naming n) = true
is_idle (implying parts) = true
is_idle implicit_none = true
is_idle (parameter cs) = true
is_idle (typing ds) = true
is_idle (logical_typing ds) = true
is_idle (dimensioning ds) = true
is_idle (initializing sets) = true
is_idle (format text) = true
is_idle (definition n e) = true
is_idle otherwise = true
is_idle end_if = true
is_idle ending = true
is_idle s = false

-- an assignment that defines a statement function
pub record Defines (t : Tree) (s : ShapeTree) : Type 0 where
  pub name : List ℕ
  pub dummies : ExprsTree
  pub body : ExprTree
  pub is : s ≡ assignment name dummies body
  pub defined : IsSome (defined_by (names_in t).arrays (assignment name dummies body))

-- ---- what is executed

pub record Assigns (t : Tree) (target : Target) (c : Code) (s : ShapeTree) : Type 0 where
  pub name : List ℕ
  pub subscripts : ExprsTree
  pub value : ExprTree
  pub is : s ≡ assignment name subscripts value
  pub executable : defined_by (names_in t).arrays (assignment name subscripts value) ≡ None
  pub place : IsTarget t name subscripts target
  pub code : IsCode t value c

pub record Goes (label : ℕ) (s : ShapeTree) : Type 0 where
  pub digits : List ℕ
  pub is : s ≡ going digits
  pub target : number_of digits ≡ label

pub record GoesByCount (t : Tree) (labels : List ℕ) (c : Code) (s : ShapeTree) : Type 0 where
  pub digits : List (List ℕ)
  pub comma : Bool
  pub value : ExprTree
  pub is : s ≡ computed_going digits comma value
  pub targets : map number_of digits ≡ labels
  pub code : IsCode t value c

pub record GoesBySign (t : Tree) (c : Code) (negative zero positive : ℕ) (s : ShapeTree) : Type 0
  where
    pub value : ExprTree
    pub below : List ℕ
    pub at_zero : List ℕ
    pub above : List ℕ
    pub is : s ≡ arithmetic_if value below at_zero above
    pub code : IsCode t value c
    pub negative_is : number_of below ≡ negative
    pub zero_is : number_of at_zero ≡ zero
    pub positive_is : number_of above ≡ positive

-- a STOP statement that tells this
pub record Stops (message : List ℕ) (s : ShapeTree) : Type 0 where
  pub text : StopTree
  pub is : s ≡ stopping text
  pub tells : told_by text ≡ message

-- a logical IF whose statement acts so
pub record Conditional (t : Tree) (c : Code) (acts : ShapeTree → Type 0) (s : ShapeTree) : Type 0
  where
    pub condition : ExprTree
    pub statement : ShapeTree
    pub is : s ≡ logical_if condition statement
    pub code : IsCode t condition c
    pub under : acts statement

pub record Tests (t : Tree) (c : Code) (s : ShapeTree) : Type 0 where
  pub condition : ExprTree
  pub is : (s ≡ block_if condition) ⊎ (s ≡ else_if condition)
  pub code : IsCode t condition c

-- the condition of a DO WHILE statement
pub record Whiles (t : Tree) (c : Code) (s : ShapeTree) : Type 0 where
  pub label : Option (List ℕ)
  pub comma : Bool
  pub condition : ExprTree
  pub is : s ≡ doing_while label comma condition
  pub code : IsCode t condition c

pub record Repeats (t : Tree) (r : Repeat) (s : ShapeTree) : Type 0 where
  pub label : Option (List ℕ)
  pub comma : Bool
  pub variable : List ℕ
  pub limits : LimitsTree
  pub is : s ≡ doing label comma variable limits
  pub counted : IsCell t variable r.variable
  pub are : AreLimits t limits r

abbrev pub Acts : Tree → Action → ShapeTree → Type 0
Acts t Pass s = IsTrue (is_idle s) ⊎ Defines t s
Acts t (Assign target c) s = Assigns t target c s
Acts t Continue s = (s ≡ continuing) ⊎ (s ≡ end_do)
Acts t (GoTo label) s = Goes label s
Acts t (ComputedGoTo labels c) s = GoesByCount t labels.items c s
Acts t (ArithmeticIf c negative zero positive) s = GoesBySign t c negative zero positive s
Acts t (Stop message) s = Stops message s
Acts t (Output list) s = AreItemsOf t (output_in s) list
Acts t (If' c p a) s = Conditional t c (Acts t a) s
Acts t (Test c) s = Tests t c s
Acts t (Do r) s = Repeats t r s
Acts t (While c) s = Whiles t c s

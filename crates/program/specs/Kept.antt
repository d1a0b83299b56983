-- What is kept by the lines of statements, and the codes of statement functions.
use Rattle.std.specs.Prelude.{◌≡◌, ◌≢◌, ◌<◌, ℕ, List, [], length, slice_get, Option, Some, None}
use Rattle.std.specs.List.{AllByRecursion}
use Rattle.meaning.specs.declared.syntax.Tree.{Tree}
use Rattle.meaning.specs.Syntax.{ItemTree, ShapeTree}
use Rattle.storage.specs.Checked.{count_in, names_in, numbers_in}
use Rattle.code_laws.specs.Functions.{HaveCodes}
use Rattle.postfix.specs.declared.code.Code.{Code}
use Rattle.program.specs.declared.action.Action.{Action}
use Rattle.program.specs.declared.action.Action.TheVariants.{Pass, Assign, Continue, GoTo}
use Rattle.program.specs.declared.action.Action.TheVariants.{ComputedGoTo, ArithmeticIf, Stop}
use Rattle.program.specs.declared.action.Action.TheVariants.{Output, If', Test, Repeat, While}
use Rattle.program.specs.declared.actions.Actions.{Actions}
use Rattle.program.specs.Acts.{Acts}

-- ---- by lines

abbrev pub in_place : {A : Type 0} → List A → Option ℕ → Option A
in_place kept None = None
in_place kept (Some i) = slice_get kept i

-- what is kept of the statement at a line
abbrev pub action_at : Actions → ℕ → Option Action
action_at a line = in_place a.actions.items (slice_get a.places.items line)

-- what stands in a list stays there
abbrev pub StayIn : {A : Type 0} → List A → List A → Type 0
StayIn {A} old new = (i : ℕ) (x : A) → slice_get old i ≡ Some x → slice_get new i ≡ Some x

-- what is kept stays
abbrev pub Keeps : Actions → Actions → Type 0
Keeps old new = (line : ℕ) (a : Action) → action_at old line ≡ Some a → action_at new line ≡ Some a

-- no action has the number of a line at which no statement begins
abbrev pub nowhere : ℕ
nowhere = 4294967295

abbrev pub IsNowhere : Option ℕ → Type 0
IsNowhere None = Unit {0}
IsNowhere (Some place) = place ≡ nowhere

pub record Adds (old : Actions) (line : ℕ) (a : Action) (new : Actions) : Type 0 where
  pub keeps : Keeps old new
  pub is : action_at new line ≡ Some a
  pub few : length new.actions.items < nowhere
  pub others : (other : ℕ) → other ≢ line → IsNowhere (slice_get old.places.items other) →
      IsNowhere (slice_get new.places.items other)

-- ---- of statements

abbrev pub ActsIf : Tree → Option Action → ShapeTree → Type 0
ActsIf t None s = ⊥
ActsIf t (Some a) s = Acts t a s

-- each statement's action stands at its line
abbrev pub AreKept : Tree → Actions → List ItemTree → Type 0
AreKept t a items = AllByRecursion (λ (x : ItemTree). ActsIf t (action_at a x.line) x.shape) items

-- none of them begins at the line
abbrev pub IsFree : ℕ → List ItemTree → Type 0
IsFree line items = AllByRecursion (λ (x : ItemTree). x.line ≢ line) items

-- and no action stands at another line
pub record HasNoOther (a : Actions) (items : List ItemTree) : Type 0 where
  pub few : length a.actions.items < nowhere
  pub others : (line : ℕ) → IsFree line items → IsNowhere (slice_get a.places.items line)

-- ---- what STOP statements tell

-- the STOP statement may stand under a logical IF
abbrev pub message_in : Action → List ℕ
message_in (Stop message) = message
message_in (If' c p a) = message_in a
message_in Pass = []
message_in (Assign target c) = []
message_in Continue = []
message_in (GoTo label) = []
message_in (ComputedGoTo labels c) = []
message_in (ArithmeticIf c negative zero positive) = []
message_in (Output list) = []
message_in (Test c) = []
message_in (Repeat r) = []
message_in (While c) = []

abbrev pub told_in : Option Action → List ℕ
told_in None = []
told_in (Some a) = message_in a

-- ---- of statement functions

-- the codes of all
abbrev pub AreFunctions : Tree → List Code → Type 0
AreFunctions t codes = HaveCodes (names_in t) (numbers_in t) (count_in t) codes

-- What the code keeps of the statements that were read, for the order of statements.
use Rattle.std.specs.Prelude.{◌≡◌, ◌||◌, Bool, true, false, List}
use Rattle.std.specs.List.{list_any}
use Rattle.meaning.specs.Nesting.{Place, at_program, at_implicit, at_parameter, at_typing}
use Rattle.meaning.specs.Nesting.{at_format, at_executable, place_of}
use Rattle.meaning.specs.Syntax.{ItemTree}
use Rattle.nesting.specs.declared.order.StatementClass.{StatementClass as Stands}
use Rattle.nesting.specs.declared.order.StatementClass.TheVariants.{Program, Implicit, Parameter}
use Rattle.nesting.specs.declared.order.StatementClass.TheVariants.{Typing}
use Rattle.nesting.specs.declared.order.StatementClass.TheVariants.{Format, Executable}
use Rattle.nesting.specs.declared.order.Order.{Order}

abbrev pub place : Stands → Place
place Program = at_program
place Implicit = at_implicit
place Parameter = at_parameter
place Typing = at_typing
place Format = at_format
place Executable = at_executable

abbrev pub is_at_typing : Place → Bool
is_at_typing at_typing = true
is_at_typing p = false

abbrev pub is_at_executable : Place → Bool
is_at_executable at_executable = true
is_at_executable p = false

-- which of the statements there are
pub record IsOrderOf (o : Order) (before : List ItemTree) : Type 0 where
  pub begun : o.begun ≡ list_any (λ (x : ItemTree). true) before
  pub typed : o.typed ≡ list_any (λ (x : ItemTree). is_at_typing (place_of x.shape)) before
  pub executable : o.executable
      ≡ list_any (λ (x : ItemTree). is_at_executable (place_of x.shape)) before

-- a statement that stands there may not stand behind them
abbrev pub misplaced_by : Order → Place → Bool
misplaced_by o at_program = o.begun
misplaced_by o at_implicit = o.typed || o.executable
misplaced_by o at_parameter = o.executable
misplaced_by o at_typing = o.executable
misplaced_by o p = false

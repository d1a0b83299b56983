-- What is asked of what a statement's execution needs.
use Rattle.std.specs.Prelude.{◌≡◌, Bool, true, false, not, IsTrue, Option, Some, None}
use Rattle.std.specs.Borrow.{Bor}
use Rattle.meaning.specs.declared.syntax.Tree.{Tree}
use Rattle.meaning.specs.Execution.{condition_of, while_of}
use Rattle.meaning.specs.Syntax.{ShapeTree, doing, logical_if}
use Rattle.label_targets.specs.Quiet.{output_in}
use Rattle.postfix.specs.declared.code.Code.{Code}
use Rattle.program.specs.declared.action.Action.{Action}
use Rattle.program.specs.declared.action.ListCodes.{ListCodes}
use Rattle.program.specs.declared.action.Repeat.{Repeat}
use Rattle.program.specs.Acts.{Acts, Conditional, Repeats, Tests, Whiles}
use Rattle.program.specs.Items.{AreItemsOf}

abbrev pub is_logical_if : ShapeTree → Bool
is_logical_if (logical_if e s) = true
is_logical_if s = false

abbrev pub is_doing : ShapeTree → Bool
is_doing (doing label comma variable limits) = true
is_doing s = false

abbrev pub ConditionalIs : Tree → ShapeTree → Option (Bor Code × Bor Action) → Type 0
ConditionalIs t s (Some p) = Conditional t p.0.now (Acts t p.1.now) s
ConditionalIs t s None = IsTrue (not (is_logical_if s))

abbrev pub ConditionIs : Tree → ShapeTree → Option (Bor Code) → Type 0
ConditionIs t s (Some c) = Tests t c.now s
ConditionIs t s None = condition_of s ≡ None

abbrev pub RepeatIs : Tree → ShapeTree → Option (Bor Repeat) → Type 0
RepeatIs t s (Some r) = Repeats t r.now s
RepeatIs t s None = IsTrue (not (is_doing s))

abbrev pub WhileIs : Tree → ShapeTree → Option (Bor Code) → Type 0
WhileIs t s (Some c) = Whiles t c.now s
WhileIs t s None = while_of s ≡ None

abbrev pub ListIs : Tree → ShapeTree → Option (Bor ListCodes) → Type 0
ListIs t s (Some list) = AreItemsOf t (output_in s) list.now
ListIs t s None = output_in s ≡ None

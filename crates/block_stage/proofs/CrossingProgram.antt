-- A program and what its statements need may be read by several threads.
use denote.Enum.Declared.{shape}
use denote.Param.Send.{IsSync, enum_sync, sendable}
use Rattle.std.proofs.Crossing.{crosses}
use Rattle.std.proofs.MapsCrossing as maps
use Rattle.block_stage.proofs.Crossing.{Tree_field, Exprs_field}
use Rattle.block_stage.proofs.CrossingStores.{Format_field, LabelTargets_field}
use Rattle.storage.specs.contracts.parts.Storage as Storage
use Rattle.storage.specs.contracts.parts.Entry as Entry
use Rattle.storage.specs.contracts.parts.FunctionAt as FunctionAt
use Rattle.storage.specs.contracts.parts.Parts as Parts
use Rattle.storage.specs.contracts.program.CheckedProgram as Checked
use Rattle.meaning.specs.contracts.syntax.Operator as Operator
use Rattle.postfix.specs.contracts.addends.Addends as Addends
use Rattle.postfix.specs.contracts.divisor.Divisor as Divisor
use Rattle.postfix.specs.contracts.instruction.VariableSubscript as VariableSubscript
use Rattle.postfix.specs.contracts.instruction.Step as Step
use Rattle.postfix.specs.contracts.instruction.Change as Change
use Rattle.postfix.specs.contracts.instruction.Combiner as Combiner
use Rattle.postfix.specs.contracts.code.Code as Code
use Rattle.postfix.specs.contracts.ending.Terminator as Terminator
use Rattle.postfix.specs.contracts.order.Opcode as Opcode
use Rattle.postfix.specs.contracts.orders.Orders as Orders
use Rattle.program.specs.contracts.action.Target as Target
use Rattle.program.specs.contracts.action.Repeat as Repeat
use Rattle.program.specs.contracts.action.ListCodes as ListCodes
use Rattle.program.specs.contracts.action.Action as Action
use Rattle.program.specs.contracts.actions.Actions as Actions
use Rattle.program.specs.contracts.lists.Lists as Lists
use Rattle.program.specs.contracts.program.Parts as Whole
use Rattle.program.specs.contracts.program.Program as Program
use Rattle.program.proofs.action.ListCode.TheLaws.TheKnot as list_code
use Rattle.program.proofs.action.Action.TheLaws.TheKnot as action

Storage_field : IsSync Storage.the_field.row
Storage_field = search (crosses, sendable) depth 60 fits 20000

Entry_field : IsSync Entry.the_field.row
Entry_field = search (crosses, Storage_field, sendable) depth 60 fits 20000

FunctionAt_field : IsSync FunctionAt.the_field.row
FunctionAt_field = search (crosses, sendable) depth 60 fits 20000

Parts_field : IsSync Parts.the_field.row
Parts_field = search (crosses, maps.crosses, Tree_field, Exprs_field, Format_field, LabelTargets_field, Entry_field, FunctionAt_field, sendable) depth 60 fits 20000

Checked_field : IsSync Checked.the_field.row
Checked_field = search (Parts_field, sendable) depth 60 fits 20000

Step_field : IsSync Step.the_field.row
Step_field = search (crosses, sendable) depth 60 fits 20000

Subscript_field : IsSync VariableSubscript.the_field.row
Subscript_field = search (crosses, Step_field, sendable) depth 60 fits 20000

Addends_field : IsSync Addends.the_field.row
Addends_field = search (crosses, sendable) depth 60 fits 20000

Divisor_field : IsSync Divisor.the_field.row
Divisor_field = search (crosses, sendable) depth 60 fits 20000

Operator_field : IsSync Operator.the_field.row
Operator_field = search (crosses, sendable) depth 60 fits 20000

Change_field : IsSync Change.the_field.row
Change_field = search (crosses, Subscript_field, Addends_field, sendable) depth 60 fits 20000

Combiner_field : IsSync Combiner.the_field.row
Combiner_field = search (crosses, Step_field, sendable) depth 60 fits 20000

Ending_field : IsSync Terminator.the_field.row
Ending_field = search (crosses, Subscript_field, sendable) depth 60 fits 20000

ruleset parts = (Subscript_field, Addends_field, Divisor_field, Operator_field, Step_field, Change_field, Combiner_field, Ending_field, sendable)

-- of its many forms the first ones by themselves
Order_field : IsSync Opcode.the_field.row
Order_field = enum_sync (shape Opcode.the_type) (search parts, (search parts, (search parts, (search parts, (search parts, (search parts, (search parts, (search parts, (search parts, (search parts, (search parts, (search parts, (search parts, (search parts, (search parts, (search parts, (search parts, (search parts, (search parts, (search parts, (search parts, (search parts, (search parts, (search parts, (search parts, (search parts, (search parts, (search parts, (search parts, (search parts, (search parts, (search parts, (search parts, (search parts, (search parts, (search parts, (search parts, (search parts, (search parts, (search parts, (search parts, (search parts, (search parts, (search parts, (search parts, (search parts, (search parts, (search parts, (search parts, (search parts, search parts depth 200 fits 200000))))))))))))))))))))))))))))))))))))))))))))))))))

Code_field : IsSync Code.the_field.row
Code_field = search (crosses, Order_field, sendable) depth 60 fits 20000

Target_field : IsSync Target.the_field.row
Target_field = search (Code_field, sendable) depth 60 fits 20000

pub Repeat_field : IsSync Repeat.the_field.row
Repeat_field = search (Code_field, sendable) depth 60 fits 20000

ListCodes_field : IsSync ListCodes.the_field.row
ListCodes_field = search (crosses, list_code.crosses, Code_field, Repeat_field, sendable) depth 60 fits 20000

Action_field : IsSync Action.the_field.row
Action_field = search (crosses, action.crosses, Code_field, Target_field, Repeat_field, ListCodes_field, sendable) depth 60 fits 20000

Actions_field : IsSync Actions.the_field.row
Actions_field = search (crosses, Action_field, sendable) depth 60 fits 20000

Orders_field : IsSync Orders.the_field.row
Orders_field = search (crosses, Order_field, sendable) depth 60 fits 20000

Lists_field : IsSync Lists.the_field.row
Lists_field = search (crosses, Orders_field, sendable) depth 60 fits 20000

Whole_field : IsSync Whole.the_field.row
Whole_field = search (crosses, Checked_field, Actions_field, Code_field, Lists_field, sendable) depth 60 fits 20000

pub Program_field : IsSync Program.the_field.row
Program_field = search (Whole_field, sendable) depth 60 fits 20000

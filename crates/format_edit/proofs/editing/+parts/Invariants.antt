use Rattle.std.proofs.Common.{◌-◌, ◌++◌, drop}
use Rattle.meaning.specs.Records.{times, pass, course}
use Rattle.format_edit.specs.Formatted.{parts_of}
use Rattle.format_edit.specs.Ahead.{ahead}
use Rattle.format_edit.proofs.Walk.{SoFar}
use Rattle.format_edit.proofs.editing.+parts.Given as goal

abbrev pub invariant-edit_group-loop : goal.invariant-edit_group-loop
invariant-edit_group-loop l =
    SoFar (λ more. ahead l.fn.sheet (course (times l.repeat (pass (parts_of l.parts)) ++ more) l.values)) l.sheet.bytes.items l.sheet.gap (times (l.repeat - l.counter) (pass (parts_of l.parts))) l.left

abbrev pub invariant-edit_parts-loop-part : goal.invariant-edit_parts-loop-part
invariant-edit_parts-loop-part l =
    SoFar (λ more. ahead l.fn.sheet (course (pass (parts_of l.parts) ++ more) l.values)) l.sheet.bytes.items l.sheet.gap (pass (parts_of (drop l.part-index l.parts))) l.left

use Rattle.std.proofs.Common.{◌-◌, ◌++◌, ◌∷◌, []}
use Rattle.meaning.specs.Records.{times, course}
use Rattle.format_edit.specs.Formatted.{descriptor_of}
use Rattle.format_edit.specs.Ahead.{ahead}
use Rattle.format_edit.proofs.Walk.{SoFar}
use Rattle.format_edit.proofs.editing.edit_single.Given as goal

abbrev pub invariant-loop : goal.invariant-loop
invariant-loop l =
    SoFar (λ more. ahead l.fn.sheet (course (times l.repeat (descriptor_of l.descriptor ∷ []) ++ more) l.values)) l.sheet.bytes.items l.sheet.gap (times (l.repeat - l.counter) (descriptor_of l.descriptor ∷ [])) l.left

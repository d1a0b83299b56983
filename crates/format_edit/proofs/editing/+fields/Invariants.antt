use Rattle.std.proofs.Common.{◌≡◌, drop}
use Rattle.meaning.specs.Records.{have_field}
use Rattle.format_edit.specs.Formatted.{parts_of}
use Rattle.format_edit.proofs.editing.+fields.Given as goal

abbrev pub invariant-have_field-loop-part : goal.invariant-have_field-loop-part
invariant-have_field-loop-part l = have_field (parts_of l.parts) ≡ have_field (parts_of (drop l.part-index l.parts))

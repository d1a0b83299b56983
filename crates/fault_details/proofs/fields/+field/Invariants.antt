use Rattle.std.proofs.Common.{◌≡◌, ◌≤◌, drop, slice_get}
use Rattle.meaning.specs.Records.{pass}
use Rattle.format_edit.specs.Formatted.{parts_of}
use Rattle.fault_details.specs.Fields.{fields}
use Rattle.fault_details.proofs.fields.+field.Given as goal

abbrev pub invariant-field_among-loop-part : goal.invariant-field_among-loop-part
invariant-field_among-loop-part l = record {
  same : slice_get (fields (pass (parts_of l.parts))) l.before ≡ slice_get (fields (pass (parts_of (drop l.part-index l.parts)))) l.left;
  within : l.left ≤ l.before;
}

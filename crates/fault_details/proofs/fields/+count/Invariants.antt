use Rattle.std.proofs.Common.{◌≡◌, ◌≤◌, ◌+◌, ◌-◌, ◌^◌, min, drop, length}
use Rattle.meaning.specs.Records.{pass}
use Rattle.format_edit.specs.Formatted.{parts_of}
use Rattle.fault_details.specs.Fields.{fields}
use Rattle.fault_details.proofs.fields.+count.Given as goal

abbrev pub invariant-count-loop-part : goal.invariant-count-loop-part
invariant-count-loop-part l = record {
  total : min (l.sum + length (fields (pass (parts_of (drop l.part-index l.parts))))) (2 ^ 64 - 1) ≡ min (length (fields (pass (parts_of l.parts)))) (2 ^ 64 - 1);
  within : l.sum ≤ 2 ^ 64 - 1;
}

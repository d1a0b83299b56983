use Rattle.std.proofs.Common.{◌≡◌, ◌≤◌, ◌+◌, ◌-◌, ◌^◌, min, drop}
use Rattle.meaning.specs.Formats.{items}
use Rattle.format_edit.specs.Formatted.{parts_of}
use Rattle.format_edit.proofs.reading.+items.Given as goal

abbrev pub invariant-items-loop-part : goal.invariant-items-loop-part
invariant-items-loop-part l = record {
  total : min (l.sum + items (parts_of (drop l.part-index l.parts))) (2 ^ 64 - 1) ≡ min (items (parts_of l.parts)) (2 ^ 64 - 1);
  within : l.sum ≤ 2 ^ 64 - 1;
}

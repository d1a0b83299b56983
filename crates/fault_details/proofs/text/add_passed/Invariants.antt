use Rattle.std.proofs.Common.{◌≡◌, ◌++◌, take}
use Rattle.fault_details.specs.Texts.{passed_text}
use Rattle.fault_details.proofs.text.add_passed.Given as goal

abbrev pub invariant-loop-value : goal.invariant-loop-value
invariant-loop-value l = l.bytes.items ≡ l.initial.bytes.items ++ passed_text (take l.value-index l.values)

use Rattle.std.proofs.Common.{◌≡◌, ◌++◌}
use Rattle.data_rules.specs.Slots.{slot_at}
use Rattle.checker.specs.Given.{values_in}
use Rattle.checker.proofs.starts.add_values.Given as goal

abbrev pub invariant-loop-place : goal.invariant-loop-place
invariant-loop-place l = l.starts.items ≡ l.initial.starts.items ++ values_in (slot_at l.slots) l.place

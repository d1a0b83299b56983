use Rattle.std.proofs.Common.{◌≡◌, ◌+◌, ◌-◌, ℕ}
use Rattle.std.specs.List.{range_with_len}
use Rattle.data_rules.specs.DataSlots.{StandsFor, give_slots, slots_at}
use Rattle.data_rules.proofs.filling.give_each.Given as goal

abbrev pub invariant-loop-behind : goal.invariant-loop-behind
invariant-loop-behind l = record {
  left : (i : ℕ) → StandsFor l.first l.count i → give_slots l.data_type (range_with_len (i + l.behind) (l.count - l.behind)) (slots_at l.slots l.values l.way) ≡ give_slots l.data_type (range_with_len i l.count) (slots_at l.initial.slots l.initial.values l.initial.way);
}

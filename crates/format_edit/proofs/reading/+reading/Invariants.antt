use Rattle.std.proofs.Common.{◌≡◌, ◌+◌, ◌*◌, ◌-◌}
use Rattle.meaning.specs.Formats.{parts_at, parts_in}
use Rattle.format_edit.specs.Formatted.{parts_of}
use Rattle.format_edit.proofs.Joined.{with_front}
use Rattle.format_edit.proofs.reading.+reading.Given as goal

abbrev pub decreases-part_at : goal.decreases-part_at
decreases-part_at l = 5 * l.levels + 4

abbrev pub decreases-counted_at : goal.decreases-counted_at
decreases-counted_at l = 5 * l.levels + 3

abbrev pub decreases-behind_count : goal.decreases-behind_count
decreases-behind_count l = 5 * l.levels + 2

abbrev pub decreases-group_at : goal.decreases-group_at
decreases-group_at l = 5 * l.levels + 1

abbrev pub decreases-parts_in : goal.decreases-parts_in
decreases-parts_in l = 5 * l.levels

abbrev pub invariant-parts_in-loop : goal.invariant-parts_in-loop
invariant-parts_in-loop l =
    with_front (parts_of l.parts.items) (parts_at (parts_in (l.levels - 1)) (l.most - l.counter) l.rest) ≡ parts_in l.levels l.text

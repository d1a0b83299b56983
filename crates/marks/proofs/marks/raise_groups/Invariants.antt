use Rattle.std.proofs.Common.{◌≡◌, ◌||◌, ◌≤◌, ℕ, length}
use Rattle.marks.specs.Cells.{is_within}
use Rattle.marks.specs.Words.{tells}
use Rattle.marks.proofs.marks.raise_groups.Given as goal

abbrev pub invariant-loop-group : goal.invariant-loop-group
invariant-loop-group l = record {
  len : length l.groups.items ≡ length l.initial.groups.items;
  low : l.from ≤ l.group;
  most : l.group ≤ l.to;
  told : (q : ℕ) → tells l.groups.items q ≡ (is_within l.from l.group q || tells l.initial.groups.items q);
}

use Rattle.std.proofs.Common.{◌≡◌, length}
use Rattle.marks.specs.Words.{AreBehind}
use Rattle.marks.proofs.marks.clear_by.Given as goal

abbrev pub invariant-loop-at : goal.invariant-loop-at
invariant-loop-at l = record {
  len : length l.words.items ≡ length l.initial.words.items;
  left : AreBehind l.initial.words.items l.words.items l.groups l.at;
}

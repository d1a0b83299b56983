use Rattle.std.proofs.Common.{◌≡◌, length}
use Rattle.private_view.specs.Views.{value_at}
use Rattle.private_view.proofs.Marked.{TakesFirst}
use Rattle.private_view.proofs.paged.put_all.Given as goal

abbrev pub invariant-loop-at : goal.invariant-loop-at
invariant-loop-at l = record {
  takes : TakesFirst l.initial.target l.target l.words l.slots l.at (value_at l.slots l.values);
  len : length l.target ≡ length l.initial.target;
}

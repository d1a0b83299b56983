use Rattle.std.proofs.Common.{◌≡◌, length}
use Rattle.layer_tests.proofs.views.changes.write_all.Given as goal

abbrev pub invariant-loop-number : goal.invariant-loop-number
invariant-loop-number l = length l.view.base ≡ l.count

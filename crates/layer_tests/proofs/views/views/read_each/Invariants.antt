use Rattle.std.proofs.Common.{◌≡◌, length}
use Rattle.layer_tests.proofs.views.views.read_each.Given as goal

abbrev pub invariant-loop-number : goal.invariant-loop-number
invariant-loop-number g l = length l.view.base ≡ 300

use Rattle.std.proofs.Common.{◌≡◌}
use Rattle.layer_tests.proofs.views.views.play.Given as goal

abbrev pub invariant-loop-step : goal.invariant-loop-step
invariant-loop-step g l = (g.S.Store.world l.store).cells ≡ (g.S.Store.world l.fn.store).cells

use Rattle.std.proofs.Common.{arith}
use Rattle.std.proofs.lemmas.Grind.{common_steps}
use Rattle.hints.specs.Views.{outline}
use Rattle.hints.proofs.view.outline.Goals as goal

pub loop-c-preserved : goal.loop-c-preserved
unfolding outline
loop-c-preserved c = grind (arith, common_steps)

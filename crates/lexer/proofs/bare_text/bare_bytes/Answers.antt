use Rattle.std.proofs.Common.{arith}
use Rattle.std.proofs.lemmas.Grind.{common_steps}
use Rattle.meaning.specs.BareText.{bare_behind, bare}
use Rattle.lexer.proofs.bare_text.bare_bytes.Goals as goal

pub loop-c-preserved : goal.loop-c-preserved
unfolding bare_behind bare
loop-c-preserved c = grind (arith, common_steps)

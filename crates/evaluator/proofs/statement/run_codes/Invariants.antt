use Rattle.evaluator.specs.Parts.{codes_behind}
use Rattle.evaluator.proofs.Parted.{Parted}
use Rattle.evaluator.proofs.statement.run_codes.Given as goal

abbrev pub invariant-loop-x : goal.invariant-loop-x
invariant-loop-x g l = Parted l.program l.line l.first l.part (g.S.Store.world l.fn.store) (g.S.Store.world l.store) l.fn.turns l.turns

abbrev pub decreases-loop-x : goal.decreases-loop-x
decreases-loop-x g l = codes_behind l.part.purpose

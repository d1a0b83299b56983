use Rattle.meaning.proofs.Stores.{reads_nothing, reads_so}
use Rattle.values.specs.Programs.{map_at, scope_in}
use Rattle.evaluator.proofs.Executed.{test_unexecuted, test_fails, test_tells}
use Rattle.evaluator.proofs.control.test_condition.Goals as goal

pub returns-then-not-take_turn-clause-reads : goal.returns-then-not-take_turn-clause-reads
returns-then-not-take_turn-clause-reads g c =
    let p = c.args.program.now in
    λ e code. reads_nothing _ _ (λ m. test_unexecuted (scope_in p) e c.args.line (map_at p m) c.args.turns.now c.take_turn.new.turns c.if-not-take_turn.ensures.0 c.if-not-take_turn.ensures.1)

pub returns-in-Ok-clause-reads : goal.returns-in-Ok-clause-reads
returns-in-Ok-clause-reads g c =
    let p = c.args.program.now in
    λ e code. reads_so _ _ _ _ (c.in-Ok.ensures.reads e code) (λ m h. test_tells (scope_in p) e c.args.line (map_at p m) c.args.turns.now c.take_turn.new.turns c.if-not-take_turn.ensures c.in-Ok.x c.as_logical.result h c.as_logical.ensures)

pub returns-in-Err-clause-reads : goal.returns-in-Err-clause-reads
returns-in-Err-clause-reads g c =
    let p = c.args.program.now in
    λ e code. reads_so _ _ _ _ (c.in-Err.ensures.reads e code) (λ m h. test_fails (scope_in p) e c.args.line (map_at p m) c.args.turns.now c.take_turn.new.turns c.if-not-take_turn.ensures c.in-Err.kind h)

use Rattle.std.proofs.Common.{rules}
use Rattle.meaning.specs.Trees.{item_tree}
use Rattle.meaning.proofs.Stores.{reads_nothing, reads_so}
use Rattle.values.specs.Programs.{map_at, scope_in}
use Rattle.evaluator.proofs.Executed.{tested_condition, tests_as, else_unexecuted, else_first, else_further}
use Rattle.evaluator.proofs.control.test_arm.Goals as goal

pub returns-in-Some-clause-reads : goal.returns-in-Some-clause-reads
returns-in-Some-clause-reads g c =
    let p = c.args.program.now in
    let x = c.in-Some.ensures in
    let is = tested_condition p c.in-Some.code.now _ x in
    let y = c.test_condition in
    reads_so _ _ _ _ (y.ensures.reads x.condition x.code) (λ m h. tests_as (scope_in p) c.args.first (item_tree c.args.head.now) (map_at p m) c.args.turns.now x.condition is y.new.turns y.result h)

pub returns-then-not-first-clause-reads : goal.returns-then-not-first-clause-reads
returns-then-not-first-clause-reads g c =
    let p = c.args.program.now in
    reads_nothing _ _ (λ m. else_further (scope_in p) c.args.first (item_tree c.args.head.now) (map_at p m) c.args.turns.now c.in-None.ensures (search rules))

pub returns-then-not-take_turn-clause-reads : goal.returns-then-not-take_turn-clause-reads
returns-then-not-take_turn-clause-reads g c =
    let p = c.args.program.now in
    reads_nothing _ _ (λ m. else_unexecuted (scope_in p) c.args.first (item_tree c.args.head.now) (map_at p m) c.args.turns.now c.in-None.ensures (search rules) c.take_turn.new.turns c.if-not-take_turn.ensures.0 c.if-not-take_turn.ensures.1)

pub returns-else-not-take_turn-clause-reads : goal.returns-else-not-take_turn-clause-reads
returns-else-not-take_turn-clause-reads g c =
    let p = c.args.program.now in
    reads_nothing _ _ (λ m. else_first (scope_in p) c.args.first (item_tree c.args.head.now) (map_at p m) c.args.turns.now c.in-None.ensures (search rules) c.take_turn.new.turns c.if-not-take_turn.ensures)

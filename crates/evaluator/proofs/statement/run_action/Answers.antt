use Rattle.meaning.specs.Execution.{simple, step}
use Rattle.storage.specs.Checked.{items_in}
use Rattle.meaning.proofs.Stores.{does_read}
use Rattle.values.specs.Programs.{map_at}
use Rattle.evaluator.proofs.Composed.{does_so, does_nothing, if_ok_so, moves_same}
use Rattle.evaluator.proofs.Parted.{begin_unexecuted, begin_moves}
use Rattle.evaluator.proofs.statement.run_action.Goals as goal

pub returns-then-not-take_turn-clause-does : goal.returns-then-not-take_turn-clause-does
returns-then-not-take_turn-clause-does g c = λ s acts quiet.
    let p = c.args.program.now in
    does_nothing _ _ (λ m. begin_unexecuted p c.args.line c.in-Some.first.code.now c.in-Some.first.purpose (step (items_in p) s c.args.line) (c.in-Some.ensures.begins p s c.args.line acts quiet) (map_at p m) c.args.turns.now c.take_turn.new.turns c.if-not-take_turn.ensures.0 c.if-not-take_turn.ensures.1)

pub returns-else-not-take_turn-clause-does : goal.returns-else-not-take_turn-clause-does
returns-else-not-take_turn-clause-does g c = λ s acts quiet.
    let p = c.args.program.now in
    let b = c.in-Some.ensures.begins p s c.args.line acts quiet in
    let y = c.run_codes in
    if_ok_so y.result _ _ (λ o does. does_so _ _ _ _ does (λ m n h. begin_moves p c.args.line c.in-Some.first.code.now c.in-Some.first.purpose (step (items_in p) s c.args.line) b (map_at p m) (map_at p n) c.args.turns.now c.take_turn.new.turns c.if-not-take_turn.ensures y.new.turns o h)) (y.ensures.does b.rest b.part)

pub returns-in-None-clause-does : goal.returns-in-None-clause-does
returns-in-None-clause-does g c = λ s acts quiet.
    let p = c.args.program.now in
    let all = items_in p in
    let line = c.args.line in
    let t = c.args.turns.now in
    let alone = c.in-None.ensures.begins p s line acts quiet in
    let y = c.run_bare in
    does_read _ _ _ _ (y.ensures.reads s acts alone.quiet) (λ m h. moves_same (λ go. simple all s line (map_at p m) t go) (λ go. step all s line (map_at p m) t go) t (map_at p m) y.new.turns y.result (λ go. alone.is (map_at p m) t go) h)

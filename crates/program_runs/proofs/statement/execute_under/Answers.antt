use Rattle.storage.specs.Starts.{map_of}
use Rattle.program_runs.proofs.Composed.{steps_quietly}
use Rattle.program_runs.proofs.Written.{quiet_under}
use Rattle.program_runs.proofs.statement.execute_under.Goals as goal

pub item_whole-requires-clause-quiet : goal.item_whole-requires-clause-quiet
item_whole-requires-clause-quiet g c = quiet_under _ _ _ c.requires.logical c.in-None.ensures

pub returns-in-None-clause-steps : goal.returns-in-None-clause-steps
returns-in-None-clause-steps g c =
    let p = c.args.program.now in
    steps_quietly _ c.args.turns.now (map_of p c.item_whole.new.cells) c.item_whole.new.turns c.item_whole.result (g.S.Sink.told c.args.sink.now) c.item_whole.ensures.moves

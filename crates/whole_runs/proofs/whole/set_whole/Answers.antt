use Rattle.std.proofs.Common.{◌≡◌, [], ap, ◌∙◌, to_z, of_z}
use Rattle.std.specs.Int.{w32}
use Rattle.std.proofs.lemmas.Int.{to_z-of_z}
use Rattle.meaning.specs.Maps.{put}
use Rattle.storage.specs.Starts.{map_of}
use Rattle.values.specs.Programs.{map_at}
use Rattle.whole_runs.proofs.Wholes.{does_whole}
use Rattle.whole_runs.proofs.whole.set_whole.Goals as goal

pub returns-in-Ok-clause-set : goal.returns-in-Ok-clause-set
returns-in-Ok-clause-set c = λ n is.
    let p = c.args.program.now in
    does_whole c.args.cells.now c.set_variable.new.store (λ m k. map_at p k ≡ put (map_at p m) n [] (to_z w32 (of_z w32 c.args.x))) (c.in-Ok.ensures.does n is) ∙ ap (put (map_of p c.args.cells.now) n []) (to_z-of_z w32 c.args.x c.ranges.x)

use Rattle.std.proofs.Common.{[], ◌++◌, refl}
use Rattle.messages.proofs.Told.{told_none, told_then}
use Rattle.engine.proofs.Also.{next_pair}
use Rattle.engine.proofs.telling.put_pairs.Goals as goal

pub loop-at-init : goal.loop-at-init
loop-at-init g c = ([], refl, told_none _)

pub loop-at-preserved : goal.loop-at-preserved
loop-at-preserved g c =
    let before = c.loop-at.invariant in
    let last = c.put_pair.ensures in (
      before.0 ++ last.0,
      next_pair c.args.first c.args.file.now c.args.source.now c.args.pairs.now c.loop-at.at _ before.0 last.0 c.loop-at-test.true before.1 (c.matter_of_pair-matter.result, c.matter_of_pair-matter.ensures, last.1),
      told_then before.0 last.0 _ _ _ before.2 last.2,
    )

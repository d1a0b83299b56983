use Rattle.std.proofs.Common.{rules}
use Rattle.running_tests.proofs.staged.watching.look_at.Goals as goal

pub new-job-requires : goal.new-job-requires
new-job-requires g c =
    let q = c.requires.quiet in
    record {
      doing = q.doing;
      head = q.head;
      named = q.named;
      kept = q.kept;
      quiet = q.quiet;
      unset = q.unset;
      sized = c.requires.sized;
      moves = c.requires.moves;
      long = search rules;
      some = c.blocks_of-blocks.ensures.some;
      last = c.blocks_of-blocks.ensures.last;
      fits = c.requires.fits;
    }

use Rattle.std.proofs.Common.{◌∙◌}
use Rattle.parser.proofs.Bounded.{arrays_seen}
use Rattle.parser.proofs.declarators.have_bounds.Goals as goal

pub returns : goal.returns
returns c = c.are_arrays.ensures ∙ arrays_seen c.args.declarators.now

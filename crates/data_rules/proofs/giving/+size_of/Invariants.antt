use Rattle.std.proofs.Common.{length}
use Rattle.data_rules.proofs.giving.+size_of.Given as goal

abbrev pub decreases-size_of : goal.decreases-size_of
decreases-size_of l = length l.dimensions.now

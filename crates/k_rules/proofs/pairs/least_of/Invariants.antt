use Rattle.std.proofs.Common.{◌≡◌, take}
use Rattle.meaning.specs.Refusals.{least}
use Rattle.k_rules.proofs.pairs.least_of.Given as goal

abbrev pub invariant-loop-pair : goal.invariant-loop-pair
invariant-loop-pair l = l.best ≡ least (take l.pair-index l.pairs)

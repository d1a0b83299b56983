use Rattle.std.proofs.Common.{◌≡◌, map, take}
use Rattle.meaning.specs.Arrays.{size}
use Rattle.expressions.specs.Dimensions.{dimension}
use Rattle.expressions.specs.Places.{capped}
use Rattle.expressions.proofs.place.ElementAddress.size.Given as goal

abbrev pub invariant-loop-one : goal.invariant-loop-one
invariant-loop-one l = l.found ≡ capped (size (map dimension (take l.one-index l.self.left.now)))

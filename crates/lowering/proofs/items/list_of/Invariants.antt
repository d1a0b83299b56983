use Rattle.std.proofs.Common.{◌≡◌, ◌++◌, length}
use Rattle.lowering.specs.Lists.{codes_in}
use Rattle.lowering.proofs.items.list_of.Given as goal

abbrev pub invariant-loop-code : goal.invariant-loop-code
invariant-loop-code l = l.codes.items ++ codes_in l.list ≡ l.initial.codes.items

abbrev pub decreases-loop-code : goal.decreases-loop-code
decreases-loop-code l = length l.codes.items

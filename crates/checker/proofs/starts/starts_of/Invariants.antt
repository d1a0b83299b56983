use Rattle.std.proofs.Common.{◌≡◌, take}
use Rattle.name_maps.specs.NameSets.{texts}
use Rattle.checker.specs.Given.{starts_by}
use Rattle.checker.proofs.starts.starts_of.Given as goal

abbrev pub invariant-loop-name : goal.invariant-loop-name
invariant-loop-name l = l.starts.items ≡ starts_by l.facts (texts (take l.name-index l.names))

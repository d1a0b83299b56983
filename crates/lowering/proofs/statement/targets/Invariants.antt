use Rattle.std.proofs.Common.{◌≡◌, map, take}
use Rattle.meaning.specs.Characters.{number_of}
use Rattle.lowering.proofs.statement.targets.Given as goal

abbrev pub invariant-loop-label : goal.invariant-loop-label
invariant-loop-label l = map number_of (map (λ t. t.items) (take l.label-index l.labels)) ≡ l.found.items

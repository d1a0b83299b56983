use Rattle.std.proofs.Common.{◌≡◌, ◌++◌, drop}
use Rattle.meaning.specs.NameRules.{repeats}
use Rattle.name_maps.specs.NameSets.{texts}
use Rattle.name_uses.specs.Held.{names_at}
use Rattle.name_uses.proofs.seen.repeats.Given as goal

abbrev pub invariant-loop-name : goal.invariant-loop-name
invariant-loop-name l =
    repeats (texts l.here.keys ++ texts l.seen.keys) (names_at (drop l.name-index l.names)) ≡ repeats (texts l.seen.keys) (names_at l.names)

use Rattle.std.proofs.Common.{◌≡◌, take}
use Rattle.name_maps.specs.NameSets.{texts, with_names}
use Rattle.name_uses.specs.Held.{names_at}
use Rattle.name_uses.proofs.seen.add_names.Given as goal

abbrev pub invariant-loop-name : goal.invariant-loop-name
invariant-loop-name l = texts l.seen.keys ≡ with_names (texts l.initial.seen.keys) (names_at (take l.name-index l.names))

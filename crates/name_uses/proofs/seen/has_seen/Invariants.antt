use Rattle.std.proofs.Common.{◌≡◌, drop}
use Rattle.std.specs.List.{list_any}
use Rattle.meaning.specs.Uses.{is_one_of}
use Rattle.name_maps.specs.NameSets.{texts}
use Rattle.name_uses.specs.Held.{names_at}
use Rattle.name_uses.proofs.seen.has_seen.Given as goal

abbrev pub invariant-loop-name : goal.invariant-loop-name
invariant-loop-name l =
    list_any (is_one_of (texts l.seen.keys)) (names_at (drop l.name-index l.names)) ≡ list_any (is_one_of (texts l.seen.keys)) (names_at l.names)

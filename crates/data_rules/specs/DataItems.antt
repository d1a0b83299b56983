-- What the items in the lists of DATA statements stand for.
use Rattle.std.specs.Prelude.{ℕ, ℤ, List, map, if◌then◌else◌, Option, None}
use Rattle.meaning.specs.Syntax.{ListItemTree, ListItemsTree, value_item, loop_item}
use Rattle.meaning.specs.Uses.{Symbols}
use Rattle.meaning.specs.Values.{Known}
use Rattle.meaning.specs.Initial.{Target, all_lists, and_also, is_counter, known_trips, targets_in}
use Rattle.meaning.specs.Initial.{value_targets, with_value}

-- the items of an implied DO, for these values of its variable
abbrev pub trips_targets : Symbols → ListItemsTree → List ℕ → Known → List ℤ → Option (List Target)
trips_targets r items variable known is =
    all_lists (map (λ i. targets_in r items (with_value variable i known)) is)

abbrev pub item_targets : Symbols → ListItemTree → Known → Option (List Target)
item_targets r (value_item e) known = value_targets r known e
item_targets r (loop_item items variable limits) known =
    if is_counter r variable
    then and_also (known_trips r.names.types known limits)
    (trips_targets r items variable known) else None

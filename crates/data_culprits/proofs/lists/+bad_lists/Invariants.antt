use Rattle.std.proofs.Common.{◌≡◌, ◌-◌, pos, ◌+ℤ◌, ◌*ℤ◌, map}
use Rattle.std.specs.List.{range_with_len}
use Rattle.meaning.specs.Initial.{with_value}
use Rattle.meaning.specs.Syntax.{list_items_tree}
use Rattle.data_rules.specs.DataGiving.{known_there, stage_of, symbols_in}
use Rattle.data_rules.specs.DataTrips.{trips_by}
use Rattle.data_rules.specs.SameScope.{IsSameScope}
use Rattle.data_culprits.specs.Lists.{each_trip, to_items}
use Rattle.data_culprits.proofs.lists.+bad_lists.Given as goal

abbrev pub invariant-bad_trips-loop : goal.invariant-bad_trips-loop
invariant-bad_trips-loop l = record {
  left : each_trip (λ i. to_items (symbols_in l.initial.giving) (list_items_tree l.items) (with_value l.variable i (known_there l.initial.giving))) (map (λ k. l.trips.first +ℤ pos k *ℤ l.trips.step) (range_with_len l.counter (l.trips.count - l.counter))) (stage_of l.giving) ≡ each_trip (λ i. to_items (symbols_in l.initial.giving) (list_items_tree l.items) (with_value l.variable i (known_there l.initial.giving))) (trips_by l.trips) (stage_of l.initial.giving);
  value : l.value ≡ l.trips.first +ℤ pos l.counter *ℤ l.trips.step;
  same : IsSameScope l.initial.giving.scope l.giving.scope;
}

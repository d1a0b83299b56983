use Rattle.std.proofs.Common.{◌≡◌, ◌-◌, pos, ◌+ℤ◌, ◌*ℤ◌, map}
use Rattle.std.specs.List.{range_with_len}
use Rattle.meaning.specs.Syntax.{list_items_tree}
use Rattle.data_rules.specs.DataGiving.{known_there, symbols_in, stage_of}
use Rattle.data_rules.specs.DataItems.{trips_targets}
use Rattle.data_rules.specs.DataStages.{filled}
use Rattle.data_rules.specs.DataTrips.{trips_by}
use Rattle.data_rules.specs.SameScope.{IsSameScope}
use Rattle.data_rules.proofs.data_lists.+data_lists.Given as goal

abbrev pub invariant-give_trips-loop : goal.invariant-give_trips-loop
invariant-give_trips-loop l = record {
  left : filled (symbols_in l.initial.giving).names (trips_targets (symbols_in l.initial.giving) (list_items_tree l.items) l.variable (known_there l.initial.giving) (map (λ k. l.trips.first +ℤ pos k *ℤ l.trips.step) (range_with_len l.counter (l.trips.count - l.counter)))) (stage_of l.giving) ≡ filled (symbols_in l.initial.giving).names (trips_targets (symbols_in l.initial.giving) (list_items_tree l.items) l.variable (known_there l.initial.giving) (trips_by l.trips)) (stage_of l.initial.giving);
  value : l.value ≡ l.trips.first +ℤ pos l.counter *ℤ l.trips.step;
  same : IsSameScope l.initial.giving.scope l.giving.scope;
}

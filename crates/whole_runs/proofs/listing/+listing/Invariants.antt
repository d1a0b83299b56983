use Rattle.std.proofs.Common.{◌≡◌}
use Rattle.meaning.specs.Lists.{listed}
use Rattle.meaning.specs.Syntax.{list_items_tree}
use Rattle.meaning.specs.Trips.{trip_count}
use Rattle.storage.specs.Checked.{count_in}
use Rattle.values.specs.Programs.{scope_in}
use Rattle.whole_runs.proofs.Listed.{Listing_so_far}
use Rattle.whole_runs.proofs.listing.+listing.Given as goal

abbrev pub invariant-add_trips-loop : goal.invariant-add_trips-loop
invariant-add_trips-loop g l = record {
  so_far : Listing_so_far l.program (listed (scope_in l.program) (list_items_tree l.items)) l.variable l.span.first l.span.last l.span.step (g.S.Store.world l.initial.store) (g.S.Store.world l.store) l.initial.found.items l.found.items l.initial.room l.room l.counter;
  ends : l.end ≡ trip_count l.span.first l.span.last l.span.step;
  sized : (g.S.Store.world l.store).cells ≡ count_in l.program;
}

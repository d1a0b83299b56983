use Rattle.std.proofs.Common.{◌≡◌, ◌≤◌, ◌<◌, ◌+◌, ◌-◌, ◌*◌, suc, length, true, false}
use Rattle.meaning.specs.Execution.{exec}
use Rattle.meaning.specs.Trips.{trip_count}
use Rattle.storage.specs.Checked.{count_in, items_in}
use Rattle.storage.specs.Starts.{map_of}
use Rattle.values.specs.Programs.{scope_in}
use Rattle.evaluator.specs.Statements.{Comes}
use Rattle.evaluator.proofs.Looped.{from_place, arms_left}
use Rattle.whole_runs.specs.Trips.{trips_in}
use Rattle.program_runs.specs.Walk.{SoFar}
use Rattle.program_runs.proofs.walk.+members.Given as goal

abbrev pub invariant-walk_arms-loop-arm : goal.invariant-walk_arms-loop-arm
invariant-walk_arms-loop-arm g l = record {
  so_far : Comes
      (λ go. arms_left (scope_in l.program) (exec (items_in l.program)) l.arms true 0 (map_of l.program l.initial.cells) l.initial.turns go)
      (λ go. arms_left (scope_in l.program) (exec (items_in l.program)) l.arms l.first l.arm-index (map_of l.program l.cells) l.turns go)
      l.initial.turns l.turns;
  sized : length l.cells ≡ count_in l.program;
  len : length l.cells ≡ length l.initial.cells;
  same : g.S.Sink.told l.sink ≡ g.S.Sink.told l.initial.sink;
  fewer : l.turns ≤ l.initial.turns;
  taken : l.first ≡ false → l.turns < l.initial.turns;
}

abbrev pub invariant-walk_list-loop-place : goal.invariant-walk_list-loop-place
invariant-walk_list-loop-place g l = record {
  so_far : SoFar
      (from_place (items_in l.program) l.members 0 (map_of l.program l.initial.cells) l.initial.turns)
      (from_place (items_in l.program) l.members l.place (map_of l.program l.cells) l.turns)
      l.initial.turns l.turns (g.S.Sink.told l.initial.sink) (g.S.Sink.told l.sink);
  sized : length l.cells ≡ count_in l.program;
  len : length l.cells ≡ length l.initial.cells;
  unrefused : (g.S.Sink.told l.sink).refused ≡ false;
  fewer : l.turns ≤ l.initial.turns;
}

-- each jump has taken a turn
abbrev pub decreases-walk_list-loop-place : goal.decreases-walk_list-loop-place
decreases-walk_list-loop-place g l = l.turns * suc (length l.members) + (length l.members - l.place)

abbrev pub invariant-walk_trips-loop-done : goal.invariant-walk_trips-loop-done
invariant-walk_trips-loop-done g l = record {
  so_far : SoFar
      (trips_in l.program l.repeated l.span.first l.span.step (trip_count l.span.first l.span.last l.span.step) (map_of l.program l.initial.cells) l.initial.turns)
      (trips_in l.program l.repeated l.span.first l.span.step (trip_count l.span.first l.span.last l.span.step - l.done) (map_of l.program l.cells) l.turns)
      l.initial.turns l.turns (g.S.Sink.told l.initial.sink) (g.S.Sink.told l.sink);
  within : l.done ≤ trip_count l.span.first l.span.last l.span.step;
  sized : length l.cells ≡ count_in l.program;
  len : length l.cells ≡ length l.initial.cells;
  unrefused : (g.S.Sink.told l.sink).refused ≡ false;
  fewer : l.turns ≤ l.initial.turns;
}

abbrev pub decreases-walk_trips-loop-done : goal.decreases-walk_trips-loop-done
decreases-walk_trips-loop-done g l = trip_count l.span.first l.span.last l.span.step - l.done

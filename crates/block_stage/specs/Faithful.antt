-- What it means that the run of a block by itself is faithful to its job (own; after Rauchwerger
-- and Padua, and Dang, Yu and Rauchwerger).
use Rattle.std.specs.Coded.{Coded, code_by, coded×, coded_ℕ}
use Rattle.std.specs.Prelude.{refl, ◌≡◌, ℕ, ℤ, ◌<◌, ◌≤◌, false, [], length, IsTrue, List}
use Rattle.std.specs.FinSet as set
use Rattle.std.specs.FinMap as map
use Rattle.meaning.specs.declared.ending.Outcome.{Outcome}
use Rattle.meaning.specs.contracts.ending.Outcome as outcomes
use Rattle.meaning.specs.Execution.{Ran, exec, fold_trips}
use Rattle.meaning.specs.Maps.{Map, put, map_by}
use Rattle.meaning.specs.Stores.{Cells, known, overlay}
use Rattle.array_store.specs.Whole.{world_of}
use Rattle.private_view.specs.Views.{Seen, coded_seen, new_view}
use Rattle.evaluator.specs.Over.{values_by}
use Rattle.evaluator.specs.Statements.{outcome_of}
use Rattle.block_stage.specs.Jobs.{JobData, start_of, count_of}

-- what a block did, by itself
pub record RunData : Type 0 where
  pub index : ℕ
  pub outcome : Outcome
  pub used : ℕ
  pub seen : Seen

-- a view on some values in which nothing was written and no mark was lost
abbrev pub IsUnwritten : List ℤ → Seen → Type 0
IsUnwritten base s = s ≡ record (new_view base) { exposed = s.exposed }

-- the map that values of the program's cells stand for
abbrev pub map_in_job : JobData → Cells → Map
map_in_job d m = map_by d.numbers m

-- the values that the blocks stand on
abbrev pub base_of : JobData → Cells
base_of d = known (world_of d.base)

-- trips of the DO statement, from a first value of its variable on
abbrev pub trips_of : JobData → ℤ → ℕ → Cells → ℕ → Ran
trips_of d first n m t =
    fold_trips (exec d.items) d.line d.variable d.step d.range (values_by first d.step n)
    (put (map_in_job d m) d.variable [] first) t

-- a run that ended so, left these values and used so many turns
abbrev pub ran : JobData → Outcome → Cells → ℕ → Ran
ran d o m used = record { outcome = outcome_of o; map = map_in_job d m; pieces = []; used = used }

-- from all values that are the base's in each exposed cell, the block's trips with the job's turns
-- give the run
pub record IsFaithful (d : JobData) (r : RunData) : Type 0 where
  pub below : r.index < d.blocks
  pub cells : length r.seen.base ≡ length d.base
  pub kept : r.seen.lost ≡ false
  pub within : r.used ≤ d.turns_left
  pub gives : (m : Cells) → ((c : ℕ) → IsTrue (set.contains r.seen.exposed c) → m c ≡ base_of d c) →
      trips_of d (start_of d r.index) (count_of d r.index) m d.turns_left
      ≡ ran d r.outcome (overlay m (map.get r.seen.written)) r.used

abbrev pub coded_run : Coded RunData
coded_run =
    code_by (ℕ × (Outcome × (ℕ × Seen)))
    (coded× coded_ℕ (coded× outcomes.the_row.coded (coded× coded_ℕ coded_seen))) (λ r.
    (r.index, (r.outcome, (r.used, r.seen)))) (λ p. record {
      index = p.0;
      outcome =
          p.1.0;
      used = p.1.1.0;
      seen = p.1.1.1;
    }) (λ _. refl)

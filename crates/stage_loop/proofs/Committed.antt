-- A committed stage: the trips that it ran.
use Rattle.std.proofs.Common.{◌≡◌, ℕ, zero, suc, ◌*◌, ◌-◌, ◌<◌, ◌≤◌, ℤ, List, sym, ap, ◌∙◌, arith}
use Rattle.std.specs.Prelude.{min}
use Rattle.meaning.specs.declared.ending.Outcome.{Outcome}
use Rattle.meaning.specs.Execution.{Ran}
use Rattle.meaning.specs.Stores.{known}
use Rattle.array_store.specs.Whole.{world_of}
use Rattle.storage.specs.Checked.{items_in}
use Rattle.evaluator.specs.Over.{repeated_as}
use Rattle.block_stage.specs.Cuts.{trips_before}
use Rattle.block_stage.specs.Faithful.{base_of, ran, trips_of}
use Rattle.block_stage.specs.Jobs.{JobParts, data_of}
use Rattle.block_stage.specs.Taken.{TakenParts, overlay_each}
use Rattle.stage_loop.specs.Fronts.{IsFront}
use Rattle.whole_runs.specs.Trips.{LeavesIn}

-- ---- how many trips

pub some_trips : (c b left : ℕ) → 0 < c → 0 < b → 0 < left → 0 < min (c * b) left
some_trips zero b left p q r = absurd (omega arith)
some_trips (suc c) zero left p q r = absurd (omega arith)
some_trips (suc c) (suc b) left p q r = let e : 0 < suc c * suc b = grind arith in omega arith

pub not_past : (a left : ℕ) → min a left ≤ left
not_past a left = omega arith

-- ---- what they did

pub leaves_by : (j : JobParts) (cut : ℕ) (o : Outcome) (new : List ℤ) (used : ℕ) → trips_of (data_of j) j.first (trips_before (data_of j) cut) (base_of (data_of j)) j.turns_left ≡ ran (data_of j) o (known (world_of new)) used → used ≤ j.turns_left → LeavesIn j.program j.base new (repeated_as (items_in j.program) j.repeated j.first j.step (trips_before (data_of j) cut)) j.turns_left (j.turns_left - used) o
leaves_by j cut o new used run le =
    record {
      outcome = ap (λ (r : Ran). r.outcome) run;
      after = ap (λ (r : Ran). r.map) run;
      nothing = ap (λ (r : Ran). r.pieces) run;
      turns = (let e = ap (λ (r : Ran). r.used) run in omega arith);
    }

-- the first blocks of a stage, put into the cells that they stood on
pub front_leaves : (j : JobParts) (cut : ℕ) (t : TakenParts) (new : List ℤ) → IsFront j cut t → known (world_of new) ≡ overlay_each (known (world_of j.base)) t.written → LeavesIn j.program j.base new (repeated_as (items_in j.program) j.repeated j.first j.step (trips_before (data_of j) cut)) j.turns_left (j.turns_left - t.used) t.outcome
front_leaves j cut t new f is =
    leaves_by j cut t.outcome new t.used (f.fold ∙ ap (λ m. ran (data_of j) t.outcome m t.used) (sym is)) f.within

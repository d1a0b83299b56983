-- A stage of four blocks behind seven trips, the third of which read what the second wrote, and whose last has no run.
use Rattle.std.proofs.Common.{◌≡◌, ℕ, [], ◌∷◌, Some, refl}
use Rattle.block_stage.specs.declared.causes.Cause.TheVariants.{Dependence}
use Rattle.block_stage.specs.declared.told.StageStats.{StageStats}
use Rattle.loop_reports.specs.declared.row.Carried.{Carried}
use Rattle.loop_reports.specs.BlockTrips.{trips_of}
use Rattle.loop_reports.specs.Carrying.{cells_with, most_often, no_counts}
use Rattle.loop_reports.specs.Counting.{reached_with, staged_with}

abbrev stage : StageStats
stage = record {
  trips = 100;
  size = 32;
  blocks = 4;
  run = 3;
  cut = 2;
  turns = 500;
  spent = 800;
  longest = 300;
  cause = Dependence (record { cell = 17; writer = 1 });
}

last_block : trips_of 7 stage 3 ≡ record { first = 104; last = 107 }
last_block = refl

counted : staged_with (reached_with no_counts 107) stage ≡ record no_counts { reached = 1; trips = 107; stages = 1; run = 3; committed = 2; dropped = 1; lost = 1; by_dependence = 1; turns = 500; spent = 800; longest = 300 }
counted = refl

abbrev carried : ℕ → Carried
carried cuts =
    record { cuts = cuts; execution = 1; writer = record { first = 40; last = 71 }; reader = record { first = 72; last = 103 } }

first_cut : cells_with [] 1 7 stage ≡ (17, carried 1) ∷ []
first_cut = refl

-- the trips stay those of the first cut
second_cut : cells_with ((17, carried 1) ∷ []) 5 64 stage ≡ (17, carried 2) ∷ []
second_cut = refl

first_of_two : most_often ((3, carried 1) ∷ (17, carried 2) ∷ (5, carried 2) ∷ []) ≡ Some (17, carried 2)
first_of_two = refl

-- What is counted of a DO statement that is run by stages.
use Rattle.std.specs.Prelude.{ℕ, ◌+◌, ◌-◌}
use Rattle.loop_reports.specs.declared.counts.Counts.{Counts}
use Rattle.block_stage.specs.declared.causes.Cause.{Cause}
use Rattle.block_stage.specs.declared.causes.Cause.TheVariants.{Whole, Loss, Exit, Dependence}
use Rattle.block_stage.specs.declared.causes.Cause.TheVariants.{Turns}
use Rattle.block_stage.specs.declared.told.StageStats.{StageStats}
use Rattle.loop_reports.specs.BlockTrips.{capped}

-- it is reached once more, with so many trips
abbrev pub reached_with : Counts → ℕ → Counts
reached_with c trips =
    record c { reached = capped (c.reached + 1); trips = capped (c.trips + trips) }

-- so many more of them were executed in order
abbrev pub ordered_with : Counts → ℕ → Counts
ordered_with c trips = record c { in_order = capped (c.in_order + trips) }

-- one more stage is cut; a whole one isn't counted here, and neither is one that was cut at a block
-- without a run
abbrev pub cut_with : Counts → Cause → Counts
cut_with c Whole = c
cut_with c Loss = c
cut_with c Exit = record c { by_exit = capped (c.by_exit + 1) }
cut_with c (Dependence d) = record c { by_dependence = capped (c.by_dependence + 1) }
cut_with c Turns = record c { by_turns = capped (c.by_turns + 1) }

-- one more stage: of its blocks those before the cut are committed, the others that have a run are
-- dropped, and those without are lost
abbrev pub staged_with : Counts → StageStats → Counts
staged_with c t = record (cut_with c t.cause) {
  stages = capped (c.stages + 1);
  run = capped (c.run + t.run);
  committed = capped (c.committed + t.cut);
  dropped = capped (c.dropped + (t.run - t.cut));
  lost = capped (c.lost + (t.blocks - t.run));
  turns = capped (c.turns + t.turns);
  spent = capped (c.spent + t.spent);
  longest = capped (c.longest + t.longest);
}

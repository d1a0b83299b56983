-- What a stage has for its blocks, while its workers are at it and when they are done (own).
use Rattle.std.specs.Prelude.{◌≡◌, ◌↔◌, ℕ, List, length, slice_get, Option, Some, None, is_some}
use Rattle.std.specs.Prelude.{IsTrue}
use Rattle.schedules.specs.declared.event.Event.{Event}
use Rattle.schedules.specs.declared.place.BlockSlot.{BlockSlot}
use Rattle.schedules.specs.declared.place.BlockSlot.TheVariants.{Open, Posted, Lost}
use Rattle.schedules.specs.Schedules.{posted, World, first_world, Replays}
use Rattle.schedules.specs.Boards.{Stage}
use Rattle.block_stage.specs.Jobs.{JobData, JobParts, data_of, IsJob}
use Rattle.block_stage.specs.Faithful.{RunData, IsFaithful}
use Rattle.block_stage.specs.Cuts.{Places, place_at}

-- each run is of the block at whose place it stands, and faithful to the job
abbrev pub AreRunsOf : JobData → Places → Type 0
AreRunsOf d places =
    (i : ℕ) (r : RunData) → slice_get places i ≡ Some (Some r) → (r.index ≡ i) × IsFaithful d r

-- there is a run of the block
abbrev pub HasRun : Places → ℕ → Type 0
HasRun places block = IsTrue (is_some (place_at places block))

-- the events, from a board of which nothing was given out, are a schedule that leads to these runs:
-- just the blocks that have one stand as posted
pub record LeadTo (events : List Event) (places : Places) : Type 0 where
  pub workers : ℕ
  pub last : World
  pub replayed : Replays events (first_world (length places) workers) last
  pub runs : (block : ℕ) → HasRun places block ↔ (slice_get last.ends block ≡ Some posted)

-- what workers posted: the job, the run of each block, none where it is missing, and what happened
-- on the board
pub record PostedParts : Type 0 where
  pub job : JobParts
  pub places : Places
  pub events : List Event

pub record ArePosted (p : PostedParts) : Type 0 where
  pub job : IsJob p.job
  pub whole : length p.places ≡ p.job.blocks
  pub faithful : AreRunsOf (data_of p.job) p.places
  pub lead : LeadTo p.events p.places

-- ---- the board

-- the board of a job
pub record BoardParts : Type 0 where
  pub job : JobParts
  pub stage : Stage RunData

-- the run that a board has for a block
abbrev pub run_in : BlockSlot RunData → Option RunData
run_in Open = None
run_in (Posted r) = Some r
run_in Lost = None

abbrev pub block_in : RunData → ℕ
block_in r = r.index

-- What a board of a stage shows, and what its calls do (own).
use Rattle.std.specs.Prelude.{◌≡◌, ◌↔◌, ℕ, ◌+◌, ◌*◌, ◌^◌, ◌<◌, ◌≤◌, Option, Some, None, List, []}
use Rattle.std.specs.Prelude.{◌∷◌, ◌++◌, map, length, slice_get, slice_set, replicate}
use Rattle.schedules.specs.declared.event.Ticket.{Ticket}
use Rattle.schedules.specs.declared.event.Event.{Event}
use Rattle.schedules.specs.declared.event.Event.TheVariants.{Claim, Post, Lose}
use Rattle.schedules.specs.declared.place.BlockSlot.{BlockSlot}
use Rattle.schedules.specs.declared.place.BlockSlot.TheVariants.{Open, Posted, Lost}
use Rattle.schedules.specs.Schedules.{End, unended, posted, lost, World, first_world, Replays}

-- what contracts see of a board whose runs are of a type
pub record Stage (T : Type 0) : Type 0 where
  -- the number of the next block to be given out
  pub next : ℕ
  -- the block that each worker has out
  pub outs : List (Option ℕ)
  -- what it has for each block
  pub places : List (BlockSlot T)
  -- what happened, first to last
  pub events : List Event

-- what a worker has out
abbrev pub IsOutOf : List (Option ℕ) → ℕ → Option ℕ → Type 0
IsOutOf outs worker out =
    (block : ℕ) → (out ≡ Some block) ↔ (slice_get outs worker ≡ Some (Some block))

-- nobody has anything out
abbrev pub AreIdle : List (Option ℕ) → Type 0
AreIdle outs = (worker block : ℕ) → slice_get outs worker ≡ Some (Some block) → ⊥

-- the same of the workers below a number
abbrev pub AreIdleBelow : ℕ → List (Option ℕ) → Type 0
AreIdleBelow n outs =
    (worker block : ℕ) → worker < n → slice_get outs worker ≡ Some (Some block) → ⊥

module _ {T : Type 0} where
  -- nothing was given out
  abbrev pub first_stage : ℕ → ℕ → Stage T
  first_stage blocks workers =
      record {
        next = 0;
        outs = replicate workers None;
        places = replicate blocks Open;
        events =
            [];
      }

  -- how a block stands
  abbrev pub end_of : BlockSlot T → End
  end_of Open = unended
  end_of (Posted r) = posted
  end_of Lost = lost

  -- the stage without its runs
  abbrev pub world_of : Stage T → World
  world_of s = record { next = s.next; outs = s.outs; ends = map end_of s.places }

  -- the events are a schedule that leads to what the board shows
  abbrev pub IsScheduled : Stage T → Type 0
  IsScheduled s = Replays s.events (first_world (length s.places) (length s.outs)) (world_of s)

  -- each run that was posted is of its block, by the runs' numbers
  abbrev pub AreNumbered : (T → ℕ) → List (BlockSlot T) → Type 0
  AreNumbered number places =
      (block : ℕ) (r : T) → slice_get places block ≡ Some (Posted r) → number r ≡ block

  -- the next block is out
  abbrev pub claimed : Ticket → Stage T → Stage T
  claimed t s =
      record {
        next = s.next + 1;
        outs = slice_set s.outs t.worker (Some t.block);
        places =
            s.places;
        events = s.events ++ Claim t ∷ [];
      }

  -- a claim gives the next block, or nothing where all were given out
  abbrev pub Claims : Stage T → ℕ → Option Ticket → Stage T → Type 0
  Claims old worker None new = (length old.places ≤ old.next) × (new ≡ old)
  Claims old worker (Some t) new =
      (old.next < length old.places) × (t ≡ record { worker = worker; block = old.next })
      × (new ≡ claimed t old)

  -- a run is put at its block, which is out no more
  abbrev pub with_run : Ticket → T → Stage T → Stage T
  with_run t r s =
      record {
        next = s.next;
        outs = slice_set s.outs t.worker None;
        places = slice_set s.places
            t.block (Posted r);
        events = s.events ++ Post t ∷ [];
      }

  -- a block is given up
  abbrev pub without_run : Ticket → Stage T → Stage T
  without_run t s =
      record {
        next = s.next;
        outs = slice_set s.outs t.worker None;
        places = slice_set s.places
            t.block Lost;
        events = s.events ++ Lose t ∷ [];
      }

  -- a block that isn't posted is lost
  abbrev pub given_up : BlockSlot T → BlockSlot T
  given_up Open = Lost
  given_up (Posted r) = Posted r
  given_up Lost = Lost

  -- each block was posted or lost
  abbrev pub AreEnded : List (BlockSlot T) → Type 0
  AreEnded places = (block : ℕ) → slice_get places block ≡ Some Open → ⊥

  -- what the worker had out is lost, and nothing else
  pub record LetsGo (old : Stage T) (worker : ℕ) (new : Stage T) : Type 0 where
    pub idle : (block : ℕ) → slice_get new.outs worker ≡ Some (Some block) → ⊥
    pub others : (k : ℕ) → (k ≡ worker → ⊥) → slice_get new.outs k ≡ slice_get old.outs k
    pub workers : length new.outs ≡ length old.outs
    pub places : map given_up new.places ≡ map given_up old.places

  -- the next block, if there is one, is lost, and nothing else
  pub record LosesNext (old new : Stage T) : Type 0 where
    pub idle : AreIdle new.outs
    pub next : old.next < length old.places → new.next ≡ old.next + 1
    pub all : length old.places ≤ old.next → new ≡ old
    pub places : map given_up new.places ≡ map given_up old.places

  -- ---- what a board keeps

  pub record IsBoard (number : T → ℕ) (many room : ℕ) (s : Stage T) : Type 0 where
    pub scheduled : IsScheduled s
    pub numbered : AreNumbered number s.places
    pub blocks : length s.places ≡ many
    -- there is a worker
    pub workers : 0 < length s.outs
    -- blocks and workers are counted by machine words
    pub small : length s.places < 2 ^ 32
    pub few : length s.outs < 2 ^ 32
    -- there is room for two events a block
    pub roomy : 2 * length s.places ≤ room

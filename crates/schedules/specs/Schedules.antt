-- What a schedule of a stage's blocks is (own): claims, posts and losses, one after another.
use Rattle.std.specs.Prelude.{◌≡◌, ℕ, ◌+◌, ◌<◌, ◌≤◌, ◌⊎◌, Option, Some, None, List, [], ◌∷◌, eqb}
use Rattle.std.specs.Prelude.{filter, length, slice_get, slice_set, replicate}
use Rattle.schedules.specs.declared.event.Ticket.{Ticket}
use Rattle.schedules.specs.declared.event.Event.{Event}
use Rattle.schedules.specs.declared.event.Event.TheVariants.{Claim, Post, Lose}

-- how a block stands
pub data End : Type 0 where
  -- it waits, or is out
  unended : End
  -- its run was posted
  posted : End
  -- it was given up
  lost : End

-- a stage between two events
pub record World : Type 0 where
  -- the number of the next block to be given out
  pub next : ℕ
  -- the block that each worker has out
  pub outs : List (Option ℕ)
  -- how each block stands
  pub ends : List End

-- nothing was given out
abbrev pub first_world : ℕ → ℕ → World
first_world blocks workers =
    record { next = 0; outs = replicate workers None; ends = replicate blocks unended }

-- the worker has nothing out
abbrev pub IsIdle : List (Option ℕ) → ℕ → Type 0
IsIdle outs worker = slice_get outs worker ≡ Some None

-- the block is out in the worker's name
abbrev pub IsOut : List (Option ℕ) → Ticket → Type 0
IsOut outs t = slice_get outs t.worker ≡ Some (Some t.block)

-- an idle worker is given the next block
abbrev pub with_claim : Ticket → World → World
with_claim t w =
    record { next = w.next + 1; outs = slice_set w.outs t.worker (Some t.block); ends = w.ends }

-- it is out no more
abbrev pub ended : Ticket → End → World → World
ended t how w =
    record {
      next = w.next;
      outs = slice_set w.outs t.worker None;
      ends = slice_set w.ends t.block
          how;
    }

-- an event makes one world of another: an idle worker is given the next block, or one that is out
-- comes back
abbrev pub Happens : Event → World → World → Type 0
Happens (Claim t) w v =
    (t.block ≡ w.next) × (w.next < length w.ends) × IsIdle w.outs t.worker × (v ≡ with_claim t w)
Happens (Post t) w v = IsOut w.outs t × (v ≡ ended t posted w)
Happens (Lose t) w v = IsOut w.outs t × (v ≡ ended t lost w)

-- the events, first to last, make one world of another
abbrev pub Replays : List Event → World → World → Type 0
Replays [] w v = w ≡ v
Replays (e ∷ es) w v = (u : World) × (Happens e w u × Replays es u v)

-- the block of an event
abbrev pub block_of : Event → ℕ
block_of (Claim t) = t.block
block_of (Post t) = t.block
block_of (Lose t) = t.block

-- what happened to a block
abbrev pub events_of : ℕ → List Event → List Event
events_of block events = filter (λ e. eqb (block_of e) block) events

-- a block was given out, and then its run was posted
abbrev pub WasPosted : Ticket → List Event → Type 0
WasPosted t events = events ≡ Claim t ∷ Post t ∷ []

-- a block was given out, and then given up
abbrev pub WasLost : Ticket → List Event → Type 0
WasLost t events = events ≡ Claim t ∷ Lose t ∷ []

-- a block in a worker's name
abbrev pub ticket : ℕ → ℕ → Ticket
ticket worker block = record { worker = worker; block = block }

-- a block was claimed by a worker, and then posted or lost in its name, and there is nothing else
-- of it
abbrev pub IsOnce : ℕ → List Event → Type 0
IsOnce block events =
    (worker : ℕ)
    × (WasPosted (ticket worker block) (events_of block events)
    ⊎ WasLost (ticket worker block) (events_of block events))

-- each block below a number is claimed once and then posted or lost once, and there is nothing else
pub record SettledOnce (blocks : ℕ) (events : List Event) : Type 0 where
  pub each : (block : ℕ) → block < blocks → IsOnce block events
  pub none_else : (block : ℕ) → blocks ≤ block → events_of block events ≡ []

-- How a program is run (own): by how many workers, in blocks of how many trips, how many blocks at
-- a time, and with how many turns at most.
use Rattle.std.specs.Prelude.{◌≤◌, ℕ, Bool, ◌&&◌, nat_le, if◌then◌else◌, Option, Some, None}

pub record PlanNumbers : Type 0 where
  pub workers : ℕ
  pub block : ℕ
  pub window : ℕ
  pub turns : ℕ

-- the greatest of each; the least is 1
abbrev pub most_workers : ℕ
most_workers = 64

abbrev pub most_trips : ℕ
most_trips = 1000000

abbrev pub most_blocks : ℕ
most_blocks = 256

abbrev pub most_turns : ℕ
most_turns = 1000000000000

-- ---- the numbers that make a plan

abbrev pub in_range : ℕ → ℕ → Bool
in_range most n = nat_le 1 n && nat_le n most

abbrev pub are_in_range : PlanNumbers → Bool
are_in_range p =
    in_range most_workers p.workers
    && (in_range most_trips p.block
    && (in_range most_blocks p.window && in_range most_turns p.turns))

abbrev pub plan_if : PlanNumbers → Option PlanNumbers
plan_if p = if are_in_range p then Some p else None

abbrev pub plan_of : ℕ → ℕ → ℕ → ℕ → Option PlanNumbers
plan_of workers block window turns =
    plan_if (record { workers = workers; block = block; window = window; turns = turns })

-- ---- the numbers of a plan

pub record IsIn (most n : ℕ) : Type 0 where
  pub least : 1 ≤ n
  pub greatest : n ≤ most

pub record IsPlan (p : PlanNumbers) : Type 0 where
  pub workers : IsIn most_workers p.workers
  pub block : IsIn most_trips p.block
  pub window : IsIn most_blocks p.window
  pub turns : IsIn most_turns p.turns

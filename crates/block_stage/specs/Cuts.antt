-- Where a stage is cut, and what stands before the cut (own; after Dang, Yu and Rauchwerger).
use Rattle.std.specs.Prelude.{◌≡◌, ℕ, ◌+◌, ◌*◌, ◌-◌, ◌<◌, ◌^◌, ◌==◌, ◌&&◌, ◌||◌, Bool, true, false}
use Rattle.std.specs.Prelude.{List, [], ◌∷◌, length, nat_lt, min, take, sum_by, slice_get, is_some}
use Rattle.std.specs.Prelude.{is_none, Option, Some, None, fold, max}
use Rattle.std.specs.List.{list_any}
use Rattle.std.specs.FinSet as set
use Rattle.std.specs.FinMap as map
use Rattle.meaning.specs.declared.ending.Outcome.{Outcome}
use Rattle.meaning.specs.declared.ending.Outcome.TheVariants.{Normal, Left, Stopped, Fault}
use Rattle.meaning.specs.Stores.{Cells, overlay}
use Rattle.meaning.specs.Turns.{met_limit}
use Rattle.evaluator.specs.Statements.{outcome_of}
use Rattle.block_stage.specs.Jobs.{JobData}
use Rattle.block_stage.specs.Faithful.{RunData}

-- the run at each place, by the blocks' numbers; none where a block is missing
abbrev pub Places : Type 0
Places = List (Option RunData)

abbrev pub at_place : Option (Option RunData) → Option RunData
at_place None = None
at_place (Some p) = p

abbrev pub place_at : Places → ℕ → Option RunData
place_at places j = at_place (slice_get places j)

-- ---- broken dependences

-- the first block wrote a cell that the second exposed
abbrev pub reads_of : RunData → RunData → Bool
reads_of r s = list_any (λ c. is_some (map.get r.seen.written c)) (set.items s.seen.exposed)

abbrev pub reads_place : RunData → Option RunData → Bool
reads_place s None = false
reads_place s (Some r) = reads_of r s

abbrev pub clashes_at : Places → ℕ → Option RunData → Bool
clashes_at places j None = false
clashes_at places j (Some s) = list_any (reads_place s) (take j places)

-- an earlier block wrote a cell that block j exposed
abbrev pub clashes : Places → ℕ → Bool
clashes places j = clashes_at places j (place_at places j)

-- ---- turns and outcomes

abbrev pub turns_in : Option RunData → ℕ
turns_in None = 0
turns_in (Some r) = r.used

abbrev pub outcome_in : Option RunData → Outcome
outcome_in None = Normal
outcome_in (Some r) = r.outcome

-- the turns of all blocks that have a run, but no more than the greatest number
abbrev pub turns_posted : Places → ℕ
turns_posted places = min (sum_by turns_in places) (2 ^ 64 - 1)

-- the most turns of a block that has a run
abbrev pub longest_in : Places → ℕ
longest_in places = fold (λ most p. max most (turns_in p)) 0 places

-- the turns of the blocks below n
abbrev pub turns_to : Places → ℕ → ℕ
turns_to places n = sum_by turns_in (take n places)

abbrev pub is_limit : Outcome → Bool
is_limit o = met_limit (outcome_of o)

-- an end that isn't normal
abbrev pub is_early : Outcome → Bool
is_early Normal = false
is_early (Left s) = true
is_early (Stopped line) = true
is_early (Fault f) = true

-- ---- the cut

-- a place past the first at which the stage may be cut
abbrev pub stops_later : ℕ → Places → ℕ → Bool
stops_later t places j =
    clashes places j || nat_lt t (turns_to places (j + 1))
    || is_limit (outcome_in (place_at places j))
    || is_early (outcome_in (place_at places (j - 1)))

-- a place at which the stage may be cut: behind all blocks; where a block is missing; and, past the
-- first, where a dependence is broken, where the turns of the blocks up to it exceed those that are
-- left or it met the limit, and behind a block that didn't end normally
abbrev pub stops : ℕ → Places → ℕ → Bool
stops t places j =
    (j == length places) || is_none (place_at places j) || (nat_lt 0 j && stops_later t places j)

-- the least of them
pub record IsCut (t : ℕ) (places : Places) (c : ℕ) : Type 0 where
  pub here : stops t places c ≡ true
  pub least : (p : ℕ) → p < c → stops t places p ≡ false

-- ---- what stands before it

abbrev pub overlay_by : Cells → Option RunData → Cells
overlay_by m None = m
overlay_by m (Some r) = overlay m (map.get r.seen.written)

-- the written cells of each block put in, in the blocks' order
abbrev pub overlay_all : Cells → Places → Cells
overlay_all m [] = m
overlay_all m (p ∷ ps) = overlay_all (overlay_by m p) ps

-- how many trips the blocks below c have
abbrev pub trips_before : JobData → ℕ → ℕ
trips_before d c = min (c * d.block_size) d.trips

-- how the last block before the cut ended
abbrev pub outcome_to : Places → ℕ → Outcome
outcome_to places c = outcome_in (place_at places (c - 1))

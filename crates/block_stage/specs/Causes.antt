-- Why a stage is cut where it is (own).
use Rattle.std.specs.Prelude.{◌≡◌, ◌⊎◌, ℕ, ◌+◌, ◌<◌, ◌||◌, Bool, true, false, length, nat_lt, take}
use Rattle.std.specs.Prelude.{slice_get, is_some, is_none, Option, Some, None}
use Rattle.std.specs.List.{list_any}
use Rattle.std.specs.Ordering.{nat_cmp}
use Rattle.std.specs.FinSet as set
use Rattle.std.specs.FinMap as map
use Rattle.block_stage.specs.declared.causes.Cause.{Cause}
use Rattle.block_stage.specs.declared.causes.Cause.TheVariants as causes
use Rattle.block_stage.specs.declared.causes.Dependence.{Dependence}
use Rattle.block_stage.specs.Faithful.{RunData}
use Rattle.block_stage.specs.Cuts.{Places, place_at, clashes, turns_to, outcome_in, outcome_to}
use Rattle.block_stage.specs.Cuts.{is_early, is_limit, reads_place}

-- the cell is in both sets, and none before it is
pub record IsLeastShared (s t : set.FinSet nat_cmp) (cell : ℕ) : Type 0 where
  pub one : set.contains s cell ≡ true
  pub other : set.contains t cell ≡ true
  pub least : (c : ℕ) → c < cell → set.contains s c ≡ true → set.contains t c ≡ true → ⊥

-- the first block wrote the cell, and the second exposed it
abbrev pub Carries : RunData → RunData → ℕ → Type 0
Carries r s cell =
    (is_some (map.get r.seen.written cell) ≡ true) × (set.contains s.seen.exposed cell ≡ true)

-- and no cell before it
pub record CarriesLeast (r s : RunData) (cell : ℕ) : Type 0 where
  pub carries : Carries r s cell
  pub least : (c : ℕ) → c < cell → Carries r s c → ⊥

-- the first of these blocks that wrote a cell which a later one exposed, and the least such cell
pub record IsCarried (earlier : Places) (later : RunData) (d : Dependence) : Type 0 where
  pub run : RunData
  pub there : slice_get earlier d.writer ≡ Some (Some run)
  pub first : list_any (reads_place later) (take d.writer earlier) ≡ false
  pub carries : CarriesLeast run later d.cell

-- of the run behind the cut, where there is one
abbrev pub IsBroken : Places → ℕ → Option RunData → Dependence → Type 0
IsBroken places cut None d = ⊥
IsBroken places cut (Some later) d = IsCarried (take cut places) later d

-- the block before the cut left the loop, stopped or faulted
abbrev pub has_ended : Places → ℕ → Bool
has_ended places cut = is_early (outcome_to places cut)

-- the cause that is told of a stage which is cut there: of several the first of loss, exit,
-- dependence and turns
abbrev pub IsCause : ℕ → Places → ℕ → Cause → Type 0
IsCause t places cut causes.Whole = (cut ≡ length places) × (has_ended places cut ≡ false)
IsCause t places cut causes.Loss = (cut < length places) × (is_none (place_at places cut) ≡ true)
IsCause t places cut causes.Exit =
    ((cut ≡ length places) ⊎ (is_some (place_at places cut) ≡ true)) × (has_ended places cut ≡ true)
IsCause t places cut (causes.Dependence d) =
    (has_ended places cut ≡ false) × IsBroken places cut (place_at places cut) d
IsCause t places cut causes.Turns =
    (has_ended places cut ≡ false) × (clashes places cut ≡ false)
    × ((nat_lt t (turns_to places (cut + 1)) || is_limit (outcome_in (place_at places cut)))
    ≡ true)

-- What the parts of one statement give.
use Rattle.std.specs.Prelude.{◌≡◌, ◌<◌, ◌≤◌, ℕ, suc, ℤ, ◌+◌, ◌+ℤ◌, Bool, true, false, List, []}
use Rattle.std.specs.Prelude.{Result, Ok, Err}
use Rattle.meaning.specs.declared.ending.Fault.{Fault}
use Rattle.meaning.specs.declared.ending.FaultKind.{FaultKind}
use Rattle.meaning.specs.declared.ending.Outcome.{Outcome}
use Rattle.meaning.specs.declared.ending.Outcome.TheVariants as outcomes
use Rattle.meaning.specs.declared.ending.Run.{Run}
use Rattle.meaning.specs.declared.ending.Value.{Value}
use Rattle.meaning.specs.Maps.{Map, put}
use Rattle.meaning.specs.Values.{as_integer, integer}
use Rattle.meaning.specs.Execution.{Outcome as Ended, normal, jump, stopped, fault, Ran, more, Next}
use Rattle.meaning.specs.Execution.{onward, at_label, Follow, Ways}

abbrev pub outcome_of : Outcome → Ended
outcome_of outcomes.Normal = normal
outcome_of (outcomes.Left s) = jump s
outcome_of (outcomes.Stopped line) = stopped line
outcome_of (outcomes.Fault f) = fault f.kind f.line

-- an end that isn't normal
abbrev pub IsEnd : Outcome → Type 0
IsEnd outcomes.Normal = ⊥
IsEnd (outcomes.Left s) = Unit {0}
IsEnd (outcomes.Stopped line) = Unit {0}
IsEnd (outcomes.Fault f) = Unit {0}

-- a run without output that leaves this map
abbrev pub ran_by : Run → Map → Ran
ran_by r m = record { outcome = outcome_of r.outcome; map = m; pieces = []; used = r.turns_used }

-- ---- what writes nothing, from turns that are given

-- a run: how it ended, and the map and the turns that it left
pub record Leaves (r : Ran) (given : ℕ) (new : Map) (left : ℕ) (o : Outcome) : Type 0 where
  pub outcome : r.outcome ≡ outcome_of o
  pub after : r.map ≡ new
  pub nothing : r.pieces ≡ []
  pub turns : r.used + left ≡ given

-- a statement that goes on there from this map and these turns
pub record Passes (does : Ways → Ran) (given : ℕ) (next : Next) (new : Map) (left : ℕ) : Type 0
  where
    pub used : ℕ
    pub is : (go : Ways) → does go ≡ more [] used (go next new left)
    pub turns : used + left ≡ given

-- a statement, which goes on or ends, whatever follows
abbrev pub Moves : (Ways → Ran) → ℕ → Map → ℕ → Outcome → Type 0
Moves does given new left outcomes.Normal = Passes does given onward new left
Moves does given new left (outcomes.Left s) = Passes does given (at_label s) new left
Moves does given new left (outcomes.Stopped line) =
    (go : Ways) → Leaves (does go) given new left (outcomes.Stopped line)
Moves does given new left (outcomes.Fault f) =
    (go : Ways) → Leaves (does go) given new left (outcomes.Fault f)

-- the turns that are left, whatever was lost: a transfer has taken one
abbrev pub Spends : Outcome → ℕ → ℕ → Type 0
Spends outcomes.Normal old new = new ≤ old
Spends (outcomes.Left s) old new = new < old
Spends (outcomes.Stopped line) old new = new ≤ old
Spends (outcomes.Fault f) old new = new ≤ old

-- what was run so far, followed by what is left, is the whole
pub record Reaches (whole rest : Ran) (given left : ℕ) : Type 0 where
  pub used : ℕ
  pub is : whole ≡ more [] used rest
  pub turns : used + left ≡ given

-- the same, whatever follows
pub record Comes (whole rest : Ways → Ran) (given left : ℕ) : Type 0 where
  pub used : ℕ
  pub is : (go : Ways) → whole go ≡ more [] used (rest go)
  pub turns : used + left ≡ given

-- a DO WHILE whose range ended normally: from this map and these turns it is executed again
pub record GoesAgain (does : Ways → Ran) (given : ℕ) (again : Follow) (new : Map) (left : ℕ) : Type
    0 where
  pub used : ℕ
  pub is : (go : Ways) → does go ≡ more [] used (again new left)
  pub turns : used + left ≡ given

-- ---- the tests of conditions

-- whether what is tested is picked, with these turns left
pub record Picks (does : (Bool → ℕ → Ran) → Ran) (given : ℕ) (picked : Bool) (left : ℕ) : Type 0
  where
    pub used : ℕ
    pub is : (go : Bool → ℕ → Ran) → does go ≡ more [] used (go picked left)
    pub turns : used + left ≡ given

abbrev pub Tests : ((Bool → ℕ → Ran) → Ran) → ℕ → Map → ℕ → Result Bool Fault → Type 0
Tests does given m left (Ok picked) = Picks does given picked left
Tests does given m left (Err f) =
    (go : Bool → ℕ → Ran) → Leaves (does go) given m left (outcomes.Fault f)

-- ---- the parts of a statement

-- the DO variable has the sum, and all else what it had
pub record Sums (variable : List ℕ) (by : ℤ) (old new : Map) : Type 0 where
  pub sum : Value
  pub is : integer (old variable [] +ℤ by) ≡ Ok sum
  pub after : new ≡ put old variable [] (as_integer sum)

-- an addition, or its fault, which leaves the map
abbrev pub Adds : List ℕ → ℤ → Map → Map → Result (Unit {0}) FaultKind → Type 0
Adds variable by old new (Ok u) = Sums variable by old new
Adds variable by old new (Err kind) = (integer (old variable [] +ℤ by) ≡ Err kind) × (new ≡ old)

-- a turn is taken, or none is left
abbrev pub TakesTurn : ℕ → ℕ → Bool → Type 0
TakesTurn old new true = old ≡ suc new
TakesTurn old new false = (old ≡ 0) × (new ≡ 0)

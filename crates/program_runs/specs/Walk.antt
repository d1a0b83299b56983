-- What the code that executes statements answers, against what the statements do.
use Rattle.std.specs.Prelude.{◌≡◌, ◌+◌, ℕ, ℤ, List, Result, Ok, Err}
use Rattle.std.specs.List.{concat}
use Rattle.meaning.specs.declared.ending.Outcome.{Outcome}
use Rattle.meaning.specs.declared.ending.Outcome.TheVariants as outcomes
use Rattle.meaning.specs.declared.ending.Run.{Run}
use Rattle.meaning.specs.declared.syntax.Tree.{Tree}
use Rattle.meaning.specs.Maps.{Map}
use Rattle.meaning.specs.Syntax.{FormatTree, ItemTree, ListItemsTree}
use Rattle.meaning.specs.Execution.{Next, onward, at_label, Ran, more, Follow, Ways, output}
use Rattle.meaning.specs.Promise.{Told, Took, IsFront, IsBroken}
use Rattle.program_runs.specs.declared.halt.Halt.{Halt}
use Rattle.program_runs.specs.declared.halt.Halt.TheVariants as halts
use Rattle.storage.specs.Starts.{map_of}
use Rattle.evaluator.specs.declared.passed.Passed.{Passed}
use Rattle.evaluator.specs.declared.passed.Passed.TheVariants.{Ended, Again}
use Rattle.evaluator.specs.Statements.{outcome_of}
use Rattle.whole_runs.specs.declared.trips.Advance.{Advance}

-- ---- a run by itself, from turns that are given

-- it ended so, with this map and so many turns left, and wrote all its pieces
pub record IsOver (r : Ran) (given : ℕ) (m : Map) (left : ℕ) (o : Outcome) (old new : Told) : Type 0
  where
    pub outcome : r.outcome ≡ outcome_of o
    pub after : r.map ≡ m
    pub turns : r.used + left ≡ given
    pub bytes : Took old new (concat r.pieces)

-- it was cut short: memory between two pieces, a write anywhere
abbrev pub Halts : List (List ℕ) → Halt → Told → Told → Type 0
Halts pieces halts.Memory old new = IsFront pieces old new
Halts pieces halts.WriteRefused old new = IsBroken (concat pieces) old new

abbrev pub Runs : Ran → ℕ → Map → ℕ → Result Outcome Halt → Told → Told → Type 0
Runs r given m left (Ok o) old new = IsOver r given m left o old new
Runs r given m left (Err h) old new = Halts r.pieces h old new

-- ---- a statement, before whatever follows it

-- it goes on there from this map and these turns
pub record GoesOn (does : Ways → Ran) (given : ℕ) (next : Next) (m : Map) (left : ℕ)
    (old new : Told) : Type 0 where
  pub pieces : List (List ℕ)
  pub used : ℕ
  pub is : (go : Ways) → does go ≡ more pieces used (go next m left)
  pub turns : used + left ≡ given
  pub bytes : Took old new (concat pieces)

abbrev pub Steps : (Ways → Ran) → ℕ → Map → ℕ → Result Outcome Halt → Told → Told → Type 0
Steps does given m left (Ok outcomes.Normal) old new = GoesOn does given onward m left old new
Steps does given m left (Ok (outcomes.Left s)) old new =
    GoesOn does given (at_label s) m left old new
Steps does given m left (Ok (outcomes.Stopped line)) old new =
    (go : Ways) → IsOver (does go) given m left (outcomes.Stopped line) old new
Steps does given m left (Ok (outcomes.Fault f)) old new =
    (go : Ways) → IsOver (does go) given m left (outcomes.Fault f) old new
Steps does given m left (Err h) old new = (go : Ways) → Halts (does go).pieces h old new

-- ---- a member of a list, before whatever follows it

-- the range of a DO WHILE ended normally: from this map and these turns it is executed again (own)
pub record GoesAgain (does : Ways → Ran) (given : ℕ) (again : Follow) (m : Map) (left : ℕ)
    (old new : Told) : Type 0 where
  pub pieces : List (List ℕ)
  pub used : ℕ
  pub is : (go : Ways) → does go ≡ more pieces used (again m left)
  pub turns : used + left ≡ given
  pub bytes : Took old new (concat pieces)

abbrev pub Passes : (Ways → Ran) → ℕ → Follow → Map → ℕ → Result Passed Halt → Told → Told → Type 0
Passes does given again m left (Ok (Ended o)) old new = Steps does given m left (Ok o) old new
Passes does given again m left (Ok Again) old new = GoesAgain does given again m left old new
Passes does given again m left (Err h) old new = (go : Ways) → Halts (does go).pieces h old new

-- ---- of a program, from values of its cells to others

abbrev pub RunsIn : Tree → List ℤ → List ℤ → (Map → ℕ → Ran) → ℕ → ℕ → Result Outcome Halt → Told →
    Told → Type 0
RunsIn t cells new_cells does given left o old new =
    Runs (does (map_of t cells) given) given (map_of t new_cells) left o old new

abbrev pub StepsIn : Tree → List ℤ → List ℤ → (Map → ℕ → Ways → Ran) → ℕ → ℕ → Result Outcome Halt →
    Told → Told → Type 0
StepsIn t cells new_cells does given left o old new =
    Steps (λ go. does (map_of t cells) given go) given (map_of t new_cells) left o old new

-- so many trips of a DO statement, or the next one, which was cut short
abbrev pub Advances : (ℕ → Ran) → ℕ → Map → ℕ → Result Advance Halt → Told → Told → Type 0
Advances trips given m left (Ok a) old new = Runs (trips a.done) given m left (Ok a.outcome) old new
Advances trips given m left (Err h) old new = Halts (trips 1).pieces h old new

abbrev pub AdvancesIn : Tree → List ℤ → List ℤ → (ℕ → Map → ℕ → Ran) → ℕ → ℕ → Result Advance Halt →
    Told → Told → Type 0
AdvancesIn t cells new_cells trips given left r old new =
    Advances (λ n. trips n (map_of t cells) given) given (map_of t new_cells) left r old new

-- whatever a DO WHILE that is executed again does
abbrev pub PassesIn : Tree → List ℤ → List ℤ → (Follow → Map → ℕ → Ways → Ran) → ℕ → ℕ →
    Result Passed Halt → Told → Told → Type 0
PassesIn t cells new_cells does given left p old new =
    (again : Follow) →
    Passes (λ go. does again (map_of t cells) given go) given again (map_of t new_cells) left p
    old new

-- a WRITE or PRINT statement
abbrev pub output_as : List ItemTree → FormatTree → ListItemsTree → ℕ → Map → ℕ → Ways → Ran
output_as all source list line m t go = output all source list line m t (go onward)

-- ---- what was run so far, followed by what is left, is the whole

pub record SoFar (whole rest : Ran) (given left : ℕ) (old new : Told) : Type 0 where
  pub pieces : List (List ℕ)
  pub used : ℕ
  pub is : whole ≡ more pieces used rest
  pub turns : used + left ≡ given
  pub bytes : Took old new (concat pieces)

-- ---- the run of a program

-- it was run to its end, with so many turns, and wrote all its pieces
pub record HasEnded (r : Ran) (run : Run) (old new : Told) : Type 0 where
  pub outcome : r.outcome ≡ outcome_of run.outcome
  pub turns : r.used ≡ run.turns_used
  pub bytes : Took old new (concat r.pieces)

abbrev pub Ends : Ran → Result Run Halt → Told → Told → Type 0
Ends r (Ok run) old new = HasEnded r run old new
Ends r (Err h) old new = Halts r.pieces h old new

-- What a call that executes trips of a DO statement without output asks and gives.
use Rattle.std.specs.Prelude.{◌≡◌, ◌≢◌, ◌≤◌, ℕ, ℤ, List, length, pos}
use Rattle.meaning.specs.declared.syntax.Loop.{Loop, out-Loop}
use Rattle.meaning.specs.declared.syntax.Tree.{Tree}
use Rattle.meaning.specs.Syntax.{shape_tree}
use Rattle.storage.specs.Checked.{count_in}
use Rattle.program.specs.declared.action.Repeat.{Repeat}
use Rattle.program.specs.Acts.{Repeats}
use Rattle.whole_runs.specs.declared.trips.Advance.{Advance}
use Rattle.whole_runs.specs.declared.trips.Remaining.{Remaining}
use Rattle.whole_runs.specs.Trips.{IsQuietLoop, LeavesIn, trips_in}

-- a DO statement of the program without output, trips that are left of it, and as many cells as the
-- program has
pub record IsAsked (t : Tree) (l : Loop) (r : Repeat) (remaining : Remaining) (cells : List ℤ) :
    Type 0 where
  pub quiet : IsQuietLoop t l
  pub repeats : Repeats t r (shape_tree (out-Loop l).head.form.shape.value)
  pub moves : remaining.span.step ≢ pos 0
  pub sized : length cells ≡ count_in t

-- what it does from these cells and turns
pub record IsGiven (t : Tree) (l : Loop) (remaining : Remaining) (old new : List ℤ) (given left : ℕ)
    (a : Advance) : Type 0 where
  pub done : a.done ≤ remaining.trips
  pub leaves : (first : ℤ) →
      LeavesIn t old new (trips_in t l first remaining.span.step a.done) given left a.outcome
  pub nothing : a.done ≡ 0 → (new ≡ old) × (left ≡ given)
  pub len : length new ≡ length old

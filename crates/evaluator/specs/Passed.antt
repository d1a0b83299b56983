-- How a member of a list is passed.
use Rattle.std.specs.Prelude.{ℕ, ◌<◌, Result, Ok, Err}
use Rattle.meaning.specs.declared.ending.Outcome.{Outcome}
use Rattle.meaning.specs.declared.ending.Outcome.TheVariants as outcomes
use Rattle.meaning.specs.Execution.{Ran, Follow, Ways}
use Rattle.meaning.specs.Maps.{Map}
use Rattle.evaluator.specs.declared.passed.Passed.{Passed}
use Rattle.evaluator.specs.declared.passed.Passed.TheVariants.{Ended, Again}
use Rattle.evaluator.specs.Statements.{GoesAgain, Moves, Spends}

-- one that ended so, or what cut it short
abbrev pub ended_by : {E : Type 0} → Result Outcome E → Result Passed E
ended_by (Ok o) = Ok (Ended o)
ended_by (Err e) = Err e

-- a DO WHILE statement whose range ended so (own)
abbrev pub passed_behind : Outcome → Passed
passed_behind outcomes.Normal = Again
passed_behind (outcomes.Left s) = Ended (outcomes.Left s)
passed_behind (outcomes.Stopped line) = Ended (outcomes.Stopped line)
passed_behind (outcomes.Fault f) = Ended (outcomes.Fault f)

-- the turns that are left, whatever was lost: a transfer has taken one, and so has what is executed
-- again
abbrev pub SpendsBy : Passed → ℕ → ℕ → Type 0
SpendsBy (Ended o) old new = Spends o old new
SpendsBy Again old new = new < old

-- a member of a list that is passed so, whatever follows it
abbrev pub PassesBy : (Ways → Ran) → ℕ → Follow → Map → ℕ → Passed → Type 0
PassesBy does given again new left (Ended o) = Moves does given new left o
PassesBy does given again new left Again = GoesAgain does given again new left

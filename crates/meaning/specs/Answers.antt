-- The bytes and the ending of a source under a turn limit: what it says, rule by rule and statement
-- by statement.
use Rattle.std.specs.Prelude.{ℕ, ◌==◌, if◌then◌else◌, List, [], ◌∷◌, map, Result, Ok, Err, Option}
use Rattle.std.specs.Prelude.{Some, None}
use Rattle.meaning.specs.declared.refusal.Broken.{Broken}
use Rattle.meaning.specs.declared.refusal.Rule.{Rule}
use Rattle.meaning.specs.declared.ending.Ending.{Ending}
use Rattle.meaning.specs.declared.ending.Report.{Report}
use Rattle.meaning.specs.declared.ending.Ending.TheVariants as endings
use Rattle.meaning.specs.Refusals.{◌>>=◌, all_of}
use Rattle.meaning.specs.Syntax.{StopTree, stop_silent, stop_digits, stop_text, ShapeTree}
use Rattle.meaning.specs.Syntax.{logical_if, stopping, ItemTree}
use Rattle.meaning.specs.Statements.{Entry, statements_of}
use Rattle.meaning.specs.BareText.{bare}
use Rattle.meaning.specs.Reading.{read_shape}
use Rattle.meaning.specs.Nesting.{nest}
use Rattle.meaning.specs.Trees.{Nested, flatten}
use Rattle.meaning.specs.Formats.{undoubled}
use Rattle.meaning.specs.Rules.{checked}
use Rattle.meaning.specs.Uses.{symbols_of}
use Rattle.meaning.specs.Initial.{start_of}
use Rattle.meaning.specs.Execution.{Outcome, normal, jump, stopped, fault, Ran, exec}

-- a form in its place, or the broken rule at its line
abbrev pub at_line : {A : Type 0} → ℕ → Result A Rule → Result A Broken
at_line line (Ok x) = Ok x
at_line line (Err rule) = Err (record { line = line; rule = rule })

abbrev pub member_of : Entry → Result ItemTree Broken
member_of e = at_line e.line (read_shape (bare e.text)) >>=
    λ s. Ok (record { line = e.line; label = e.label; shape = s })

unfoldable pub members_of : List Entry → Result (List ItemTree) Broken
members_of entries = all_of (map member_of entries)

-- the program unit that a source spells, or the refusal
unfoldable pub program_of : List ℕ → Result Nested Broken
program_of source =
    statements_of source >>= λ entries. members_of entries >>= λ members. nest members >>=
    λ t. checked t

-- what a program unit does from the start
unfoldable pub run_of : Nested → ℕ → Ran
run_of t limit =
    exec (flatten t) t.body t.body (start_of (symbols_of (flatten t)) (flatten t)) limit

-- what a STOP statement tells (11.12): its digits as they were written, or the characters of its
-- constant
abbrev pub told_by : StopTree → List ℕ
told_by stop_silent = []
told_by (stop_digits digits) = digits
told_by (stop_text text) = undoubled text

-- the STOP statement may stand under a logical IF
abbrev pub message_of : ShapeTree → List ℕ
message_of (stopping s) = told_by s
message_of (logical_if e s) = message_of s
message_of s = []

-- what the STOP statement at a line tells; no two statements begin at one line
unfoldable pub message_at : List ItemTree → ℕ → List ℕ
message_at [] line = []
message_at (x ∷ xs) line = if x.line == line then message_of x.shape else message_at xs line

-- how the program ends; the rules leave no transfer out of its body
abbrev pub ending_of : List ItemTree → Outcome → Ending
ending_of program normal = endings.Ended
ending_of program (jump s) = endings.Ended
ending_of program (stopped line) = endings.Stopped (message_at program line)
ending_of program (fault kind line) = endings.Fault (record { kind = kind; line = line })

-- what is told: the ending, and the turns that were used, where the program's statements ended it
abbrev pub report : Ending → Option ℕ → Report
report ending turns = record { ending = ending; turns = turns }

-- the pieces that are written, and what is told at the end
pub record Answer : Type 0 where
  pub pieces : List (List ℕ)
  pub ending : Report

abbrev pub told_of : Nested → Ran → Answer
told_of t r =
    record { pieces = r.pieces; ending = report (ending_of (flatten t) r.outcome) (Some r.used) }

abbrev pub answer_of : Result Nested Broken → ℕ → Answer
answer_of (Err b) limit =
    record { pieces = []; ending = report (endings.Refused b.rule b.line) None }
answer_of (Ok t) limit = told_of t (run_of t limit)

unfoldable pub answer : List ℕ → ℕ → Answer
answer source limit = answer_of (program_of source) limit

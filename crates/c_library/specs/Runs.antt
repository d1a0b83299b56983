-- What a run and a check give to C: the main theorem and the rules, in the caller's memory.
use Rattle.std.specs.Prelude.{◌≡◌, ℕ, ◌≤◌, List, ◌++◌, length, drop, Ok, Err}
use Rattle.std.specs.List.{concat}
use Rattle.meaning.specs.declared.ending.Report.{Report}
use Rattle.meaning.specs.declared.ending.Ending.TheVariants as endings
use Rattle.meaning.specs.declared.refusal.Broken.{Broken}
use Rattle.meaning.specs.Answers.{answer, program_of}
use Rattle.meaning.specs.Endings as reports
use Rattle.meaning.specs.Trees.{Nested}
use Rattle.c_library.specs.declared.shown.RunReport.{RunReport}
use Rattle.c_library.specs.declared.shown.Verdict.{Verdict}
use Rattle.c_library.specs.Shown.{Tells, nowhere, place_of}

-- bytes with which those that a source writes begin
pub record IsBeginning (source : List ℕ) (turns : ℕ) (bytes : List ℕ) : Type 0 where
  pub lost : List ℕ
  pub parts : concat (answer source turns).pieces ≡ bytes ++ lost

-- the bytes and the report are the answer's
pub record IsWhole (source : List ℕ) (turns : ℕ) (report : Report) (bytes : List ℕ) : Type 0 where
  pub same_bytes : bytes ≡ concat (answer source turns).pieces
  pub same_report : report ≡ (answer source turns).ending

-- where there is room for so many bytes: the whole answer; or a beginning, since memory was
-- refused; or as much of a beginning as there is room for
pub data Ran (source : List ℕ) (turns room : ℕ) (report : Report) (bytes : List ℕ) : Type 0 where
  whole : IsWhole source turns report bytes → length bytes ≤ room →
      Ran source turns room report bytes
  cut_short : IsBeginning source turns bytes → length bytes ≤ room → report ≡ reports.Memory →
      Ran source turns room report bytes
  full : IsBeginning source turns bytes → length bytes ≡ room → report ≡ reports.WriteRefused →
      Ran source turns room report bytes

-- C sees such a report, and such bytes at the front of the output, with what stood behind them
pub record IsShown (source : List ℕ) (turns : ℕ) (old new : List ℕ) (before after : RunReport) :
    Type 0 where
  pub report : Report
  pub bytes : List ℕ
  pub ran : Ran source turns (length old) report bytes
  pub output : new ≡ bytes ++ drop (length bytes) old
  pub written : after.written ≡ length bytes
  pub told : Tells report before after

-- a source is accepted, or refused for the least pair, or memory was refused
pub data IsVerdict (source : List ℕ) (verdict : Verdict) : Type 0 where
  accepted : (t : Nested) → program_of source ≡ Ok t → verdict
      ≡ record { ending = 0; place = nowhere } → IsVerdict source verdict
  refused : (b : Broken) → program_of source ≡ Err b → verdict
      ≡ record { ending = 3; place = place_of (endings.Refused b.rule b.line) } →
      IsVerdict source verdict
  unknown : verdict ≡ record { ending = 4; place = nowhere } → IsVerdict source verdict

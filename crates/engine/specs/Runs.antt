-- What a run leaves at a writer, and the exit status that comes of it.
use Rattle.std.specs.Prelude.{◌≡◌, ◌↔◌, ℕ, Bool, true, false, List, Option, None}
use Rattle.std.specs.Io.KnownBytes.{Keeps as Holds}
use Rattle.meaning.specs.declared.ending.Ending.TheVariants as endings
use Rattle.meaning.specs.declared.ending.Report.{Report}
use Rattle.meaning.specs.Answers.{answer, program_of}
use Rattle.meaning.specs.Promise.{Keeps, Told}
use Rattle.command_line.specs.declared.asked.Options.{Options}
use Rattle.engine.specs.Status.{IsCheck, status_of}

-- a sink over a writer that holds these bytes, where they are known
abbrev pub held : Option (List ℕ) → Bool → Told
held bytes refused = record { bytes = bytes; refused = refused }

-- what a writer holds behind a run and its flush is what the run's report says of the answer: a
-- flush that is refused is a write that is refused
pub record IsKept (source : List ℕ) (turns : ℕ) (old new : Option (List ℕ)) (report : Report)
    : Type 0 where
  pub refused : Bool
  pub keeps : Keeps (answer source turns) (held old false) (held new refused) report
  pub says : (report.ending ≡ endings.WriteRefused) ↔ (refused ≡ true)

-- a check writes nothing; what is reported is its ending, or that of the run
abbrev pub IsReport : Options → List ℕ → Option (List ℕ) → Option (List ℕ) → Report → Type 0
IsReport asked source old new report = by asked.check
  where
    by : Bool → Type 0
    by true =
        IsCheck (program_of source) report.ending × (report.turns ≡ None) × Holds old new
    by false = IsKept source asked.plan.turns old new report

-- the status is that of a report
pub record IsStatus (asked : Options) (source : List ℕ) (old new : Option (List ℕ)) (status : ℕ)
    : Type 0 where
  pub report : Report
  pub reports : IsReport asked source old new report
  pub is : status ≡ status_of report.ending

-- What is told of a run that its statements ended.
use Rattle.std.specs.Prelude.{◌≡◌, List, Some}
use Rattle.meaning.specs.declared.ending.Report.{Report}
use Rattle.meaning.specs.declared.ending.Run.{Run}
use Rattle.meaning.specs.Answers.{ending_of, report}
use Rattle.meaning.specs.Syntax.{ItemTree}
use Rattle.evaluator.specs.Statements.{outcome_of}

-- its ending and the turns that it used
abbrev pub IsReportOf : List ItemTree → Run → Report → Type 0
IsReportOf items run r =
    r ≡ report (ending_of items (outcome_of run.outcome)) (Some run.turns_used)

-- The three cases of the main theorem, of a program.
use Rattle.std.proofs.Common.{ℕ, Ok, Some, refl, sym, ap₂, ◌∙◌}
use Rattle.std.specs.List.{concat}
use Rattle.meaning.specs.declared.ending.Report.{Report}
use Rattle.meaning.specs.declared.ending.Run.{Run}
use Rattle.meaning.specs.Trees.{Nested, flatten}
use Rattle.meaning.specs.Answers.{answer_of, run_of, ending_of, report}
use Rattle.meaning.specs.Endings as endings
use Rattle.meaning.specs.Promise.{Told, IsFront, IsBroken, Keeps, whole, cut_short, broken_off}
use Rattle.program_runs.specs.Reported.{IsReportOf}
use Rattle.program_runs.specs.Walk.{HasEnded}

module _ (limit : ℕ) (t : Nested) (old new : Told) where
  pub keeps_reported : (run : Run) (r : Report) → HasEnded (run_of t limit) run old new → IsReportOf (flatten t) run r → Keeps (answer_of (Ok t) limit) old new r
  keeps_reported run r over is =
      whole (record { bytes = over.bytes; same_ending = is ∙ ap₂ (λ o n. report (ending_of (flatten t) o) (Some n)) (sym over.outcome) (sym over.turns) })

  pub keeps_front : IsFront (run_of t limit).pieces old new → Keeps (answer_of (Ok t) limit) old new endings.Memory
  keeps_front front = cut_short (record { bytes = front; says_so = refl })

  pub keeps_broken : IsBroken (concat (run_of t limit).pieces) old new → Keeps (answer_of (Ok t) limit) old new endings.WriteRefused
  keeps_broken broken = broken_off (record { bytes = broken; says_so = refl })

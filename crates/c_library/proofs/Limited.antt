-- No more turns are told than a run has.
use Rattle.std.proofs.Common.{ℕ, ◌≤◌, List, Result, Ok, Err, sym, subst, arith}
use Rattle.meaning.specs.declared.ending.Report.{Report}
use Rattle.meaning.specs.declared.refusal.Broken.{Broken}
use Rattle.meaning.specs.Answers.{answer, answer_of, program_of, run_of}
use Rattle.meaning.specs.Initial.{start_of}
use Rattle.meaning.specs.Trees.{Nested, flatten}
use Rattle.meaning.specs.Uses.{symbols_of}
use Rattle.meaning.proofs.Limits.{exec-bounded}
use Rattle.c_library.specs.Runs.{Ran, whole, cut_short, full}
use Rattle.c_library.specs.Shown.{turns_of}

-- of what a source spells
of_spelled : (read : Result Nested Broken) (limit : ℕ) → turns_of (answer_of read limit).ending.turns ≤ limit
unfolding run_of
of_spelled (Err b) limit = omega arith
of_spelled (Ok t) limit = (exec-bounded (flatten t) t.body t.body (start_of (symbols_of (flatten t)) (flatten t))).spares limit

-- of a source
of_answer : (source : List ℕ) (limit : ℕ) → turns_of (answer source limit).ending.turns ≤ limit
unfolding answer
of_answer source limit = of_spelled (program_of source) limit

-- of a run that C is shown
pub turns_within : (source : List ℕ) (limit room : ℕ) (report : Report) (bytes : List ℕ) → Ran source limit room report bytes → turns_of report.turns ≤ limit
turns_within source limit room report bytes (whole w fits) =
    let P : Report → Type 0 = λ r. turns_of r.turns ≤ limit in subst P (sym w.same_report) (of_answer source limit)
turns_within source limit room report bytes (cut_short b fits e) =
    let P : Report → Type 0 = λ r. turns_of r.turns ≤ limit in subst P (sym e) (omega arith)
turns_within source limit room report bytes (full b fits e) =
    let P : Report → Type 0 = λ r. turns_of r.turns ≤ limit in subst P (sym e) (omega arith)

-- The main theorem, of a source that is refused and of one that spells a program.
use Rattle.std.proofs.Common.{◌≡◌, ℕ, List, Result, Ok, Err, None, refl, sym, ap, subst}
use Rattle.meaning.specs.declared.refusal.Broken.{Broken}
use Rattle.meaning.specs.declared.refusal.Rule.{Rule}
use Rattle.meaning.specs.declared.ending.Report.{Report}
use Rattle.meaning.specs.declared.ending.Ending.TheVariants as endings
use Rattle.meaning.specs.Trees.{Nested}
use Rattle.meaning.specs.Answers.{answer, answer_of, program_of, report}
use Rattle.meaning.specs.Promise.{Told, Keeps, whole}
use Rattle.record_sinks.proofs.Taken.{Took-none}

-- the answer of a source, once its program is known
answer_is : (source : List ℕ) (limit : ℕ) (p : Result Nested Broken) → program_of source ≡ p → answer source limit ≡ answer_of p limit
unfolding answer
answer_is source limit p e = ap (λ r. answer_of r limit) e

-- nothing was written and the source is refused
pub keeps_refused : (source : List ℕ) (limit : ℕ) (rule : Rule) (line : ℕ) (a : Told) → program_of source ≡ Err (record { line = line; rule = rule }) → Keeps (answer source limit) a a (report (endings.Refused rule line) None)
keeps_refused source limit rule line a e =
    subst (λ x. Keeps x a a (report (endings.Refused rule line) None)) (sym (answer_is source limit (Err (record { line = line; rule = rule })) e)) (whole (record { bytes = Took-none a; same_ending = refl }))

-- the answer of a source that spells the program is the program's
pub keeps_spelled : (limit : ℕ) (t : Nested) (old new : Told) (source : List ℕ) (r : Report) → program_of source ≡ Ok t → Keeps (answer_of (Ok t) limit) old new r → Keeps (answer source limit) old new r
keeps_spelled limit t old new source r e =
    subst (λ x. Keeps x old new r) (sym (answer_is source limit (Ok t) e))

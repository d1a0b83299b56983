use Rattle.std.proofs.Common.{◌≡◌, sym, ap, ◌∙◌}
use Rattle.meaning.specs.Lines.{statement_field}
use Rattle.source_columns.specs.Views.{line_of}
use Rattle.source_columns.proofs.Apostrophes.{paired, both, paired_next}
use Rattle.source_columns.proofs.reading.is_text_paired.Goals as goal
use Rattle.source_columns.proofs.reading.is_text_paired.Goals.{then-not-is_paired, else-not-is_paired}

pub loop-line-preserved : goal.loop-line-preserved
loop-line-preserved c =
    let found : c.is_paired.result ≡ paired (statement_field c.in-Some.line.columns) = c.is_paired.ensures ∙ ap paired c.text_columns-in-Some.ensures.value in
    let now : c.if-not-is_paired.paired ≡ both c.loop-line.paired (paired (statement_field c.in-Some.line.columns)) = elim c.if-not-is_paired.branch [ then-not-is_paired w ↦ w.paired-is ∙ ap (λ b. both c.loop-line.paired b) (sym w.if-not-is_paired.true ∙ found) | else-not-is_paired w ↦ w.paired-is ∙ ap (λ b. both c.loop-line.paired b) (sym w.if-not-is_paired.false ∙ found) ] in
    record {
      told = paired_next c.loop-line.paired c.if-not-is_paired.paired (line_of c.in-Some.line) _ _ _ c.in-Some.ensures.first c.in-Some.ensures.continues now c.loop-line.invariant.told;
      counted = c.in-Some.ensures.counted;
    }

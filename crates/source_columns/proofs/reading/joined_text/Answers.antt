use Rattle.std.proofs.Common.{◌++◌, sym, ap, ◌∙◌, arith}
use Rattle.meaning.specs.Lines.{lines_of, statement_lines}
use Rattle.source_columns.specs.Views.{line_of}
use Rattle.source_columns.proofs.Texts.{text_next, text_refused, text_done, left_done, left_next, fewer}
use Rattle.source_columns.proofs.reading.joined_text.Goals as goal

pub returns-in-Some-rule_broken-clause-joined : goal.returns-in-Some-rule_broken-clause-joined
returns-in-Some-rule_broken-clause-joined c =
    rw c.broken.ensures (text_refused c.loop-line.count c.loop-line.text.items (line_of c.in-Some.line) _ _ _ c.in-Some-rule_broken.rule c.in-Some.ensures.first c.in-Some.ensures.continues (sym c.in-Some-rule_broken.ensures) c.loop-line.invariant.told)

pub loop-line-preserved : goal.loop-line-preserved
loop-line-preserved c =
    let items = c.in_ok-extend_from_slice.ensures.items ∙ ap (λ xs. c.loop-line.text.items ++ xs) c.text_columns.ensures.value in
    record {
      told = text_next c.loop-line.count c.loop-line.text.items _ (line_of c.in-Some.line) _ _ _ c.in-Some.ensures.first c.in-Some.ensures.continues (sym c.in_default-rule_broken.ensures) items c.loop-line.invariant.told;
      left = left_next (line_of c.in-Some.line) _ _ _ c.in-Some.ensures.first c.in-Some.ensures.continues c.loop-line.invariant.left;
      counted = c.in-Some.ensures.counted;
      few = fewer c.loop-line.count c.in-Some.line.columns (sym c.in_default-rule_broken.ensures) c.loop-line.invariant.few;
      long = omega (arith, c.in_ok-extend_from_slice.ensures.len, c.text_columns.ensures.len, c.loop-line.invariant.long);
      shorter = omega (arith, c.in-Some.ensures.shorter, c.loop-line.invariant.shorter);
    }

pub returns-clause-joined : goal.returns-clause-joined
returns-clause-joined c =
    text_done c.loop-line.count c.loop-line.text.items (statement_lines c.loop-line.number (lines_of c.loop-line.rest.now)) _ c.in_default.ensures.first c.loop-line.invariant.told

pub returns-clause-behind : goal.returns-clause-behind
returns-clause-behind c =
    sym (left_done (statement_lines c.loop-line.number (lines_of c.loop-line.rest.now)) c.in_default.ensures.first) ∙ c.loop-line.invariant.left

use Rattle.std.proofs.Common.{rules, ◌≡◌, true, false, arith, ap, sym, ◌∙◌}
use Rattle.meaning.specs.Lines.{card, is_comment, is_initial, lines_of}
use Rattle.source_columns.specs.Excerpts.{continued}
use Rattle.source_columns.proofs.Excerpts.{at_continuation, past_comment}
use Rattle.source_columns.proofs.excerpt.next_continuation.Goals as goal

pub returns-else-is_initial_line-clause-lines : goal.returns-else-is_initial_line-clause-lines
returns-else-is_initial_line-clause-lines c =
    let comment : is_comment (card c.in-Some.line.now) ≡ false =
    ap is_comment (sym c.card_of-columns.ensures) ∙ sym c.is_comment_line.ensures ∙ c.if-not-is_comment_line.true in
    let initial : is_initial (card c.in-Some.line.now) ≡ false =
    ap is_initial (sym c.card_of-columns.ensures) ∙ sym c.is_initial_line.ensures ∙ c.if-is_initial_line.false in
    sym c.loop-line.invariant.told ∙ ap continued c.in-Some.ensures.lines ∙ at_continuation c.in-Some.line.now (lines_of c.in-Some.behind.now) comment initial

pub loop-line-preserved : goal.loop-line-preserved
loop-line-preserved c =
    let comment : is_comment (card c.in-Some.line.now) ≡ true =
    ap is_comment (sym c.card_of-columns.ensures) ∙ sym c.is_comment_line.ensures ∙ c.if-not-is_comment_line.false in
    record {
      told = sym (ap continued c.in-Some.ensures.lines ∙ past_comment c.in-Some.line.now (lines_of c.in-Some.behind.now) comment) ∙ c.loop-line.invariant.told;
      shorter = omega (arith, c.in-Some.ensures.shorter, c.loop-line.invariant.shorter);
    }

pub returns-then-is_initial_line-clause-lines : goal.returns-then-is_initial_line-clause-lines
returns-then-is_initial_line-clause-lines c = search rules

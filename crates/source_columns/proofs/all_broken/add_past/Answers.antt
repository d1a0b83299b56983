use Rattle.std.proofs.Common.{◌∷◌, [], ◌++◌, ap, ◌∙◌}
use Rattle.meaning.specs.declared.refusal.Rule.TheVariants.{C5}
use Rattle.meaning.specs.Lines.{lines_of, statement_lines}
use Rattle.source_columns.specs.Views.{line_of}
use Rattle.source_columns.proofs.AllBroken.{past_found, past_next, past_end}
use Rattle.source_columns.proofs.all_broken.add_past.Goals as goal

pub returns-then-left-eq0 : goal.returns-then-left-eq0
returns-then-left-eq0 c =
    c.in_ok-push.ensures.items
    ∙ ap (λ xs. xs ++ record { line = c.in-Some.line.number; rule = C5 } ∷ []) c.loop-line.invariant.same
    ∙ ap (λ xs. c.args.pairs.now.items ++ xs) (past_found (line_of c.in-Some.line) _ _ c.in-Some.ensures.first c.loop-line.left _ c.if-left-eq0.true c.in-Some.ensures.continues c.loop-line.invariant.left)

pub loop-line-preserved : goal.loop-line-preserved
loop-line-preserved c = record {
  same = c.loop-line.invariant.same;
  left = past_next (line_of c.in-Some.line) _ _ c.in-Some.ensures.first c.loop-line.left _ c.if-left-eq0.false c.in-Some.ensures.continues c.loop-line.invariant.left;
  counted = c.in-Some.ensures.counted;
}

pub returns : goal.returns
returns c =
    past_end c.loop-line.left (statement_lines c.loop-line.number (lines_of c.loop-line.rest.now)) _ _ _ c.in_default.ensures.first c.loop-line.invariant.left c.loop-line.invariant.same

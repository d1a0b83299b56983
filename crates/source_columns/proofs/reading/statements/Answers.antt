use Rattle.std.proofs.Common.{◌∷◌, [], map, ap, ◌∙◌}
use Rattle.std.proofs.lemmas.Result.{err_from_is_err_and}
use Rattle.std.proofs.lemmas.List.{map-append}
use Rattle.meaning.specs.Statements.{entry_of, statements_in}
use Rattle.source_columns.proofs.Texts.{statement_next, statements_done, is_refused, is_long, is_not_long}
use Rattle.source_columns.proofs.reading.statements.Goals as goal

pub returns-then-is_long-clause-exact : goal.returns-then-is_long-clause-exact
returns-then-is_long-clause-exact c = rw c.broken.ensures (is_long c.args.source.now c.if-is_long.ensures)

pub returns-in_err-split-clause-exact : goal.returns-in_err-split-clause-exact
returns-in_err-split-clause-exact c =
    let p = err_from_is_err_and c.from_residual.result c.from_residual.ensures.1 in
    rw (p.1, p.2, is_not_long c.args.source.now c.if-is_long.ensures) (is_refused c.in_err-split.field-0.0 (map entry_of c.loop-line.statements.items) _ _ _ c.in-Some.ensures.first c.in_err-split.ensures.exact c.loop-line.invariant.told)

pub returns-clause-exact : goal.returns-clause-exact
returns-clause-exact c =
    is_not_long c.args.source.now c.if-is_long.ensures ∙ statements_done (map entry_of c.loop-line.statements.items) _ _ c.in_default.ensures.first c.loop-line.invariant.told

pub loop-line-preserved : goal.loop-line-preserved
loop-line-preserved c =
    let made = ap (map entry_of) c.in_ok-push.ensures.items ∙ map-append entry_of c.loop-line.statements.items (c.in_ok-split.split.statement ∷ []) in
    record {
      told = statement_next (map entry_of c.loop-line.statements.items) _ (entry_of c.in_ok-split.split.statement) _ _ _ made (ap statements_in c.in-Some.ensures.first ∙ c.in_ok-split.ensures.exact) c.loop-line.invariant.told;
      counted = c.in_ok-split.ensures.counted;
    }

use Rattle.std.specs.Prelude.{take, drop, length, ◌≤◌}
use Rattle.std.proofs.Common.{arith, sym, subst}
use Rattle.std.proofs.lemmas.List.{length-take, length-drop}
use Rattle.messages.proofs.pointing.statement_field.Goals as goal

pub returns-clause-short : goal.returns-clause-short
returns-clause-short c =
    let front = take 72 c.args.line.now in
    let short : length (drop 6 front) ≤ 66 = omega (arith, length-take 72 c.args.line.now, length-drop 6 front) in
    subst (λ l. length l ≤ 66) (sym c.behind_column_6.ensures) (subst (λ l. length (drop 6 l) ≤ 66) (sym c.columns.ensures.is) short)

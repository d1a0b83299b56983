use Rattle.std.proofs.Common.{List, Some, sym, ◌∙◌, arith}
use Rattle.std.proofs.lemmas.List.{at_drop_all}
use Rattle.cell_names.specs.Cells.{are_named}
use Rattle.cell_names.specs.Told.{told_at}
use Rattle.cell_names.specs.declared.named.Named.{Named}
use Rattle.cell_names.proofs.Elements.{none_past, owned, told_named}
use Rattle.cell_names.proofs.naming.name_of_cell.Goals as goal

pub returns-then-place-one-clause-told : goal.returns-then-place-one-clause-told
returns-then-place-one-clause-told c =
    let is = told_named c.args.names.now c.loop-one.one-index c.one-item.result c.loop-one-test.true c.one-item.is c.loop-one.place c.in_ok-name_at.field-0 c.in_ok-name_at.ensures.name c.in_ok-name_at.ensures.subscripts c.if-place-one.true in
    sym is ∙ c.loop-one.invariant

pub returns-then-place-one-clause-own : goal.returns-then-place-one-clause-own
returns-then-place-one-clause-own c =
    let is = told_named c.args.names.now c.loop-one.one-index c.one-item.result c.loop-one-test.true c.one-item.is c.loop-one.place c.in_ok-name_at.field-0 c.in_ok-name_at.ensures.name c.in_ok-name_at.ensures.subscripts c.if-place-one.true in
    owned (are_named c.args.names.now) c.args.cell (Some c.in_ok-name_at.field-0) (sym is ∙ c.loop-one.invariant)

pub returns-clause-past : goal.returns-clause-past
returns-clause-past c =
    let names = c.args.names.now in
    let over = at_drop_all (λ (ns : List Named). told_at (are_named ns) c.loop-one.place) names c.loop-one.one-index (omega arith) in
    none_past (are_named names) c.args.cell (sym c.loop-one.invariant ∙ over)

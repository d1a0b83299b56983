use Rattle.std.proofs.Common.{◌+◌, sym, ap, ◌∙◌}
use Rattle.declarations.specs.Tables.{known_at, types_in}
use Rattle.number_rules.proofs.Sizing.{behind, elements_more}
use Rattle.size_culprits.specs.Told.{tell, told_at}
use Rattle.size_culprits.proofs.Stepping.{told_here, told_later, told_nowhere}
use Rattle.size_culprits.proofs.sizes.first_large.Goals as goal

pub returns-in-Some : goal.returns-in-Some
returns-in-Some c =
    let types = types_in c.args.table.now in
    let known = known_at c.args.table.now in
    let ds = c.args.declarators.now in
    let i = c.loop-declarator.declarator-index in
    λ n is. told_here types known (n + behind types known ds i) ds i c.declarator-item.result (told_at c.in-Some.culprit) _ c.loop-declarator-test.true c.declarator-item.is (c.in-Some.ensures (n + behind types known ds i) ((c.loop-declarator.invariant n is).1)) ((c.loop-declarator.invariant n is).0)

pub loop-declarator-preserved : goal.loop-declarator-preserved
loop-declarator-preserved c =
    let types = types_in c.args.table.now in
    let known = known_at c.args.table.now in
    let ds = c.args.declarators.now in
    let i = c.loop-declarator.declarator-index in
    let d = c.declarator-item.result in
    let lt = c.loop-declarator-test.true in
    λ n is. (
      told_later types known n ds i d _ lt c.declarator-item.is (c.in-None.ensures (n + behind types known ds i) ((c.loop-declarator.invariant n is).1)) ((c.loop-declarator.invariant n is).0),
      elements_more types known n ds i d c.loop-declarator.elements _ _ lt c.declarator-item.is ((c.loop-declarator.invariant n is).1) c.elements_of.ensures c.saturating_add-elements.ensures,
    )

pub returns : goal.returns
returns c =
    let types = types_in c.args.table.now in
    let known = known_at c.args.table.now in
    let ds = c.args.declarators.now in
    let i = c.loop-declarator.declarator-index in
    λ n is. told_nowhere types known (n + behind types known ds i) ds i _ c.loop-declarator-test.false ((c.loop-declarator.invariant n is).0)

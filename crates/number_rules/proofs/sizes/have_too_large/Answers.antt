use Rattle.std.proofs.Common.{◌+◌}
use Rattle.declarations.specs.Tables.{known_at, types_in}
use Rattle.number_rules.proofs.Sizing.{behind, elements_more, large_here, large_later, large_nowhere}
use Rattle.number_rules.proofs.sizes.have_too_large.Goals as goal

pub returns-then-is_too_large : goal.returns-then-is_too_large
returns-then-is_too_large c =
    let types = types_in c.args.table.now in
    let known = known_at c.args.table.now in
    let ds = c.args.declarators.now in
    let i = c.loop-declarator.declarator-index in
    λ n is. large_here types known ds i c.declarator-item.result (n + behind types known ds i) c.is_too_large.result _ c.loop-declarator-test.true c.declarator-item.is (c.is_too_large.ensures (n + behind types known ds i) ((c.loop-declarator.invariant n is).1)) c.if-is_too_large.true ((c.loop-declarator.invariant n is).0)

pub loop-declarator-preserved : goal.loop-declarator-preserved
loop-declarator-preserved c =
    let types = types_in c.args.table.now in
    let known = known_at c.args.table.now in
    let ds = c.args.declarators.now in
    let i = c.loop-declarator.declarator-index in
    let d = c.declarator-item.result in
    let lt = c.loop-declarator-test.true in
    λ n is. (
      large_later types known n ds i d c.is_too_large.result _ lt c.declarator-item.is (c.is_too_large.ensures (n + behind types known ds i) ((c.loop-declarator.invariant n is).1)) c.if-is_too_large.false ((c.loop-declarator.invariant n is).0),
      elements_more types known n ds i d c.loop-declarator.elements _ _ lt c.declarator-item.is ((c.loop-declarator.invariant n is).1) c.elements_of.ensures c.saturating_add-elements.ensures,
    )

pub returns : goal.returns
returns c =
    let types = types_in c.args.table.now in
    let known = known_at c.args.table.now in
    let ds = c.args.declarators.now in
    let i = c.loop-declarator.declarator-index in
    λ n is. large_nowhere types known ds i (n + behind types known ds i) _ c.loop-declarator-test.false ((c.loop-declarator.invariant n is).0)

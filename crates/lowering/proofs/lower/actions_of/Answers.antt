use Rattle.std.proofs.Common.{◌^◌, ◌+◌, arith, drop, length, subst, sym}
use Rattle.meaning.specs.Syntax.{shape_tree}
use Rattle.program.specs.Acts.{Acts}
use Rattle.program.specs.Codes.{setting_in}
use Rattle.symbols.specs.Listed.{tree_at, trees_at}
use Rattle.ruly_laws.specs.Statements.{IsCodable}
use Rattle.lowering.proofs.Filled.{Climbs, all_at, line_behind}
use Rattle.lowering.proofs.Kept.{kept_more, others_more}
use Rattle.lowering.proofs.lower.actions_of.Goals as goal

pub action_of-requires : goal.action_of-requires
action_of-requires c =
    let codable = all_at (λ x. IsCodable (setting_in c.args.program.now) x.shape) tree_at c.args.items.now c.loop-item.item-index c.item-item.result c.loop-item-test.true c.item-item.is c.requires.codable in
    subst (λ s. IsCodable (setting_in c.args.program.now) (shape_tree s)) (sym c.deref.ensures) codable

pub add-requires-clause-behind : goal.add-requires-clause-behind
add-requires-clause-behind c =
    (line_behind c.args.items.now c.loop-item.item-index c.item-item.result (length c.loop-item.actions.places.items) c.loop-item-test.true c.item-item.is c.loop-item.invariant.lines).0

pub add-requires-clause-few : goal.add-requires-clause-few
add-requires-clause-few c =
    let few = c.loop-item.invariant.few in
    let most = (line_behind c.args.items.now c.loop-item.item-index c.item-item.result (length c.loop-item.actions.places.items) c.loop-item-test.true c.item-item.is c.loop-item.invariant.lines) in
    let low = most.0 in
    let high = most.1 in
    omega (arith, few, low, high)

pub loop-item-preserved : goal.loop-item-preserved
loop-item-preserved c =
    let acts = subst (λ s. Acts c.args.program.now c.in-Ok.action (shape_tree s)) c.deref.ensures c.in-Ok.ensures in
    let ms = c.args.items.now in
    let i = c.loop-item.item-index in
    let m = c.item-item.result in
    let before = length c.loop-item.actions.places.items in
    let behind = line_behind ms i m before c.loop-item-test.true c.item-item.is c.loop-item.invariant.lines in
    let few = c.loop-item.invariant.few in
    let low = behind.0 in
    let long = c.in-Ok-add.ensures.long in
    let many = c.in-Ok-add.ensures.many in
    record {
      kept = kept_more c.args.program.now c.loop-item.actions c.add.new.self ms i m c.in-Ok.action c.loop-item-test.true c.item-item.is c.loop-item.invariant.kept c.in-Ok-add.ensures.ok acts;
      others = others_more c.loop-item.actions c.add.new.self ms i m c.in-Ok.action c.loop-item-test.true c.item-item.is c.loop-item.invariant.others c.in-Ok-add.ensures.ok;
      lines = subst (λ n. Climbs n (2 ^ 16) (trees_at (drop (i + 1) ms))) (sym long) behind.2;
      few = omega (arith, few, low, long, many);
    }

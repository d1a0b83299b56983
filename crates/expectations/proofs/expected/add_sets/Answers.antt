use Rattle.std.proofs.Common.{true}
use Rattle.meaning.specs.Syntax.{data_set_tree}
use Rattle.meaning.specs.Typing.{in_items}
use Rattle.symbols.proofs.Passes.{joined_more}
use Rattle.expectations.proofs.expected.add_sets.Goals as goal

pub loop-set-preserved : goal.loop-set-preserved
loop-set-preserved c =
    joined_more (λ x. in_items true x.list) data_set_tree c.args.sets.now c.loop-set.set-index c.set-item.result _ _ _ c.loop-set-test.true c.set-item.is c.loop-set.invariant c.in_ok-add_items.ensures

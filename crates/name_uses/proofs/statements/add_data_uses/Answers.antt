use Rattle.meaning.specs.Syntax.{data_set_tree}
use Rattle.meaning.specs.Uses.{data_set_uses}
use Rattle.symbols.proofs.Passes.{joined_more}
use Rattle.name_uses.proofs.statements.add_data_uses.Goals as goal

pub loop-set-preserved : goal.loop-set-preserved
loop-set-preserved c =
    joined_more data_set_uses data_set_tree c.args.sets.now c.loop-set.set-index c.set-item.result _ _ _ c.loop-set-test.true c.set-item.is c.loop-set.invariant c.in_ok-add_data_set_uses.ensures

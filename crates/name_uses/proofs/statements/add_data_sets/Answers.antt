use Rattle.meaning.specs.Syntax.{data_set_tree}
use Rattle.meaning.specs.Uses.{data_item_sets}
use Rattle.symbols.specs.SymbolsAt.{symbols_at}
use Rattle.symbols.proofs.Passes.{joined_more}
use Rattle.name_uses.proofs.statements.add_data_sets.Goals as goal

pub loop-set-preserved : goal.loop-set-preserved
loop-set-preserved c =
    joined_more (λ x. data_item_sets (symbols_at c.args.symbols.now) x.list) data_set_tree c.args.sets.now c.loop-set.set-index c.set-item.result _ _ _ c.loop-set-test.true c.set-item.is c.loop-set.invariant c.in_ok-add_data_item_sets.ensures

use Rattle.symbols.specs.SymbolsAt.{symbols_at}
use Rattle.name_uses.specs.UsesAt.{use_at}
use Rattle.appearances.proofs.Appearance.{variables_more}
use Rattle.appearances.proofs.numbers.add_used.Goals as goal

pub loop-one-preserved : goal.loop-one-preserved
loop-one-preserved c =
    variables_more (symbols_at c.args.symbols.now) use_at (λ u. u.name) c.args.uses.now c.loop-one.one-index c.one-item.result _ _ _ c.loop-one-test.true c.one-item.is c.loop-one.invariant c.in_ok-add_variable.ensures

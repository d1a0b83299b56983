use Rattle.std.proofs.Common.{◌≡◌, sym, ◌∙◌, arith}
use Rattle.symbols.specs.SymbolsAt.{symbols_at}
use Rattle.function_culprits.proofs.Stepping.{defines_left, defines_none}
use Rattle.function_culprits.proofs.functions.is_defined_before.Goals as goal

pub returns-in-Some : goal.returns-in-Some
returns-in-Some c =
    sym (defines_left (symbols_at c.args.symbols.now) c.args.name.now c.args.before.now c.loop-item.item-index c.item-item.result _ c.loop-item-test.true c.item-item.is c.in-Some.ensures)
    ∙ c.loop-item.invariant

pub loop-item-preserved : goal.loop-item-preserved
loop-item-preserved c =
    sym (defines_left (symbols_at c.args.symbols.now) c.args.name.now c.args.before.now c.loop-item.item-index c.item-item.result _ c.loop-item-test.true c.item-item.is c.in-None.ensures)
    ∙ c.loop-item.invariant

pub returns : goal.returns
returns c =
    sym (defines_none (symbols_at c.args.symbols.now) c.args.name.now c.args.before.now c.loop-item.item-index c.loop-item-test.false)
    ∙ c.loop-item.invariant

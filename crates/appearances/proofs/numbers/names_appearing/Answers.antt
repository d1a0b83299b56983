use Rattle.std.proofs.Common.{take, sym, ap, subst, ◌∙◌}
use Rattle.symbols.specs.Listed.{trees_at}
use Rattle.name_maps.specs.NameSets.{texts}
use Rattle.symbols.specs.SymbolsAt.{symbols_at}
use Rattle.symbols.specs.Stages.{IsBehind}
use Rattle.appearances.proofs.Appearance.{names_none, statement_more, trees_more}
use Rattle.appearances.proofs.numbers.names_appearing.Goals as goal

pub loop-item-init : goal.loop-item-init
loop-item-init c = (ap texts c.new-names.ensures.empty ∙ sym (names_none (symbols_at c.args.symbols.now)), c.new-stage.ensures c.args.symbols.now)

pub loop-item-preserved : goal.loop-item-preserved
loop-item-preserved c =
    let ms = c.args.symbols.now.items.now in
    let i = c.loop-item.item-index in
    let before = trees_at (take i ms) in
    let so_far = c.loop-item.invariant in (
      statement_more (symbols_at c.args.symbols.now) ms i c.item-item.result _ _ c.loop-item-test.true c.item-item.is so_far.0 (c.in_ok-add_names_at.ensures before so_far.1),
      subst (IsBehind c.args.symbols.now c.pass.new.self) (sym (trees_more ms i c.item-item.result c.loop-item-test.true c.item-item.is)) (c.pass.ensures before so_far.1),
    )

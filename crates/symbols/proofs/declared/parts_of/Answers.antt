use Rattle.symbols.specs.TypedNames.{part_at}
use Rattle.meaning.specs.Syntax.{shape_tree}
use Rattle.std.proofs.Common.{[], ap, map, ◌++◌, ◌∙◌}
use Rattle.meaning.specs.Types.{implied_in}
use Rattle.symbols.specs.Listed.{tree_at}
use Rattle.symbols.proofs.Passes.{joined_more}
use Rattle.symbols.proofs.declared.parts_of.Goals as goal

pub loop-item-preserved : goal.loop-item-preserved
loop-item-preserved c =
    joined_more (λ x. implied_in x.shape) tree_at c.args.items.now c.loop-item.item-index c.item-item.result [] _ _ c.loop-item-test.true c.item-item.is c.loop-item.invariant (c.in_ok-add_parts_in.ensures ∙ ap (λ s. map part_at c.loop-item.found.items ++ implied_in (shape_tree s)) c.deref.ensures)

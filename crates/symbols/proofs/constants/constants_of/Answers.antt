use Rattle.name_maps.specs.NameSets.{texts, with_names}
use Rattle.meaning.specs.Syntax.{shape_tree}
use Rattle.std.proofs.Common.{[], map, ap, ◌∙◌}
use Rattle.meaning.specs.Scopes.{constants_in}
use Rattle.meaning.specs.Uses.{defined_constants}
use Rattle.symbols.specs.Listed.{tree_at, trees_at}
use Rattle.symbols.proofs.Valued.{constants_law}
use Rattle.symbols.proofs.Passes.{names_more}
use Rattle.symbols.proofs.constants.constants_of.Goals as goal

pub loop-item-preserved : goal.loop-item-preserved
loop-item-preserved c =
    names_more (λ ms. defined_constants (trees_at ms)) (λ m. map (λ x. x.name) (constants_in (tree_at m).shape)) constants_law c.args.items.now c.loop-item.item-index c.item-item.result [] _ _ c.loop-item-test.true c.item-item.is c.loop-item.invariant (c.in_ok-add_constants_in.ensures ∙ ap (λ s. with_names (texts c.loop-item.names.keys) (map (λ x. x.name) (constants_in (shape_tree s)))) c.deref.ensures)

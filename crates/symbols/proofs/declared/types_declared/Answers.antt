use Rattle.name_maps.specs.Keeping.{kept_at}
use Rattle.std.specs.Option.{option_or}
use Rattle.meaning.specs.Syntax.{shape_tree}
use Rattle.std.proofs.Common.{None, ap, ◌∙◌}
use Rattle.meaning.specs.Types.{declared_by, typed_in}
use Rattle.symbols.specs.TypedNames.{typed_names}
use Rattle.symbols.specs.Listed.{tree_at, trees_at}
use Rattle.symbols.proofs.Firsts.{first_more, typed_names_law}
use Rattle.symbols.proofs.declared.types_declared.Goals as goal

pub loop-item-preserved : goal.loop-item-preserved
loop-item-preserved c =
    λ n. first_more (λ ms. declared_by (typed_names (trees_at ms)) n) (λ m. declared_by (typed_in (tree_at m).shape) n) (typed_names_law n) c.args.items.now c.loop-item.item-index c.item-item.result None _ _ c.loop-item-test.true c.item-item.is (c.loop-item.invariant n) (c.in_ok-add_types_in.ensures n ∙ ap (λ s. option_or (kept_at c.loop-item.kept n) (declared_by (typed_in (shape_tree s)) n)) c.deref.ensures)

use Rattle.std.proofs.Common.{map, take, ap, ◌∙◌}
use Rattle.std.proofs.lemmas.List.{map-append}
use Rattle.meaning.specs.Arrays.{extent}
use Rattle.meaning.specs.Scopes.{dimension_of}
use Rattle.meaning.specs.Syntax.{bounds_tree}
use Rattle.symbols.proofs.Passes.{map_more}
use Rattle.declarations.specs.Tables.{known_at, types_in}
use Rattle.expressions.proofs.Capped.{size_more}
use Rattle.number_rules.proofs.sizes.size_of.Goals as goal

pub loop-one-preserved : goal.loop-one-preserved
loop-one-preserved c =
    let bounds = c.args.bounds.now in
    let i = c.loop-one.one-index in
    let dimension = dimension_of (types_in c.args.table.now) (known_at c.args.table.now) in
    let joined = ap (map dimension) (map_more bounds_tree bounds i c.one-item.result c.loop-one-test.true c.one-item.is) ∙ map-append dimension (map bounds_tree (take i bounds)) _ in
    size_more _ _ _ c.loop-one.found _ _ c.loop-one.invariant (c.extent.ensures ∙ ap extent c.dimension_of.ensures) c.saturating_mul-found.ensures joined

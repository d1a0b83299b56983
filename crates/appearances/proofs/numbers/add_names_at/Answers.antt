use Rattle.meaning.specs.Uses.{parts_of}
use Rattle.meaning.specs.Syntax.{shape_tree}
use Rattle.meaning.specs.Scopes.{declarators_in}
use Rattle.std.proofs.Common.{◌++◌, map, ap, ◌∙◌}
use Rattle.meaning.specs.Trees.{item_tree}
use Rattle.name_maps.specs.NameSets.{texts}
use Rattle.symbols.specs.SymbolsAt.{symbols_at}
use Rattle.name_uses.specs.UsesAt.{uses_at}
use Rattle.storage.specs.Numbered.{with_variables}
use Rattle.appearances.proofs.Appearance.{item_names}
use Rattle.appearances.proofs.numbers.add_names_at.Goals as goal

pub returns : goal.returns
returns c = λ before behind.
    let r = symbols_at c.args.symbols.now in
    let x = item_tree c.args.item.now in
    item_names r before x _ _ _ _ _ _ (c.declarators_in.ensures ∙ ap (λ s. declarators_in (shape_tree s)) c.deref-shape.ensures) (c.is_defining.ensures before behind) (c.in_ok-uses.ensures ∙ ap (λ s. (parts_of r c.is_defining.result (shape_tree s)).sets ++ (parts_of r c.is_defining.result (shape_tree s)).reads) c.deref-shape.ensures) c.in_ok-add_declared.ensures (c.in_ok-add_used.ensures ∙ ap (λ us. with_variables r (texts c.add_declared.new.names.keys) (map (λ u. u.name) (uses_at us))) c.deref.ensures.value)

use Rattle.meaning.specs.Trees.{item_tree}
use Rattle.std.proofs.Common.{◌||◌, ◌++◌, ap, ap₂, ◌∙◌}
use Rattle.std.specs.List.{list_any}
use Rattle.meaning.specs.NameRules.{is_real, is_real_use, names_defined}
use Rattle.meaning.specs.Syntax.{shape_tree}
use Rattle.meaning.specs.Uses.{is_defining, parts_of}
use Rattle.symbols.specs.SymbolsAt.{symbols_at}
use Rattle.name_uses.specs.UsesAt.{uses_at}
use Rattle.type_rules.proofs.reals.RealsBehind.is_broken.Goals as goal

pub returns : goal.returns
returns c = λ before known.
    let symbols = symbols_at c.args.self.now.symbols.now in
    let shape = shape_tree c.deref-shape.result.now in
    let defines = c.is_defining-defines.ensures before known in
    c.has_real.ensures
    ∙ ap₂ (λ b us. list_any (is_real symbols) (names_defined symbols b shape) || list_any (is_real_use symbols) us) defines
    (ap uses_at c.deref.ensures.value ∙ c.in_ok-uses.ensures ∙ ap (λ b. (parts_of symbols b shape).sets ++ (parts_of symbols b shape).reads) defines)
    ∙ ap (λ s. let d = is_defining symbols before (item_tree c.args.item.now) in list_any (is_real symbols) (names_defined symbols d (shape_tree s)) || list_any (is_real_use symbols) ((parts_of symbols d (shape_tree s)).sets ++ (parts_of symbols d (shape_tree s)).reads)) c.deref-shape.ensures

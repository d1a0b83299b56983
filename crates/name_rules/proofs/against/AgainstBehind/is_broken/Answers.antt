use Rattle.meaning.specs.Trees.{item_tree}
use Rattle.std.proofs.Common.{◌||◌, ◌++◌, ap, ◌∙◌}
use Rattle.std.specs.List.{list_any}
use Rattle.meaning.specs.NameRules.{is_against_role, sets_constant}
use Rattle.meaning.specs.Syntax.{shape_tree}
use Rattle.meaning.specs.Uses.{is_defining, parts_of}
use Rattle.symbols.specs.SymbolsAt.{symbols_at}
use Rattle.name_uses.specs.UsesAt.{uses_at}
use Rattle.name_rules.proofs.against.AgainstBehind.is_broken.Goals as goal

pub returns : goal.returns
returns c = λ before known.
    let symbols = symbols_at c.args.self.now.symbols.now in
    let shape = shape_tree c.deref-shape.result.now in
    c.is_against.ensures
    ∙ ap (λ us. list_any (is_against_role symbols) us || sets_constant symbols shape)
    (ap uses_at c.deref.ensures.value ∙ c.in_ok-uses.ensures ∙ ap (λ b. (parts_of symbols b shape).sets ++ (parts_of symbols b shape).reads) (c.is_defining-defines.ensures before known))
    ∙ ap (λ s. list_any (is_against_role symbols) ((parts_of symbols (is_defining symbols before (item_tree c.args.item.now)) (shape_tree s)).sets ++ (parts_of symbols (is_defining symbols before (item_tree c.args.item.now)) (shape_tree s)).reads) || sets_constant symbols (shape_tree s)) c.deref-shape.ensures

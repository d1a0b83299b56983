use Rattle.meaning.specs.Trees.{item_tree}
use Rattle.std.proofs.Common.{◌||◌, ◌++◌, ap, ap₂, ◌∙◌}
use Rattle.std.specs.List.{list_any}
use Rattle.meaning.specs.NameRules.{is_misused_array, is_misused_function}
use Rattle.meaning.specs.Syntax.{shape_tree}
use Rattle.meaning.specs.Uses.{is_defining, parts_of}
use Rattle.symbols.specs.SymbolsAt.{symbols_at}
use Rattle.name_uses.specs.UsesAt.{uses_at}
use Rattle.function_rules.proofs.arguments.MisusesBehind.is_broken.Goals as goal

pub returns : goal.returns
returns c = λ before known.
    let symbols = symbols_at c.args.self.now.symbols.now in
    let shape = shape_tree c.deref-shape.result.now in
    let defines = c.is_defining-defines.ensures before known in
    c.has_misused.ensures
    ∙ ap₂ (λ us rs. list_any (is_misused_array symbols) us || list_any (is_misused_function symbols) rs)
    (ap uses_at c.deref.ensures.value ∙ c.in_ok-uses.ensures ∙ ap (λ b. (parts_of symbols b shape).sets ++ (parts_of symbols b shape).reads) defines)
    (ap uses_at c.deref-2.ensures.value ∙ c.in_ok-reads.ensures ∙ ap (λ b. (parts_of symbols b shape).reads) defines)
    ∙ ap (λ s. let p = parts_of symbols (is_defining symbols before (item_tree c.args.item.now)) (shape_tree s) in list_any (is_misused_array symbols) (p.sets ++ p.reads) || list_any (is_misused_function symbols) p.reads) c.deref-shape.ensures

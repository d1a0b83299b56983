use Rattle.meaning.specs.Trees.{item_tree}
use Rattle.std.proofs.Common.{◌++◌, ap, ◌∙◌}
use Rattle.std.specs.List.{list_any}
use Rattle.meaning.specs.NameRules.{is_unknown_function}
use Rattle.meaning.specs.Syntax.{shape_tree}
use Rattle.meaning.specs.Uses.{is_defining, parts_of}
use Rattle.symbols.specs.SymbolsAt.{symbols_at}
use Rattle.name_uses.specs.UsesAt.{uses_at}
use Rattle.function_rules.proofs.functions.UnknownFunctionsBehind.is_broken.Goals as goal

pub returns : goal.returns
returns c = λ before known.
    let symbols = symbols_at c.args.self.now.symbols.now in
    let shape = shape_tree c.deref.result.now in
    let unknown = is_unknown_function symbols in
    c.has_passing.ensures ∙ ap (λ r. list_any unknown (uses_at r)) c.deref-2.ensures.value
    ∙ ap (list_any unknown) (c.in_ok-add_reads.ensures ∙ ap (λ xs. uses_at xs ++ (parts_of symbols c.is_defining-defines.result shape).reads) c.new-reads.ensures.items)
    ∙ ap (λ d. list_any unknown (parts_of symbols d shape).reads) (c.is_defining-defines.ensures before known)
    ∙ ap (λ s. list_any unknown (parts_of symbols (is_defining symbols before (item_tree c.args.item.now)) (shape_tree s)).reads) c.deref.ensures

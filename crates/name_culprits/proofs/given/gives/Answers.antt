use Rattle.std.proofs.Common.{ap, ◌∙◌}
use Rattle.meaning.specs.NameRules.{given_by}
use Rattle.meaning.specs.Syntax.{shape_tree}
use Rattle.meaning.specs.Trees.{item_tree}
use Rattle.meaning.specs.Uses.{is_defining, is_one_of}
use Rattle.symbols.specs.SymbolsAt.{symbols_at}
use Rattle.name_uses.specs.Held.{names_at}
use Rattle.name_culprits.specs.Names.{names_by}
use Rattle.name_culprits.proofs.given.gives.Goals as goal

pub returns : goal.returns
returns c = λ before known.
    let r = symbols_at c.args.symbols.now in
    let k = c.args.giving in
    let n = c.args.name.now in
    c.is_among.ensures ∙ ap (λ ns. is_one_of (names_at ns) n) c.deref-2.ensures.value
    ∙ ap (λ ns. is_one_of ns n) c.in_ok-names.ensures
    ∙ ap (λ d. is_one_of (names_by k (given_by r d (shape_tree c.deref.result.now))) n) (c.is_defining-defines.ensures before known)
    ∙ ap (λ s. is_one_of (names_by k (given_by r (is_defining r before (item_tree c.args.item.now)) (shape_tree s))) n) c.deref.ensures

use Rattle.std.proofs.Common.{ap, ◌∙◌}
use Rattle.meaning.specs.Scopes.{declarators_in}
use Rattle.meaning.specs.Syntax.{shape_tree}
use Rattle.meaning.specs.Trees.{item_tree}
use Rattle.symbols.specs.Listed.{trees_at}
use Rattle.size_culprits.proofs.Stepping.{told_behind}
use Rattle.size_culprits.proofs.sizes.large_array.Goals as goal

pub returns : goal.returns
returns c =
    let passed = c.in_ok-passed.passed in
    let known = c.in_ok-passed.ensures in
    told_behind c.args.symbols.now passed.table passed.elements (trees_at c.args.before.now) c.declarators_in.result.now (item_tree c.args.item.now) _ known.behind known.same (c.declarators_in.ensures ∙ ap (λ s. declarators_in (shape_tree s)) c.deref.ensures) c.first_large.ensures

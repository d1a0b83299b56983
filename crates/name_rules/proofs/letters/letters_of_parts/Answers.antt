use Rattle.std.proofs.Common.{[], ◌++◌, map, ap, ◌∙◌}
use Rattle.meaning.specs.Syntax.{ImplicitTree, implicit_tree, letters_tree}
use Rattle.symbols.proofs.Passes.{joined_more}
use Rattle.name_rules.specs.Lettered.{letters_at}
use Rattle.name_rules.proofs.letters.letters_of_parts.Goals as goal

pub loop-part-preserved : goal.loop-part-preserved
loop-part-preserved c =
    joined_more (λ (p : ImplicitTree). p.letters) implicit_tree c.args.parts.now c.loop-part.part-index c.part-item.result [] _ _ c.loop-part-test.true c.part-item.is c.loop-part.invariant
    (c.in_ok-add_letters.ensures ∙ ap (λ ls. map letters_at c.loop-part.found.items ++ map letters_tree ls) c.deref.ensures.value)

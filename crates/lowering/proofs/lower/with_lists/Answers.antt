use Rattle.std.proofs.Common.{ap, subst, ◌∙◌}
use Rattle.meaning.specs.declared.syntax.Tree.{Tree}
use Rattle.meaning.specs.Trees.{Members, members_tree}
use Rattle.lowering.specs.Orders.{HasPut, IsOrHas}
use Rattle.lowering.proofs.LoweredLists.{has_orders}
use Rattle.lowering.proofs.lower.with_lists.Goals as goal

pub returns-in-Ok-clause-lists : goal.returns-in-Ok-clause-lists
returns-in-Ok-clause-lists c =
    let body = c.deref.ensures.value ∙ ap (λ (t : Tree). t.body.items) c.tree.ensures.tree in
    has_orders c.args.program.now c.args.actions c.in-Ok.lists c.requires.kept
    (subst (λ xs. (r : Members) → IsOrHas (members_tree xs) r → HasPut c.args.actions c.in-Ok.lists r) body c.in-Ok.ensures)

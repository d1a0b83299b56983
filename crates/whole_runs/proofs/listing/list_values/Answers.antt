use Rattle.meaning.specs.Lists.{listed, list_limit}
use Rattle.meaning.specs.Syntax.{list_items_tree}
use Rattle.values.specs.Programs.{scope_in}
use Rattle.whole_runs.proofs.Listed.{list_found}
use Rattle.whole_runs.proofs.listing.list_values.Goals as goal

pub returns-in-Ok-clause-does : goal.returns-in-Ok-clause-does
returns-in-Ok-clause-does g c =
    let p = c.args.program.now in
    let y = c.add_items in
    list_found p (g.S.Store.world c.args.store.now) (g.S.Store.world y.new.store) (listed (scope_in p) (list_items_tree c.args.list.now)) c.new-found.result.items y.new.found.items list_limit y.new.room c.new-found.ensures.items (rw c.in-Ok.is at c.in_ok-add_items.ensures.finds)

pub returns-in-Err-clause-does : goal.returns-in-Err-clause-does
returns-in-Err-clause-does g c = rw c.in-Err.is at c.in_ok-add_items.ensures.finds

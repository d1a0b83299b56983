use Rattle.meaning.specs.Syntax.{expr_tree}
use Rattle.values.specs.Programs.{scope_in}
use Rattle.evaluator.proofs.Composed.{if_ok_so}
use Rattle.whole_runs.proofs.Listed.{value_found}
use Rattle.whole_runs.proofs.listing.add_single.Goals as goal

pub returns-in-Value-clause-finds : goal.returns-in-Value-clause-finds
returns-in-Value-clause-finds g c =
    let p = c.args.program.now in
    let world = g.S.Store.world in
    let y = c.add_value in
    if_ok_so y.result _ _ (λ r h. value_found p (scope_in p) (world c.args.store.now) (world y.new.store) (expr_tree c.args.item.now) c.args.found.now.items y.new.found.items c.args.room.now y.new.room r h) y.ensures.reads

pub returns-in-Array-clause-finds : goal.returns-in-Array-clause-finds
returns-in-Array-clause-finds g c =
    let p = c.args.program.now in
    let world = g.S.Store.world in
    let y = c.add_array in
    if_ok_so y.result _ _ (λ r h. value_found p (scope_in p) (world c.args.store.now) (world y.new.store) (expr_tree c.args.item.now) c.args.found.now.items y.new.found.items c.args.room.now y.new.room r h) y.ensures.reads

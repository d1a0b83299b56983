use Rattle.meaning.specs.Lists.{listed, list_limit}
use Rattle.meaning.specs.Syntax.{list_items_tree}
use Rattle.values.specs.Programs.{map_at, scope_in}
use Rattle.evaluator.specs.Listing.{ListIs}
use Rattle.evaluator.proofs.Composed.{if_ok_so}
use Rattle.whole_runs.proofs.Wholes.{does_whole}
use Rattle.whole_runs.proofs.whole.list_whole.Goals as goal

pub returns-clause-values : goal.returns-clause-values
returns-clause-values c =
    let p = c.args.program.now in
    let y = c.list_values in
    if_ok_so y.result _ _ (λ r h. does_whole c.args.cells.now y.new.store (λ m k. ListIs r (map_at p k) (listed (scope_in p) (list_items_tree c.args.list.now) (map_at p m) list_limit)) h) y.ensures.does

use Rattle.std.proofs.Common.{◌≡◌, is_some, sym, ap, ◌∙◌}
use Rattle.std.specs.Ordering.{nat_cmp}
use Rattle.std.specs.FinMap as map
use Rattle.meaning.specs.Stores.{World}
use Rattle.private_view.specs.Views.{world_seen}
use Rattle.private_view.proofs.Fronts.{same_cells, world_now}
use Rattle.private_view.proofs.Runs.{is_none}
use Rattle.private_view.proofs.view.View.expose.Goals as goal

pub expose-requires : goal.expose-requires
expose-requires c = λ q.
    let f = c.self.inside.front in
    let p = c.self.inside.paged in
    let now = world_now f.written f.values p c.args.self.now c.self.view_is in
    let same : is_some (map.get c.args.self.now.written q) ≡ is_some (map.get p.written q) = ap (λ (u : World). is_some (u.written q)) now ∙ same_cells f.shown f.written f.values (world_seen p) c.self.invariant q in
    is_none (map.get p.written q) (sym same ∙ ap (λ w. is_some (map.get w q)) c.requires ∙ ap is_some (map.get-empty nat_cmp q))

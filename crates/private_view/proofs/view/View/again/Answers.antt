use Rattle.std.proofs.Common.{ap, ◌∙◌}
use Rattle.private_view.specs.Fronts.{with_first}
use Rattle.private_view.proofs.Fronts.{new_first}
use Rattle.private_view.proofs.view.View.again.Goals as goal

pub returns : goal.returns
returns c =
    let f = c.new.result in
    ap (with_first f.written f.values) c.again.ensures ∙ new_first f.written f.values c.args.base.now c.new.ensures.none

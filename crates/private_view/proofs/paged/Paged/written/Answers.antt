use Rattle.std.proofs.Common.{ap}
use Rattle.private_view.specs.Views.{Seen, value_at}
use Rattle.private_view.proofs.Looking.{marked_is}
use Rattle.private_view.proofs.paged.Paged.written.Goals as goal

pub returns : goal.returns
returns c = marked_is c.self.inside.written (value_at c.self.inside.slots.items c.self.inside.values.items) c.args.self.now.written (ap (λ (t : Seen). t.written) c.self.view_is)

use Rattle.std.proofs.Common.{false}
use Rattle.private_view.specs.Views.{value_at}
use Rattle.private_view.proofs.Pages.{none_kept, written_none}
use Rattle.private_view.proofs.Runs.{no_run}
use Rattle.private_view.proofs.paged.unused.Goals as goal

pub invariant_of-result : goal.invariant_of-result
invariant_of-result c =
    (none_kept c.args.base.now c.args.written c.args.slots.items c.args.numbers.items c.args.values.items c.requires.written c.requires.numbers c.requires.values, no_run c.args.exposed c.args.written)

pub returns : goal.returns
returns c =
    let w = written_none c.args.written (value_at c.args.slots.items c.args.values.items) c.requires.written in
    λ i. record { base = c.args.base.now; exposed = c.requires.exposed i; written = w i; lost = false }

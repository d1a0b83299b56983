use Rattle.std.proofs.Common.{◌+◌, ◌*◌, ◌/◌, ◌||◌, is_some, refl, ap, ◌∙◌, arith}
use Rattle.std.specs.FinSet as set
use Rattle.marks.specs.Cells.{is_within}
use Rattle.private_view.specs.Views.{Seen, value_at}
use Rattle.private_view.proofs.Looking.{marked_is}
use Rattle.private_view.proofs.Runs.{exposes_groups, exposes_none, new_run}
use Rattle.private_view.proofs.paged.Paged.expose.Goals as goal

pub returns-then-first-behind-clause-run : goal.returns-then-first-behind-clause-run
returns-then-first-behind-clause-run c =
    exposes_none c.args.from c.args.until c.args.self.now.exposed c.args.self.now.exposed refl

pub invariant_of-self : goal.invariant_of-self
invariant_of-self c =
    let i = c.self.inside in
    let marked = marked_is i.written (value_at i.slots.items i.values.items) c.args.self.now.written (ap (λ (t : Seen). t.written) c.self.view_is) in
    (c.self.invariant.0, new_run (c.saturating_sub.result / 512 + 1) (c.args.until / 512) i.exposed c.set_groups.new.self i.written c.in-Ok.ensures.ok (omega arith) (λ q. marked q ∙ ap is_some (c.requires q)))

pub returns-in-Ok-clause-run : goal.returns-in-Ok-clause-run
returns-in-Ok-clause-run c =
    let i = c.self.inside in
    let first = c.saturating_sub.result / 512 + 1 in
    let behind = c.args.until / 512 in
    let sub = c.saturating_sub.ensures in
    exposes_groups first behind c.args.self.now.exposed c.set_groups.new.self i.written (λ q. c.in-Ok.ensures.ok q ∙ ap (λ (t : Seen). is_within (512 * first) (512 * behind) q || set.contains t.exposed q) c.self.view_is) c.args.from c.args.until (omega (arith, sub)) (omega arith)

pub returns-in-Err-clause-run : goal.returns-in-Err-clause-run
returns-in-Err-clause-run c =
    exposes_none c.args.from c.args.until c.args.self.now.exposed c.set_groups.new.self (c.in-Err.ensures.err ∙ ap (λ (t : Seen). t.exposed) c.self.view_is)

use Rattle.std.proofs.Common.{rules, sym, ap, subst, ◌∙◌, FitsSigned, true}
use Rattle.std.specs.Int.{w32}
use Rattle.std.proofs.lemmas.Int.{to_z-of_z}
use Rattle.std.specs.FinSet as set
use Rattle.meaning.specs.Stores.{LeavesRead}
use Rattle.private_view.specs.Views.{Seen, world_seen}
use Rattle.private_view.proofs.Looking.{known_kept, leaves_marked, leaves_lost}
use Rattle.private_view.proofs.Putting.{marks_more}
use Rattle.private_view.proofs.Runs.{run_exposed}
use Rattle.private_view.proofs.paged.Paged.read_first.Goals as goal

pub invariant_of-self : goal.invariant_of-self
invariant_of-self c =
    let i = c.self.inside in
    let k = c.args.cell.0 in
    let e = c.set.new.self in
    (c.self.invariant.0, run_exposed i.run_from i.run_until i.exposed i.written c.self.invariant.1 k e (marks_more i.exposed e k c.in-Ok.ensures.ok))

pub returns-in-Ok-clause-value : goal.returns-in-Ok-clause-value
returns-in-Ok-clause-value c =
    let x = c.read-value.result in
    let f : FitsSigned w32 x = search rules in
    to_z-of_z w32 x f ∙ known_kept c.args.self.now _ c.args.cell.0 x c.self.view_is c.requires.unwritten c.read-value.ensures

pub returns-in-Ok-clause-after : goal.returns-in-Ok-clause-after
returns-in-Ok-clause-after c =
    let s = c.args.self.now in
    let k = c.args.cell.0 in
    let e = c.set.new.self in
    subst (λ (t : Seen). LeavesRead k (world_seen s) (world_seen (record t { exposed = e }))) (sym c.self.view_is) (leaves_marked s k e c.requires.unwritten (c.in-Ok.ensures.ok ∙ ap (λ (t : Seen). set.insert t.exposed k) c.self.view_is))

pub returns-in-Err-clause-value : goal.returns-in-Err-clause-value
returns-in-Err-clause-value c =
    let x = c.read-value.result in
    let f : FitsSigned w32 x = search rules in
    to_z-of_z w32 x f ∙ known_kept c.args.self.now _ c.args.cell.0 x c.self.view_is c.requires.unwritten c.read-value.ensures

pub returns-in-Err-clause-after : goal.returns-in-Err-clause-after
returns-in-Err-clause-after c =
    let s = c.args.self.now in
    let k = c.args.cell.0 in
    let e = c.set.new.self in
    subst (λ (t : Seen). LeavesRead k (world_seen s) (world_seen (record t { exposed = e; lost = true }))) (sym c.self.view_is) (leaves_lost s k e c.requires.unwritten (c.in-Err.ensures.err ∙ ap (λ (t : Seen). t.exposed) c.self.view_is))

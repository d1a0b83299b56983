use Rattle.std.proofs.Common.{rules, subst, ◌∙◌, FitsSigned}
use Rattle.std.specs.Int.{w32}
use Rattle.std.proofs.lemmas.Int.{to_z-of_z}
use Rattle.meaning.specs.Stores.{LeavesRead}
use Rattle.private_view.specs.Views.{Seen, world_seen}
use Rattle.private_view.proofs.Fronts.{behind_front, behind_known, behind_leaves, beyond_shown}
use Rattle.private_view.proofs.view.ViewStore.read_element.Goals as goal

pub returns-in-Some-clause-value : goal.returns-in-Some-clause-value
returns-in-Some-clause-value c =
    let f = c.self.inside.front in
    let fits : FitsSigned w32 c.in-Some.value = search rules in
    to_z-of_z w32 c.in-Some.value fits ∙ c.in-Some.ensures.value ∙ behind_known f.written f.values c.self.inside.paged c.args.self.now c.self.view_is f.shown c.self.invariant c.args.cell.0 (beyond_shown f.shown c.args.cell.0 c.in-Some.ensures.far)

pub returns-in-Some-clause-after : goal.returns-in-Some-clause-after
returns-in-Some-clause-after c =
    let f = c.self.inside.front in
    let p = c.self.inside.paged in
    let s = c.args.self.now in
    let k = c.args.cell.0 in
    subst (λ (t : Seen). LeavesRead k (world_seen s) (world_seen t)) c.self.view_is (behind_leaves f.written f.values p s c.self.view_is f.shown c.self.invariant k p (beyond_shown f.shown k c.in-Some.ensures.far) c.in-Some.ensures.after)

pub invariant_of-self : goal.invariant_of-self
invariant_of-self c =
    let f = c.self.inside.front in
    behind_front f.written f.values c.self.inside.paged c.args.self.now c.self.view_is f.shown c.self.invariant c.args.cell.0 c.read-2.new.self c.if-cell-lt64.false c.read-2.ensures.after

pub returns-clause-value : goal.returns-clause-value
returns-clause-value c =
    let f = c.self.inside.front in
    let fits : FitsSigned w32 c.read-2.result = search rules in
    to_z-of_z w32 c.read-2.result fits ∙ c.read-2.ensures.value ∙ behind_known f.written f.values c.self.inside.paged c.args.self.now c.self.view_is f.shown c.self.invariant c.args.cell.0 (beyond_shown f.shown c.args.cell.0 c.if-cell-lt64.false)

pub returns-clause-after : goal.returns-clause-after
returns-clause-after c =
    let f = c.self.inside.front in
    behind_leaves f.written f.values c.self.inside.paged c.args.self.now c.self.view_is f.shown c.self.invariant c.args.cell.0 c.read-2.new.self (beyond_shown f.shown c.args.cell.0 c.if-cell-lt64.false) c.read-2.ensures.after

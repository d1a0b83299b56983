use Rattle.std.proofs.Common.{rules, sym, subst, ◌∙◌, FitsSigned}
use Rattle.std.specs.Int.{w32}
use Rattle.std.proofs.lemmas.Int.{to_z-of_z}
use Rattle.meaning.specs.Stores.{LeavesRead}
use Rattle.private_view.specs.Fronts.{with_first}
use Rattle.private_view.specs.Views.{world_seen}
use Rattle.private_view.proofs.Fronts.{behind_known, behind_leaves, shown_known, shown_leaves}
use Rattle.private_view.proofs.view.View.read_first.Goals as goal

pub invariant_of-self : goal.invariant_of-self
invariant_of-self c =
    c.show.ensures.front (world_seen c.self.inside.paged) (world_seen c.read-value.new.self) c.read-value.ensures.after c.self.invariant

pub returns-in-Some-clause-value : goal.returns-in-Some-clause-value
returns-in-Some-clause-value c =
    let f = c.self.inside.front in
    let fits : FitsSigned w32 c.in-Some.value = search rules in
    to_z-of_z w32 c.in-Some.value fits ∙ c.in-Some.ensures.value ∙ shown_known f.written f.values c.self.inside.paged c.args.self.now c.self.view_is f.shown c.self.invariant c.args.cell.0 (sym c.in-Some.ensures.some) c.requires

pub returns-in-Some-clause-after : goal.returns-in-Some-clause-after
returns-in-Some-clause-after c =
    let f = c.self.inside.front in
    shown_leaves f.written f.values c.self.inside.paged c.args.self.now c.self.view_is f.shown c.self.invariant c.args.cell.0 (sym c.in-Some.ensures.some)

pub returns-in-None-clause-value : goal.returns-in-None-clause-value
returns-in-None-clause-value c =
    let f = c.self.inside.front in
    let fits : FitsSigned w32 c.read-value.result = search rules in
    to_z-of_z w32 c.read-value.result fits ∙ c.read-value.ensures.value ∙ behind_known f.written f.values c.self.inside.paged c.args.self.now c.self.view_is f.shown c.self.invariant c.args.cell.0 (sym c.in-None.ensures.some)

pub returns-in-None-clause-after : goal.returns-in-None-clause-after
returns-in-None-clause-after c =
    let f = c.self.inside.front in
    let g = c.show.new.self in
    let next = c.read-value.new.self in
    subst (λ m. LeavesRead c.args.cell.0 (world_seen c.args.self.now) (world_seen (with_first m g.values next))) (sym c.show.ensures.written)
    (subst (λ l. LeavesRead c.args.cell.0 (world_seen c.args.self.now) (world_seen (with_first f.written l next))) (sym c.show.ensures.values)
    (behind_leaves f.written f.values c.self.inside.paged c.args.self.now c.self.view_is f.shown c.self.invariant c.args.cell.0 next (sym c.in-None.ensures.some) c.read-value.ensures.after))

use Rattle.std.proofs.Common.{rules, sym, ◌∙◌, FitsSigned}
use Rattle.std.specs.Int.{w32}
use Rattle.std.proofs.lemmas.Int.{to_z-of_z}
use Rattle.private_view.proofs.Fronts.{shown_known, shown_leaves}
use Rattle.private_view.proofs.view.ViewStore.read.Goals as goal

pub returns-in-Some-clause-value : goal.returns-in-Some-clause-value
returns-in-Some-clause-value c =
    let f = c.self.inside.front in
    let fits : FitsSigned w32 c.in-Some.value = search rules in
    to_z-of_z w32 c.in-Some.value fits ∙ c.in-Some.ensures.value ∙ shown_known f.written f.values c.self.inside.paged c.args.self.now c.self.view_is f.shown c.self.invariant c.args.cell.0 (sym c.in-Some.ensures.some) c.requires

pub returns-in-Some-clause-after : goal.returns-in-Some-clause-after
returns-in-Some-clause-after c =
    let f = c.self.inside.front in
    shown_leaves f.written f.values c.self.inside.paged c.args.self.now c.self.view_is f.shown c.self.invariant c.args.cell.0 (sym c.in-Some.ensures.some)

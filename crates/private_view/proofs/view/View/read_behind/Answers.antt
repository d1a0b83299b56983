use Rattle.std.proofs.Common.{rules, ◌∙◌, FitsSigned}
use Rattle.std.specs.Int.{w32}
use Rattle.std.proofs.lemmas.Int.{to_z-of_z}
use Rattle.private_view.proofs.Fronts.{behind_front, behind_known, behind_leaves, beyond_shown}
use Rattle.private_view.proofs.view.View.read_behind.Goals as goal

pub invariant_of-self : goal.invariant_of-self
invariant_of-self c =
    let f = c.self.inside.front in
    behind_front f.written f.values c.self.inside.paged c.args.self.now c.self.view_is f.shown c.self.invariant c.args.cell.0 c.read.new.self c.if-cell-ge64.true c.read.ensures.after

pub returns-then-cell-ge64-clause-value : goal.returns-then-cell-ge64-clause-value
returns-then-cell-ge64-clause-value c =
    let f = c.self.inside.front in
    let fits : FitsSigned w32 c.read.result = search rules in
    to_z-of_z w32 c.read.result fits ∙ c.read.ensures.value ∙ behind_known f.written f.values c.self.inside.paged c.args.self.now c.self.view_is f.shown c.self.invariant c.args.cell.0 (beyond_shown f.shown c.args.cell.0 c.if-cell-ge64.true)

pub returns-then-cell-ge64-clause-after : goal.returns-then-cell-ge64-clause-after
returns-then-cell-ge64-clause-after c =
    let f = c.self.inside.front in
    behind_leaves f.written f.values c.self.inside.paged c.args.self.now c.self.view_is f.shown c.self.invariant c.args.cell.0 c.read.new.self (beyond_shown f.shown c.args.cell.0 c.if-cell-ge64.true) c.read.ensures.after

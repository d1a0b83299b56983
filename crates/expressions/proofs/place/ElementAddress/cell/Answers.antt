use Rattle.std.proofs.Common.{sym, ◌∙◌}
use Rattle.expressions.proofs.Places.{no_cell, is_left}
use Rattle.expressions.proofs.place.ElementAddress.cell.Goals as goal

pub returns-else-is_empty-clause-cell : goal.returns-else-is_empty-clause-cell
returns-else-is_empty-clause-cell c =
    sym (no_cell c.args.self (is_left c.args.self.left.now (sym c.is_empty.ensures ∙ c.if-is_empty.false)))

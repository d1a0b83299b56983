use Rattle.std.proofs.Common.{sym}
use Rattle.source_columns.proofs.Pieces.{cut_at, not_cut}
use Rattle.source_columns.proofs.lines.first_piece.Goals as goal

pub returns-in-Some-clause-pieces : goal.returns-in-Some-clause-pieces
returns-in-Some-clause-pieces c = cut_at c.args.source.now c.in-Some.end (sym c.in-Some.ensures)

pub returns-in-None-clause-pieces : goal.returns-in-None-clause-pieces
returns-in-None-clause-pieces c = not_cut c.args.source.now (sym c.if-is_empty.ensures) (sym c.in-None.ensures)

use Rattle.format_edit.proofs.Ahead.{moves_on}
use Rattle.format_edit.proofs.records.skip.Goals as goal

pub returns : goal.returns
returns c = λ course. moves_on c.args.sheet.now.bytes.items c.args.sheet.now.gap c.args.n c.saturating_add-sheet.result course c.saturating_add-sheet.ensures

use Rattle.std.proofs.Common.{ap, ◌∙◌, arith}
use Rattle.format_edit.specs.Ahead.{ahead}
use Rattle.format_edit.proofs.Ahead.{clashes_within}
use Rattle.format_edit.proofs.Walk.{nothing_stops, nothing_clashes}
use Rattle.format_edit.proofs.editing.close.Goals as goal

pub returns-in-None : goal.returns-in-None
returns-in-None c = ap (ahead c.args.sheet.now) (nothing_stops c.args.left.now (omega (arith, c.in-None.ensures.item.3)))

pub returns-in-Some : goal.returns-in-Some
returns-in-Some c =
    ap (ahead c.args.sheet.now) (nothing_clashes c.args.left.now c.in-Some.ensures.item.3.0)
    ∙ clashes_within c.args.sheet.now.bytes.items c.args.sheet.now.gap (omega (arith, c.args.sheet.now.bytes.ok.0, c.args.sheet.now.within))

use Rattle.std.proofs.Common.{arith, sym, ap}
use Rattle.std.proofs.lemmas.Bool.{eqb-true, eqb-false}
use Rattle.format_edit.specs.Ahead.{ahead}
use Rattle.format_edit.proofs.Walk.{colon_stops, colon_passes}
use Rattle.format_edit.proofs.editing.edit_colon.Goals as goal

pub returns-then-is_empty : goal.returns-then-is_empty
returns-then-is_empty c = λ more.
    ap (ahead c.args.sheet.now) (colon_stops more c.args.values.now (eqb-true _ _ (sym c.if-is_empty.ensures)))

pub returns : goal.returns
returns c = λ more.
    ap (ahead c.args.sheet.now) (colon_passes more c.args.values.now (omega (arith, eqb-false _ _ (sym c.if-is_empty.ensures))))

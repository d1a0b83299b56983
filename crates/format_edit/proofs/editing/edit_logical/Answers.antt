use Rattle.std.proofs.Common.{arith, ap, ◌∙◌}
use Rattle.std.proofs.lemmas.Result.{err_from_is_err_and}
use Rattle.meaning.specs.Records.{course}
use Rattle.format_edit.specs.Ahead.{ahead}
use Rattle.format_edit.proofs.Ahead.{clashes_within}
use Rattle.format_edit.proofs.Walk.{logical_stops, logical_clashes, logical_puts, fails_along}
use Rattle.format_edit.proofs.editing.edit_logical.Goals as goal

pub returns-in_default : goal.returns-in_default
returns-in_default c = λ more.
    ap (ahead c.args.sheet.now) (logical_stops more c.args.width c.args.values.now c.in_default.ensures.cases)

pub returns-in-Int : goal.returns-in-Int
returns-in-Int c = λ more.
    ap (ahead c.args.sheet.now) (logical_clashes more c.args.width c.args.values.now c.in-Some.value.now c.in-Some.rest.now _ c.in-Some.ensures.cases.0 c.in-Int.is)
    ∙ clashes_within c.args.sheet.now.bytes.items c.args.sheet.now.gap (omega (arith, c.args.sheet.now.bytes.ok.0, c.args.sheet.now.within))

pub returns-in_err-put_logical-in-Bool : goal.returns-in_err-put_logical-in-Bool
returns-in_err-put_logical-in-Bool c = λ more.
    let p = err_from_is_err_and c.from_residual.result c.from_residual.ensures.1 in
    let next = ap (ahead c.args.sheet.now) (logical_puts more c.args.width c.args.values.now c.in-Some.value.now c.in-Some.rest.now c.in-Bool.b c.in-Some.ensures.cases.0 c.in-Bool.is) in
    let h = rw c.from.ensures at (c.in_err-put_logical-in-Bool.ensures (course more c.in-Some.rest.now)) in
    rw (p.1, p.2) (fails_along c.in_err-put_logical-in-Bool.field-0.0 _ _ next h)

pub returns : goal.returns
returns c = λ more.
    let next = ap (ahead c.args.sheet.now) (logical_puts more c.args.width c.args.values.now c.in-Some.value.now c.in-Some.rest.now c.in-Bool.b c.in-Some.ensures.cases.0 c.in-Bool.is) in
    let h = rw c.from.ensures at (c.in_ok-put_logical-in-Bool.ensures (course more c.in-Some.rest.now)) in
    next ∙ h

use Rattle.std.proofs.Common.{arith, rules, ap, sym, ◌∙◌, w32}
use Rattle.std.proofs.lemmas.Result.{err_from_is_err_and}
use Rattle.std.proofs.lemmas.Int.{to_z-of_z}
use Rattle.meaning.specs.declared.ending.Value.TheVariants as values
use Rattle.meaning.specs.Records.{course}
use Rattle.format_edit.specs.Ahead.{ahead}
use Rattle.format_edit.proofs.Ahead.{clashes_within}
use Rattle.format_edit.proofs.Walk.{integer_stops, integer_clashes, integer_puts, fails_along}
use Rattle.format_edit.proofs.editing.edit_integer.Goals as goal

pub returns-in_default : goal.returns-in_default
returns-in_default c = λ more.
    ap (ahead c.args.sheet.now) (integer_stops more c.args.width c.args.least c.args.values.now c.in_default.ensures.cases)

pub returns-in-Bool : goal.returns-in-Bool
returns-in-Bool c = λ more.
    ap (ahead c.args.sheet.now) (integer_clashes more c.args.width c.args.least c.args.values.now c.in-Some.value.now c.in-Some.rest.now c.in-Bool.field-0 c.in-Some.ensures.cases.0 c.in-Bool.is)
    ∙ clashes_within c.args.sheet.now.bytes.items c.args.sheet.now.gap (omega (arith, c.args.sheet.now.bytes.ok.0, c.args.sheet.now.within))

pub returns-in_err-put_integer-in-Int : goal.returns-in_err-put_integer-in-Int
returns-in_err-put_integer-in-Int c = λ more.
    let p = err_from_is_err_and c.from_residual.result c.from_residual.ensures.1 in
    let z = to_z-of_z w32 c.in-Int.z (search rules) in
    let next = ap (ahead c.args.sheet.now) (integer_puts more c.args.width c.args.least c.args.values.now c.in-Some.value.now c.in-Some.rest.now _ c.in-Some.ensures.cases.0 (c.in-Int.is ∙ ap values.Int (sym z))) in
    let h = rw c.from.ensures at (c.in_err-put_integer-in-Int.ensures (course more c.in-Some.rest.now)) in
    rw (p.1, p.2) (fails_along c.in_err-put_integer-in-Int.field-0.0 _ _ next h)

pub returns : goal.returns
returns c = λ more.
    let z = to_z-of_z w32 c.in-Int.z (search rules) in
    let next = ap (ahead c.args.sheet.now) (integer_puts more c.args.width c.args.least c.args.values.now c.in-Some.value.now c.in-Some.rest.now _ c.in-Some.ensures.cases.0 (c.in-Int.is ∙ ap values.Int (sym z))) in
    let h = rw c.from.ensures at (c.in_ok-put_integer-in-Int.ensures (course more c.in-Some.rest.now)) in
    next ∙ h

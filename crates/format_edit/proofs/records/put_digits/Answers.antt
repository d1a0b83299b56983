use Rattle.std.proofs.Common.{◌-◌, ◌+◌, ◌++◌, length, replicate, ap, ◌∙◌, arith}
use Rattle.std.proofs.lemmas.Result.{err_from_is_err_and}
use Rattle.meaning.specs.Records.{puts}
use Rattle.format_edit.proofs.Ahead.{puts_signed}
use Rattle.format_edit.proofs.Walk.{fails_along, follows_along}
use Rattle.format_edit.proofs.records.put_digits.Goals as goal

pub returns-in_err-put : goal.returns-in_err-put
returns-in_err-put c = λ course.
    let p = err_from_is_err_and c.from_residual.result c.from_residual.ensures.1 in
    let n = c.args.least - length c.args.digits.now in
    let fill = c.args.width - (length c.args.sign.now + c.saturating_sub-zeros.result + length c.args.digits.now) in
    let next = puts_signed c.args.sheet.now.bytes.items c.args.sheet.now.gap c.args.width fill n c.args.sign.now c.args.digits.now course (omega (arith, c.saturating_sub-zeros.ensures, c.if-width-len.false)) in
    rw (p.1, p.2) (fails_along c.in_err-put.field-0.0 _ _ next (c.in_err-put.ensures (puts (replicate n 48 ++ c.args.digits.now) course)))

pub returns : goal.returns
returns c = λ course.
    let n = c.args.least - length c.args.digits.now in
    let fill = c.args.width - (length c.args.sign.now + c.saturating_sub-zeros.result + length c.args.digits.now) in
    let next = puts_signed c.args.sheet.now.bytes.items c.args.sheet.now.gap c.args.width fill n c.args.sign.now c.args.digits.now course (omega (arith, c.saturating_sub-zeros.ensures, c.if-width-len.false)) in
    let same = ap (λ k. replicate k 48 ++ c.args.digits.now) c.saturating_sub-zeros.ensures in
    follows_along c.put-3.result _ _ _ (next ∙ c.in_ok-put.ensures (puts (replicate n 48 ++ c.args.digits.now) course)) (rw same at (c.put-3.ensures course))

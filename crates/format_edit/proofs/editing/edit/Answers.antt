use Rattle.std.proofs.Common.{◌∙◌}
use Rattle.std.proofs.lemmas.Result.{err_from_is_err_and}
use Rattle.format_edit.specs.Formatted.{descriptors}
use Rattle.format_edit.proofs.Laid.{edited_is}
use Rattle.format_edit.proofs.Walk.{fails_along}
use Rattle.format_edit.proofs.editing.edit.Goals as goal

pub returns-in_err-walk : goal.returns-in_err-walk
returns-in_err-walk c =
    let p = err_from_is_err_and c.from_residual.result c.from_residual.ensures.1 in
    let h = rw (c.blank_sheet-sheet.ensures.bytes, c.blank_sheet-sheet.ensures.gap, c.deref.ensures.value) at c.in_err-walk.ensures in
    rw (p.1, p.2) (fails_along c.in_err-walk.field-0.0 _ _ (edited_is (descriptors c.args.format.now) c.args.values.now) h)

pub returns-in_err-end_record : goal.returns-in_err-end_record
returns-in_err-end_record c =
    let p = err_from_is_err_and c.from_residual-in_err-end_record.result c.from_residual-in_err-end_record.ensures.1 in
    let h = rw (c.blank_sheet-sheet.ensures.bytes, c.blank_sheet-sheet.ensures.gap, c.deref.ensures.value) at c.in_ok-walk.ensures in
    rw (p.1, p.2) (fails_along c.in_err-end_record.field-0.0 _ _ (edited_is (descriptors c.args.format.now) c.args.values.now ∙ h) c.in_err-end_record.ensures.closes)

pub returns : goal.returns
returns c =
    let h = rw (c.blank_sheet-sheet.ensures.bytes, c.blank_sheet-sheet.ensures.gap, c.deref.ensures.value) at c.in_ok-walk.ensures in
    edited_is (descriptors c.args.format.now) c.args.values.now ∙ h ∙ c.in_ok-end_record.ensures.closes

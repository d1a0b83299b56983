use Rattle.std.proofs.Common.{◌+◌, drop, sym, ap, ◌∙◌}
use Rattle.std.specs.Prelude.{◌||◌}
use Rattle.meaning.specs.Records.{has_field, have_field}
use Rattle.format_edit.specs.Formatted.{part_of, parts_of}
use Rattle.format_edit.proofs.Parts.{group_is, left_more, left_none}
use Rattle.format_edit.proofs.editing.+fields.Goals as goal

pub has_field-returns-in-Group : goal.has_field-returns-in-Group
has_field-returns-in-Group t c =
    c.have_field.ensures ∙ ap (λ ps. have_field (parts_of ps)) c.deref.ensures.value ∙ sym (ap has_field (group_is c.in-Group.field-0 c.in-Group.parts)) ∙ ap (λ p. has_field (part_of p)) (sym c.in-Group.is)

pub have_field-returns-then-has_field : goal.have_field-returns-then-has_field
have_field-returns-then-has_field t c =
    let ps = c.args.parts.now in
    let i = c.loop-part.part-index in
    sym (c.loop-part.invariant ∙ left_more have_field ps i c.part-item.result c.loop-part-test.true c.part-item.is ∙ ap (λ b. b || have_field (parts_of (drop (i + 1) ps))) (sym c.if-has_field.ensures))

pub have_field-loop-part-preserved : goal.have_field-loop-part-preserved
have_field-loop-part-preserved t c =
    let ps = c.args.parts.now in
    let i = c.loop-part.part-index in
    c.loop-part.invariant ∙ left_more have_field ps i c.part-item.result c.loop-part-test.true c.part-item.is ∙ ap (λ b. b || have_field (parts_of (drop (i + 1) ps))) (sym c.if-has_field.ensures)

pub have_field-returns : goal.have_field-returns
have_field-returns t c =
    sym (c.loop-part.invariant ∙ left_none have_field c.args.parts.now c.loop-part.part-index c.loop-part-test.false)

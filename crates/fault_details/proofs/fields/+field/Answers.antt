use Rattle.std.proofs.Common.{◌≡◌, ◌+◌, ◌-◌, ◌^◌, ◌%◌, ◌<◌, ◌≤◌, min, drop, length, slice_get, sym, ap, subst, ◌∙◌, arith}
use Rattle.meaning.specs.Records.{unrolled, pass}
use Rattle.format_edit.specs.Formatted.{descriptor_of, part_of, parts_of}
use Rattle.format_edit.proofs.Parts.{group_is, left_more}
use Rattle.fault_details.specs.Fields.{fields}
use Rattle.fault_details.proofs.Taken.{single_found, group_found, group_count, first_found, later_found}
use Rattle.fault_details.proofs.fields.+field.Goals as goal

pub field_among-returns-then-left-count : goal.field_among-returns-then-left-count
field_among-returns-then-left-count t c =
    let ps = c.args.parts.now in
    let i = c.loop-part.part-index in
    let p = c.part-item.result in
    let lt : c.loop-part.left < length (fields (unrolled (part_of p))) = omega (arith, c.count_of-count.ensures, c.if-left-count.true) in
    let here = left_more (λ qs. slice_get (fields (pass qs)) c.loop-part.left) ps i p c.loop-part-test.true c.part-item.is in
    c.field_of_part.ensures ∙ sym (c.loop-part.invariant.same ∙ here ∙ first_found (part_of p) (parts_of (drop (i + 1) ps)) c.loop-part.left lt)

pub field_among-loop-part-preserved : goal.field_among-loop-part-preserved
field_among-loop-part-preserved t c =
    let ps = c.args.parts.now in
    let i = c.loop-part.part-index in
    let p = c.part-item.result in
    let rest = parts_of (drop (i + 1) ps) in
    let most : c.loop-part.left < 2 ^ 64 - 1 = omega (arith, c.loop-part.invariant.within, c.requires.small) in
    let same : length (fields (unrolled (part_of p))) ≡ c.count_of-count.result = omega (arith, c.count_of-count.ensures, c.if-left-count.false) in
    let le : length (fields (unrolled (part_of p))) ≤ c.loop-part.left = omega (arith, c.if-left-count.false) in
    let here = left_more (λ qs. slice_get (fields (pass qs)) c.loop-part.left) ps i p c.loop-part-test.true c.part-item.is in
    record {
      same = c.loop-part.invariant.same ∙ here ∙ later_found (part_of p) rest c.loop-part.left le ∙ ap (λ k. slice_get (fields (pass rest)) (c.loop-part.left - k)) same;
      within = omega (arith, c.loop-part.invariant.within);
    }

pub field_of_part-nonzero_rem-before : goal.field_of_part-nonzero_rem-before
field_of_part-nonzero_rem-before t c =
    let n = c.in-Group.field-0 in
    let inner = parts_of c.in-Group.parts.items in
    let is = ap part_of c.in-Group.is ∙ group_is n c.in-Group.parts in
    let inside = subst (λ p. c.args.before < length (fields (unrolled p))) is c.requires.inside in
    let many = c.count.ensures ∙ ap (λ ps. min (length (fields (pass (parts_of ps)))) (2 ^ 64 - 1)) c.deref-in-Group.ensures.value in
    group_count (2 ^ 64 - 1) n inner c.args.before c.count.result (omega arith) inside many

pub field_of_part-returns-in-Single : goal.field_of_part-returns-in-Single
field_of_part-returns-in-Single t c =
    let n = c.in-Single.field-0 in
    let d = descriptor_of c.in-Single.descriptor in
    let inside = subst (λ p. c.args.before < length (fields (unrolled (part_of p)))) c.in-Single.is c.requires.inside in
    single_found n d c.args.before _ c.field_in.ensures inside ∙ ap (λ p. slice_get (fields (unrolled (part_of p))) c.args.before) (sym c.in-Single.is)

pub field_of_part-returns-in-Group : goal.field_of_part-returns-in-Group
field_of_part-returns-in-Group t c =
    let n = c.in-Group.field-0 in
    let inner = parts_of c.in-Group.parts.items in
    let is = ap part_of c.in-Group.is ∙ group_is n c.in-Group.parts in
    let inside = subst (λ p. c.args.before < length (fields (unrolled p))) is c.requires.inside in
    let many = c.count.ensures ∙ ap (λ ps. min (length (fields (pass (parts_of ps)))) (2 ^ 64 - 1)) c.deref-in-Group.ensures.value in
    let within = c.field_among.ensures ∙ ap (λ ps. slice_get (fields (pass (parts_of ps))) (c.args.before % c.count.result)) c.deref.ensures.value in
    group_found (2 ^ 64 - 1) n inner c.args.before c.count.result _ c.requires.small inside many within ∙ ap (λ p. slice_get (fields (unrolled p)) c.args.before) (sym is)

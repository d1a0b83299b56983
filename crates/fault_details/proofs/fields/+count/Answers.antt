use Rattle.std.proofs.Common.{◌+◌, ◌-◌, ◌^◌, min, drop, length, sym, ap, ◌∙◌, arith}
use Rattle.meaning.specs.Records.{unrolled, pass}
use Rattle.format_edit.specs.Formatted.{descriptor_of, part_of, parts_of}
use Rattle.format_edit.proofs.Parts.{group_is, left_more, left_none}
use Rattle.meaning.proofs.Capped.{sum_more, product_is}
use Rattle.fault_details.specs.Fields.{fields}
use Rattle.fault_details.proofs.Taken.{single_count, times_count, pass_count}
use Rattle.fault_details.proofs.fields.+count.Goals as goal

pub count-loop-part-init : goal.count-loop-part-init
count-loop-part-init t c = record { total = ap (λ n. min n (2 ^ 64 - 1)) (omega arith); within = omega arith }

pub count-loop-part-preserved : goal.count-loop-part-preserved
count-loop-part-preserved t c =
    let ps = c.args.parts.now in
    let i = c.loop-part.part-index in
    let first = length (fields (unrolled (part_of c.part-item.result))) in
    let rest = length (fields (pass (parts_of (drop (i + 1) ps)))) in
    let more = left_more (λ qs. length (fields (pass qs))) ps i c.part-item.result c.loop-part-test.true c.part-item.is ∙ pass_count (part_of c.part-item.result) (parts_of (drop (i + 1) ps)) in
    let so_far = ap (λ n. min (c.loop-part.sum + n) (2 ^ 64 - 1)) (sym more) ∙ c.loop-part.invariant.total in
    record {
      total = sum_more (2 ^ 64 - 1) c.loop-part.sum c.count_of.result first rest _ c.saturating_add-sum.result c.count_of.ensures c.saturating_add-sum.ensures so_far;
      within = omega (arith, c.saturating_add-sum.ensures);
    }

pub count-returns : goal.count-returns
count-returns t c =
    let none = left_none (λ qs. length (fields (pass qs))) c.args.parts.now c.loop-part.part-index c.loop-part-test.false in
    let so_far = ap (λ n. min (c.loop-part.sum + n) (2 ^ 64 - 1)) (sym none) ∙ c.loop-part.invariant.total in
    omega (arith, c.loop-part.invariant.within, so_far)

pub count_of-returns-in-Single : goal.count_of-returns-in-Single
count_of-returns-in-Single t c =
    let r = rw c.from.ensures at c.saturating_mul.ensures in
    single_count (2 ^ 64 - 1) c.in-Single.repeat (descriptor_of c.in-Single.descriptor) c.taken.result c.saturating_mul.result c.taken.ensures r
    ∙ ap (λ p. min (length (fields (unrolled (part_of p)))) (2 ^ 64 - 1)) (sym c.in-Single.is)

pub count_of-returns-in-Group : goal.count_of-returns-in-Group
count_of-returns-in-Group t c =
    let n = c.in-Group.repeat in
    let inner = parts_of c.in-Group.parts.items in
    let inside = c.count.ensures ∙ ap (λ ps. min (length (fields (pass (parts_of ps)))) (2 ^ 64 - 1)) c.deref.ensures.value in
    let r = rw c.from-in-Group.ensures at c.saturating_mul-in-Group.ensures in
    product_is (2 ^ 64 - 1) n (length (fields (pass inner))) c.count.result c.saturating_mul-in-Group.result inside r
    ∙ ap (λ k. min k (2 ^ 64 - 1)) (sym (times_count n (pass inner)))
    ∙ ap (λ p. min (length (fields (unrolled p))) (2 ^ 64 - 1)) (sym (group_is n c.in-Group.parts)) ∙ ap (λ p. min (length (fields (unrolled (part_of p)))) (2 ^ 64 - 1)) (sym c.in-Group.is)

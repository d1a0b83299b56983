use Rattle.std.proofs.Common.{◌+◌, ◌-◌, ◌^◌, min, drop, sym, ap, ◌∙◌, arith}
use Rattle.meaning.specs.Formats.{items_of, items}
use Rattle.format_edit.specs.Formatted.{part_of, parts_of}
use Rattle.format_edit.proofs.Parts.{group_is, left_more, left_none}
use Rattle.meaning.proofs.Capped.{sum_more, product_is}
use Rattle.format_edit.proofs.reading.+items.Goals as goal

pub items-loop-part-init : goal.items-loop-part-init
items-loop-part-init t c = record { total = ap (λ n. min n (2 ^ 64 - 1)) (omega arith); within = omega arith }

pub items-loop-part-preserved : goal.items-loop-part-preserved
items-loop-part-preserved t c =
    let ps = c.args.parts.now in
    let i = c.loop-part.part-index in
    let rest = items (parts_of (drop (i + 1) ps)) in
    let so_far = ap (λ n. min (c.loop-part.sum + n) (2 ^ 64 - 1)) (sym (left_more items ps i c.part-item.result c.loop-part-test.true c.part-item.is)) ∙ c.loop-part.invariant.total in
    record {
      total = sum_more (2 ^ 64 - 1) c.loop-part.sum c.items_of.result (items_of (part_of c.part-item.result)) rest _ c.saturating_add-sum.result c.items_of.ensures c.saturating_add-sum.ensures so_far;
      within = omega (arith, c.saturating_add-sum.ensures);
    }

pub items-returns : goal.items-returns
items-returns t c =
    let none = left_none items c.args.parts.now c.loop-part.part-index c.loop-part-test.false in
    let so_far = ap (λ n. min (c.loop-part.sum + n) (2 ^ 64 - 1)) (sym none) ∙ c.loop-part.invariant.total in
    omega (arith, c.loop-part.invariant.within, so_far)

pub items_of-returns-in-Group : goal.items_of-returns-in-Group
items_of-returns-in-Group t c =
    let inside = c.items.ensures ∙ ap (λ ps. min (items (parts_of ps)) (2 ^ 64 - 1)) c.deref.ensures.value in
    let r = rw c.from-in-Group.ensures at c.saturating_mul.ensures in
    product_is (2 ^ 64 - 1) c.in-Group.repeat (items (parts_of c.in-Group.parts.items)) c.items.result c.saturating_mul.result inside r
    ∙ ap (λ p. min (items_of p) (2 ^ 64 - 1)) (sym (group_is c.in-Group.repeat c.in-Group.parts)) ∙ ap (λ p. min (items_of (part_of p)) (2 ^ 64 - 1)) (sym c.in-Group.is)

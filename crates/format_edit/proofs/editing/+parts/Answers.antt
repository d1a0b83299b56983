use Rattle.std.proofs.Common.{◌+◌, ◌-◌, ◌++◌, List, drop, sym, ap, ◌∙◌, arith}
use Rattle.std.proofs.lemmas.Result.{err_from_is_err_and}
use Rattle.meaning.specs.Formats.{Descriptor}
use Rattle.meaning.specs.Records.{times, unrolled, pass, course}
use Rattle.format_edit.specs.Formatted.{part_of, parts_of}
use Rattle.format_edit.specs.Edits.{Made}
use Rattle.format_edit.specs.Ahead.{ahead, onward}
use Rattle.format_edit.proofs.Parts.{group_is, left_more, left_none}
use Rattle.format_edit.proofs.Walk.{fails_along, along, along_none, times_more, times_none, walks_same}
use Rattle.format_edit.proofs.editing.+parts.Goals as goal

pub edit_group-returns-in_err-rest : goal.edit_group-returns-in_err-rest
edit_group-returns-in_err-rest t c = λ more.
    let ds = pass (parts_of c.args.parts.now) in
    let j = c.args.repeat - (c.loop.counter + 1) in
    let made : List Descriptor → Made = λ rest. ahead c.args.sheet.now (course (times c.args.repeat ds ++ rest) c.args.values.now) in
    let p = err_from_is_err_and c.from_residual.result c.from_residual.ensures.1 in
    let next = along made c.loop.sheet.bytes.items c.loop.sheet.gap _ ds (times j ds) c.loop.left.now c.loop.invariant (times_more (c.args.repeat - c.loop.counter) j ds (omega arith)) more in
    rw (p.1, p.2) (fails_along c.in_err-rest.field-0.0 _ _ next (c.in_err-rest.ensures (times j ds ++ more)))

pub edit_group-returns-in_default : goal.edit_group-returns-in_default
edit_group-returns-in_default t c = λ more.
    let ds = pass (parts_of c.args.parts.now) in
    let j = c.args.repeat - (c.loop.counter + 1) in
    let made : List Descriptor → Made = λ rest. ahead c.args.sheet.now (course (times c.args.repeat ds ++ rest) c.args.values.now) in
    let next = along made c.loop.sheet.bytes.items c.loop.sheet.gap _ ds (times j ds) c.loop.left.now c.loop.invariant (times_more (c.args.repeat - c.loop.counter) j ds (omega arith)) more in
    next ∙ c.in_ok-rest.ensures (times j ds ++ more) ∙ ap (λ r. ahead c.edit_parts.new.sheet (onward r (times j ds ++ more))) c.in_default.is

pub edit_group-loop-preserved : goal.edit_group-loop-preserved
edit_group-loop-preserved t c = λ more.
    let ds = pass (parts_of c.args.parts.now) in
    let j = c.args.repeat - (c.loop.counter + 1) in
    let made : List Descriptor → Made = λ rest. ahead c.args.sheet.now (course (times c.args.repeat ds ++ rest) c.args.values.now) in
    let next = along made c.loop.sheet.bytes.items c.loop.sheet.gap _ ds (times j ds) c.loop.left.now c.loop.invariant (times_more (c.args.repeat - c.loop.counter) j ds (omega arith)) more in
    next ∙ c.in_ok-rest.ensures (times j ds ++ more) ∙ ap (λ r. ahead c.edit_parts.new.sheet (onward r (times j ds ++ more))) c.in-Some.is

pub edit_group-returns : goal.edit_group-returns
edit_group-returns t c = λ more.
    let ds = pass (parts_of c.args.parts.now) in
    let made : List Descriptor → Made = λ rest. ahead c.args.sheet.now (course (times c.args.repeat ds ++ rest) c.args.values.now) in
    along_none made c.loop.sheet.bytes.items c.loop.sheet.gap _ c.loop.left.now c.loop.invariant (times_none (c.args.repeat - c.loop.counter) ds (omega arith)) more

pub edit_parts-returns-in_err-rest : goal.edit_parts-returns-in_err-rest
edit_parts-returns-in_err-rest t c = λ more.
    let ps = c.args.parts.now in
    let i = c.loop-part.part-index in
    let ds = pass (parts_of (drop (i + 1) ps)) in
    let made : List Descriptor → Made = λ rest. ahead c.args.sheet.now (course (pass (parts_of ps) ++ rest) c.args.values.now) in
    let p = err_from_is_err_and c.from_residual.result c.from_residual.ensures.1 in
    let next = along made c.loop-part.sheet.bytes.items c.loop-part.sheet.gap _ (unrolled (part_of c.part-item.result)) ds c.loop-part.left.now c.loop-part.invariant (left_more pass ps i c.part-item.result c.loop-part-test.true c.part-item.is) more in
    rw (p.1, p.2) (fails_along c.in_err-rest.field-0.0 _ _ next (c.in_err-rest.ensures (ds ++ more)))

pub edit_parts-returns-in_default : goal.edit_parts-returns-in_default
edit_parts-returns-in_default t c = λ more.
    let ps = c.args.parts.now in
    let i = c.loop-part.part-index in
    let ds = pass (parts_of (drop (i + 1) ps)) in
    let made : List Descriptor → Made = λ rest. ahead c.args.sheet.now (course (pass (parts_of ps) ++ rest) c.args.values.now) in
    let next = along made c.loop-part.sheet.bytes.items c.loop-part.sheet.gap _ (unrolled (part_of c.part-item.result)) ds c.loop-part.left.now c.loop-part.invariant (left_more pass ps i c.part-item.result c.loop-part-test.true c.part-item.is) more in
    next ∙ c.in_ok-rest.ensures (ds ++ more) ∙ ap (λ r. ahead c.edit_part.new.sheet (onward r (ds ++ more))) c.in_default.is

pub edit_parts-loop-part-preserved : goal.edit_parts-loop-part-preserved
edit_parts-loop-part-preserved t c = λ more.
    let ps = c.args.parts.now in
    let i = c.loop-part.part-index in
    let ds = pass (parts_of (drop (i + 1) ps)) in
    let made : List Descriptor → Made = λ rest. ahead c.args.sheet.now (course (pass (parts_of ps) ++ rest) c.args.values.now) in
    let next = along made c.loop-part.sheet.bytes.items c.loop-part.sheet.gap _ (unrolled (part_of c.part-item.result)) ds c.loop-part.left.now c.loop-part.invariant (left_more pass ps i c.part-item.result c.loop-part-test.true c.part-item.is) more in
    next ∙ c.in_ok-rest.ensures (ds ++ more) ∙ ap (λ r. ahead c.edit_part.new.sheet (onward r (ds ++ more))) c.in-Some.is

pub edit_parts-returns : goal.edit_parts-returns
edit_parts-returns t c = λ more.
    let ps = c.args.parts.now in
    let made : List Descriptor → Made = λ rest. ahead c.args.sheet.now (course (pass (parts_of ps) ++ rest) c.args.values.now) in
    along_none made c.loop-part.sheet.bytes.items c.loop-part.sheet.gap _ c.loop-part.left.now c.loop-part.invariant (left_none pass ps c.loop-part.part-index c.loop-part-test.false) more

pub edit_part-returns-in-Single : goal.edit_part-returns-in-Single
edit_part-returns-in-Single t c =
    walks_same _ c.args.sheet.now c.edit_single.new.sheet c.args.values.now _ _ (ap (λ p. unrolled (part_of p)) (sym c.in-Single.is)) c.edit_single.ensures

pub edit_part-returns-in-Group : goal.edit_part-returns-in-Group
edit_part-returns-in-Group t c =
    let inside = ap (λ ps. times c.in-Group.repeat (pass (parts_of ps))) c.deref.ensures.value in
    walks_same _ c.args.sheet.now c.edit_group.new.sheet c.args.values.now _ _ (inside ∙ ap unrolled (sym (group_is c.in-Group.repeat c.in-Group.parts)) ∙ ap (λ p. unrolled (part_of p)) (sym c.in-Group.is)) c.edit_group.ensures

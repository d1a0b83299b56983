use Rattle.std.proofs.Common.{◌+◌, ◌-◌, ◌++◌, ◌∷◌, [], List, ap, ◌∙◌, arith}
use Rattle.std.proofs.lemmas.Result.{err_from_is_err_and}
use Rattle.meaning.specs.Formats.{Descriptor}
use Rattle.meaning.specs.Records.{times, course}
use Rattle.format_edit.specs.Formatted.{descriptor_of}
use Rattle.format_edit.specs.Edits.{Made}
use Rattle.format_edit.specs.Ahead.{ahead, onward}
use Rattle.format_edit.proofs.Walk.{fails_along, along, along_none, times_more, times_none}
use Rattle.format_edit.proofs.editing.edit_single.Goals as goal

pub returns-in_err-rest : goal.returns-in_err-rest
returns-in_err-rest c = λ more.
    let ds = descriptor_of c.args.descriptor.now ∷ [] in
    let j = c.args.repeat - (c.loop.counter + 1) in
    let made : List Descriptor → Made = λ rest. ahead c.args.sheet.now (course (times c.args.repeat ds ++ rest) c.args.values.now) in
    let p = err_from_is_err_and c.from_residual.result c.from_residual.ensures.1 in
    let next = along made c.loop.sheet.bytes.items c.loop.sheet.gap _ ds (times j ds) c.loop.left.now c.loop.invariant (times_more (c.args.repeat - c.loop.counter) j ds (omega arith)) more in
    rw (p.1, p.2) (fails_along c.in_err-rest.field-0.0 _ _ next (c.in_err-rest.ensures (times j ds ++ more)))

pub returns-in_default : goal.returns-in_default
returns-in_default c = λ more.
    let ds = descriptor_of c.args.descriptor.now ∷ [] in
    let j = c.args.repeat - (c.loop.counter + 1) in
    let made : List Descriptor → Made = λ rest. ahead c.args.sheet.now (course (times c.args.repeat ds ++ rest) c.args.values.now) in
    let next = along made c.loop.sheet.bytes.items c.loop.sheet.gap _ ds (times j ds) c.loop.left.now c.loop.invariant (times_more (c.args.repeat - c.loop.counter) j ds (omega arith)) more in
    next ∙ c.in_ok-rest.ensures (times j ds ++ more) ∙ ap (λ r. ahead c.edit_descriptor.new.sheet (onward r (times j ds ++ more))) c.in_default.is

pub loop-preserved : goal.loop-preserved
loop-preserved c = λ more.
    let ds = descriptor_of c.args.descriptor.now ∷ [] in
    let j = c.args.repeat - (c.loop.counter + 1) in
    let made : List Descriptor → Made = λ rest. ahead c.args.sheet.now (course (times c.args.repeat ds ++ rest) c.args.values.now) in
    let next = along made c.loop.sheet.bytes.items c.loop.sheet.gap _ ds (times j ds) c.loop.left.now c.loop.invariant (times_more (c.args.repeat - c.loop.counter) j ds (omega arith)) more in
    next ∙ c.in_ok-rest.ensures (times j ds ++ more) ∙ ap (λ r. ahead c.edit_descriptor.new.sheet (onward r (times j ds ++ more))) c.in-Some.is

pub returns : goal.returns
returns c = λ more.
    let ds = descriptor_of c.args.descriptor.now ∷ [] in
    let made : List Descriptor → Made = λ rest. ahead c.args.sheet.now (course (times c.args.repeat ds ++ rest) c.args.values.now) in
    along_none made c.loop.sheet.bytes.items c.loop.sheet.gap _ c.loop.left.now c.loop.invariant (times_none (c.args.repeat - c.loop.counter) ds (omega arith)) more

use Rattle.std.proofs.Common.{◌-◌, ◌^◌, ◌<◌, min, length, slice_get, sym, ap, ◌∙◌, arith}
use Rattle.meaning.specs.Records.{pass, reverted}
use Rattle.format_edit.specs.Formatted.{parts_of, descriptors}
use Rattle.fault_details.specs.Fields.{fields}
use Rattle.fault_details.proofs.Taken.{found_in_pass, found_nowhere, found_again}
use Rattle.fault_details.proofs.fields.field_for.Goals as goal

pub returns-then-before-first : goal.returns-then-before-first
returns-then-before-first c =
    let ps = descriptors c.args.format.now in
    let first = c.count-first.ensures ∙ ap (λ qs. min (length (fields (pass (parts_of qs)))) (2 ^ 64 - 1)) c.deref.ensures.value in
    let lt : c.args.before < length (fields (pass ps)) = omega (arith, first, c.if-before-first.true) in
    c.field_among.ensures ∙ ap (λ qs. slice_get (fields (pass (parts_of qs))) c.args.before) c.deref-then-before-first.ensures.value ∙ sym (found_in_pass ps c.args.before lt)

pub returns-then-further-eq0 : goal.returns-then-further-eq0
returns-then-further-eq0 c =
    let ps = descriptors c.args.format.now in
    let again = parts_of c.reverted-again.result.now in
    let first = c.count-first.ensures ∙ ap (λ qs. min (length (fields (pass (parts_of qs)))) (2 ^ 64 - 1)) c.deref.ensures.value in
    let back = c.reverted-again.ensures ∙ ap (λ qs. reverted (parts_of qs)) c.deref-2.ensures.value in
    sym (found_nowhere (2 ^ 64 - 1) ps again c.args.before c.count-first.result c.count-further.result c.requires back first (omega (arith, c.if-before-first.false)) c.count-further.ensures (omega (arith, c.if-further-eq0.true)))

pub returns : goal.returns
returns c =
    let ps = descriptors c.args.format.now in
    let again = parts_of c.reverted-again.result.now in
    let first = c.count-first.ensures ∙ ap (λ qs. min (length (fields (pass (parts_of qs)))) (2 ^ 64 - 1)) c.deref.ensures.value in
    let back = c.reverted-again.ensures ∙ ap (λ qs. reverted (parts_of qs)) c.deref-2.ensures.value in
    found_again (2 ^ 64 - 1) ps again c.args.before c.count-first.result c.count-further.result _ c.requires back first (omega (arith, c.if-before-first.false)) c.count-further.ensures (omega (arith, c.if-further-eq0.false)) c.field_among-2.ensures

use Rattle.std.proofs.Common.{sym, ◌∙◌, arith, length, ◌<◌, Some}
use Rattle.std.proofs.lemmas.Result.{err_from_is_err_and}
use Rattle.std.proofs.lemmas.Bool.{eqb-true, eqb-false}
use Rattle.meaning.specs.Formats.{is_short_pass}
use Rattle.format_edit.specs.Formatted.{parts_of}
use Rattle.format_edit.proofs.Front.{when_yes, when_no}
use Rattle.format_edit.proofs.Joined.{read_nothing, read_leaves, read_all, format_breaks}
use Rattle.format_edit.proofs.format.Format.read_inside.Goals as goal

pub returns-then-is_empty : goal.returns-then-is_empty
returns-then-is_empty c = rw c.new.ensures.items (read_nothing c.args.text.now (eqb-true _ _ (sym c.if-is_empty.ensures)))

pub returns-in_err-parts : goal.returns-in_err-parts
returns-in_err-parts c =
    let some : 0 < length c.args.text.now = omega (arith, eqb-false _ _ (sym c.if-is_empty.ensures)) in
    let p = err_from_is_err_and c.from_residual.result c.from_residual.ensures.1 in
    rw (p.1, p.2) (format_breaks c.args.text.now some c.in_err-parts.field-0.0 c.in_err-parts.ensures)

pub returns-then-not-is_empty : goal.returns-then-not-is_empty
returns-then-not-is_empty c =
    let some : 0 < length c.args.text.now = omega (arith, eqb-false _ _ (sym c.if-is_empty.ensures)) in
    let left : 0 < length c.in_ok-parts.rest.now = omega (arith, eqb-false _ _ (sym c.if-not-is_empty.ensures)) in
    read_leaves c.args.text.now some (parts_of c.in_ok-parts.parts.items) c.in_ok-parts.rest.now c.in_ok-parts.ensures left

pub returns-then-not-is_short_pass : goal.returns-then-not-is_short_pass
returns-then-not-is_short_pass c =
    let some : 0 < length c.args.text.now = omega (arith, eqb-false _ _ (sym c.if-is_empty.ensures)) in
    let ps = parts_of c.in_ok-parts.parts.items in
    let long = rw c.deref.ensures.value at c.if-not-is_short_pass.ensures in
    read_all c.args.text.now some ps c.in_ok-parts.rest.now c.in_ok-parts.ensures (eqb-true _ _ (sym c.if-not-is_empty.ensures)) ∙ when_no (is_short_pass ps) (Some ps) (sym long)

pub returns : goal.returns
returns c =
    let some : 0 < length c.args.text.now = omega (arith, eqb-false _ _ (sym c.if-is_empty.ensures)) in
    let ps = parts_of c.in_ok-parts.parts.items in
    let short = rw c.deref.ensures.value at c.if-not-is_short_pass.ensures in
    read_all c.args.text.now some ps c.in_ok-parts.rest.now c.in_ok-parts.ensures (eqb-true _ _ (sym c.if-not-is_empty.ensures)) ∙ when_yes (is_short_pass ps) (Some ps) (sym short)

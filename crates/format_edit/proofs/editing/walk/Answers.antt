use Rattle.std.proofs.Common.{ap, sym, ◌∙◌, length, [], ◌∷◌}
use Rattle.meaning.specs.Formats.{colon, slash}
use Rattle.meaning.specs.Records.{pass, times, course}
use Rattle.format_edit.specs.Formatted.{parts_of}
use Rattle.format_edit.specs.Ahead.{ahead, onward}
use Rattle.format_edit.proofs.Walk.{follows_along, goes_back, stays}
use Rattle.format_edit.proofs.editing.walk.Goals as goal

pub returns-then-have_field : goal.returns-then-have_field
returns-then-have_field c =
    let again = parts_of c.reverted-again.result.now in
    let steps = times (length c.args.values.now) (colon ∷ (slash ∷ pass again)) in
    let e = ap (λ s. ahead c.args.sheet.now (course s c.args.values.now)) (goes_back (parts_of c.args.parts.now) again (length c.args.values.now) c.reverted-again.ensures (sym c.if-have_field.ensures)) in
    follows_along c.go_back.result _ _ _ (e ∙ c.in_ok-left.ensures steps ∙ ap (λ r. ahead c.edit_parts.new.sheet (onward r steps)) c.in-Some.is) c.go_back.ensures

pub returns-else-have_field : goal.returns-else-have_field
returns-else-have_field c =
    let again = parts_of c.reverted-again.result.now in
    let e = ap (λ s. ahead c.args.sheet.now (course s c.args.values.now)) (stays (parts_of c.args.parts.now) again (length c.args.values.now) c.reverted-again.ensures (sym c.if-have_field.ensures)) in
    follows_along c.close.result _ _ _ (e ∙ c.in_ok-left.ensures [] ∙ ap (λ r. ahead c.edit_parts.new.sheet (onward r [])) c.in-Some.is) c.close.ensures

use Rattle.std.proofs.Common.{[], ◌∷◌, ap, sym, ◌∙◌}
use Rattle.meaning.specs.Formats.{characters}
use Rattle.format_edit.specs.Formatted.{descriptor_of}
use Rattle.format_edit.proofs.Walk.{walks_same}
use Rattle.format_edit.proofs.editing.edit_descriptor.Goals as goal

pub returns-in-Integer : goal.returns-in-Integer
returns-in-Integer c =
    walks_same _ c.args.sheet.now c.edit_integer.new.sheet c.args.values.now _ _ (ap (λ d. descriptor_of d ∷ []) (sym c.in-Integer.is)) c.edit_integer.ensures

pub returns-in-Logical : goal.returns-in-Logical
returns-in-Logical c =
    walks_same _ c.args.sheet.now c.edit_logical.new.sheet c.args.values.now _ _ (ap (λ d. descriptor_of d ∷ []) (sym c.in-Logical.is)) c.edit_logical.ensures

pub returns-in-Characters : goal.returns-in-Characters
returns-in-Characters c =
    walks_same _ c.args.sheet.now c.edit_characters.new.sheet c.args.values.now _ _ (ap (λ text. characters text ∷ []) c.deref.ensures.value ∙ ap (λ d. descriptor_of d ∷ []) (sym c.in-Characters.is)) c.edit_characters.ensures

pub returns-in-Skip : goal.returns-in-Skip
returns-in-Skip c =
    walks_same _ c.args.sheet.now c.edit_skip.new.sheet c.args.values.now _ _ (ap (λ d. descriptor_of d ∷ []) (sym c.in-Skip.is)) c.edit_skip.ensures

pub returns-in-Slash : goal.returns-in-Slash
returns-in-Slash c =
    walks_same _ c.args.sheet.now c.edit_slash.new.sheet c.args.values.now _ _ (ap (λ d. descriptor_of d ∷ []) (sym c.in-Slash.is)) c.edit_slash.ensures

pub returns-in-Colon : goal.returns-in-Colon
returns-in-Colon c =
    walks_same _ c.args.sheet.now c.edit_colon.new.sheet c.args.values.now _ _ (ap (λ d. descriptor_of d ∷ []) (sym c.in-Colon.is)) c.edit_colon.ensures

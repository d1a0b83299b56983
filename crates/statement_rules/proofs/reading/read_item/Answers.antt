use Rattle.std.proofs.Common.{◌≡◌, refl, sym, ap, subst, ◌∙◌}
use Rattle.std.specs.Prelude.{IfOk}
use Rattle.meaning.specs.Formats.{descriptors_of}
use Rattle.meaning.specs.LabelRules.{is_label_at}
use Rattle.meaning.specs.Syntax.{shape_tree}
use Rattle.meaning.specs.Trees.{item_tree}
use Rattle.format_edit.specs.Constants.{stands_in}
use Rattle.rule_passes.proofs.Answering.{on_ok_then}
use Rattle.statement_rules.specs.FormatLabels.{is_unread}
use Rattle.statement_rules.specs.FormatsFound.{AddsFormat, AddsTexts, format_text, texts_of_shape}
use Rattle.statement_rules.proofs.Found.{format_more, other_more}
use Rattle.statement_rules.proofs.reading.read_item.Goals as goal

pub returns-in-Some-clause-kept : goal.returns-in-Some-clause-kept
returns-in-Some-clause-kept c =
    let old = c.args.formats.now.by_label in
    let new = c.read_labelled.new.formats in
    let labels = c.label_in-label.ensures.label in
    let text = c.in-Some.text.now in
    on_ok_then _ _ c.read_labelled.result c.read_labelled.ensures.kept (λ added before held.
    format_more before (item_tree c.args.item.now) c.args.formats.now record { by_label = new; texts = c.args.formats.now.texts } held text (c.in-Some.ensures ∙ ap (λ s. format_text (shape_tree s)) c.deref.ensures) (λ s big. ap (λ l. is_label_at l s) (sym labels) ∙ c.label_in-label.ensures.small s big) (subst (λ l. AddsFormat l (descriptors_of text) old new) labels added) (λ t. refl))

pub returns-in-None-clause-told : goal.returns-in-None-clause-told
returns-in-None-clause-told c = λ before held.
    subst (λ s. IfOk c.read_shape.result (λ b. b ≡ is_unread (shape_tree s))) c.deref-in-None.ensures (c.read_shape.ensures.told (stands_in before) held.constants)

pub returns-in-None-clause-kept : goal.returns-in-None-clause-kept
returns-in-None-clause-kept c =
    let old = c.args.formats.now.texts in
    let new = c.read_shape.new.texts in
    on_ok_then _ _ c.read_shape.result c.read_shape.ensures.kept (λ added before held.
    other_more before (item_tree c.args.item.now) c.args.formats.now record { by_label = c.args.formats.now.by_label; texts = new } held (c.in-None.ensures ∙ ap (λ s. format_text (shape_tree s)) c.deref.ensures) (λ s. refl) (subst (λ s. AddsTexts (texts_of_shape s) old new) c.deref-in-None.ensures added))

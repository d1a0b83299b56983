use Rattle.std.proofs.Common.{rules, ◌≡◌, ◌∙◌, ap, ap₂, true}
use Rattle.clap.specs.Words.{App, app_of, with_rule}
use Rattle.clap.specs.Simple.{app_of_fields}
use Rattle.std.proofs.lemmas.Result.{IfOk-weaker}
use Rattle.command_line.specs.Command.{versioned}
use Rattle.command_line.proofs.reading.command.Goals as goal

pub returns : goal.returns
returns c =
    let version : app_of c.version.result ≡ versioned =
    ap app_of_fields c.version.ensures ∙ ap (λ (a : App). record a { top = record a.top { has_version = true } }) c.new.ensures.app in
    let with_first = c.in_ok-arg.ensures.shape (search rules) ∙ ap₂ with_rule version c.number.ensures.rule in
    let with_second = c.in_ok-arg-2.ensures.shape (search rules) ∙ ap₂ with_rule with_first c.number-2.ensures.rule in
    let with_third = c.in_ok-arg-3.ensures.shape (search rules) ∙ ap₂ with_rule with_second c.number-3.ensures.rule in
    let with_fourth = c.in_ok-arg-4.ensures.shape (search rules) ∙ ap₂ with_rule with_third c.number-4.ensures.rule in
    let with_fifth = c.in_ok-arg-5.ensures.shape (search rules) ∙ ap₂ with_rule with_fourth c.word.ensures.rule in
    let with_sixth = c.in_ok-arg-6.ensures.shape (search rules) ∙ ap₂ with_rule with_fifth c.word-2.ensures.rule in
    let with_seventh = c.in_ok-arg-7.ensures.shape (search rules) ∙ ap₂ with_rule with_sixth c.flag.ensures.rule in
    let with_eighth = c.in_ok-arg-8.ensures.shape (search rules) ∙ ap₂ with_rule with_seventh c.flag-2.ensures.rule in
    let with_ninth = c.in_ok-arg-9.ensures.shape (search rules) ∙ ap₂ with_rule with_eighth c.flag-3.ensures.rule in
    let with_tenth = c.in_ok-arg-10.ensures.shape (search rules) ∙ ap₂ with_rule with_ninth c.flag-4.ensures.rule in
    IfOk-weaker c.arg-11.result _ _ (λ r h. h.shape (search rules) ∙ ap₂ with_rule with_tenth c.files.ensures.rule) c.arg-11.ensures

use Rattle.std.proofs.Common.{◌≡◌, sym, subst}
use Rattle.std.specs.Prelude.{IfOk, is_none}
use Rattle.meaning.specs.Formats.{format_in, undoubled}
use Rattle.meaning.specs.Syntax.{format_tree}
use Rattle.statement_rules.specs.FormatLabels.{is_unread_source}
use Rattle.statement_rules.proofs.reading.read_source.Goals as goal

pub returns-in-Constant-clause-told : goal.returns-in-Constant-clause-told
returns-in-Constant-clause-told c = λ these held.
    let r = c.read_text.result in
    let told = subst (λ t. IfOk r (λ b. b ≡ is_none (format_in (undoubled t)))) c.deref.ensures.value (c.read_text.ensures.told these held) in
    subst (λ s. IfOk r (λ b. b ≡ is_unread_source (format_tree s))) (sym c.in-Constant.is) told

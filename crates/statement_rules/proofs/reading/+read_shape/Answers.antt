use Rattle.std.proofs.Common.{◌≡◌, sym, subst}
use Rattle.std.specs.Prelude.{IfOk}
use Rattle.meaning.specs.Syntax.{shape_tree}
use Rattle.statement_rules.specs.FormatLabels.{is_unread}
use Rattle.statement_rules.proofs.reading.+read_shape.Goals as goal

pub returns-in-Write-clause-told : goal.returns-in-Write-clause-told
returns-in-Write-clause-told t c = λ these held.
    subst (λ s. IfOk c.read_source.result (λ b. b ≡ is_unread (shape_tree s))) (sym c.in-Write.is) (c.read_source.ensures.told these held)

pub returns-in-Print-clause-told : goal.returns-in-Print-clause-told
returns-in-Print-clause-told t c = λ these held.
    subst (λ s. IfOk c.read_source-in-Print.result (λ b. b ≡ is_unread (shape_tree s))) (sym c.in-Print.is) (c.read_source-in-Print.ensures.told these held)

pub returns-in-LogicalIf-clause-told : goal.returns-in-LogicalIf-clause-told
returns-in-LogicalIf-clause-told t c = λ these held.
    let told = subst (λ s. IfOk c.read_shape.result (λ b. b ≡ is_unread (shape_tree s))) c.deref-in-LogicalIf.ensures (c.read_shape.ensures.told these held) in
    subst (λ s. IfOk c.read_shape.result (λ b. b ≡ is_unread (shape_tree s))) (sym c.in-LogicalIf.is) told

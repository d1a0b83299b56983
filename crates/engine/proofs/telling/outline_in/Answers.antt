use Rattle.std.proofs.Common.{inl, subst}
use Rattle.std.proofs.lemmas.Result.{IfOk-weaker}
use Rattle.meaning.specs.declared.syntax.Tree.{Tree}
use Rattle.cell_names.specs.Cells.{are_named}
use Rattle.engine.specs.Told.{IsOutline}
use Rattle.engine.proofs.telling.outline_in.Goals as goal

pub returns-in-Ok : goal.returns-in-Ok
returns-in-Ok c =
    IfOk-weaker c.outline_of-outline.result _ _
    (λ o h. inl (c.in-Ok.program, c.in-Ok.ensures, subst (λ (t : Tree). IsOutline t (are_named o.names.items) o.statements.items) c.tree.ensures.tree h)) c.outline_of-outline.ensures

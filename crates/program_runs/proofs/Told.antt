-- What is told of statements, and what is kept of them.
use Rattle.std.proofs.Common.{◌≡◌, List, Option, Some, None, sym, subst, ◌∙◌}
use Rattle.std.specs.Prelude.{IsTrue, not}
use Rattle.std.specs.Borrow.{Bor}
use Rattle.std.proofs.lemmas.Bool.{false≢true}
use Rattle.meaning.specs.declared.syntax.Tree.{Tree}
use Rattle.meaning.specs.Syntax.{ExprTree, FormatTree, ListItemsTree, ShapeTree, logical_if}
use Rattle.label_targets.specs.Quiet.{output_in}
use Rattle.postfix.specs.declared.code.Code.{Code}
use Rattle.program.specs.declared.action.Action.{Action}
use Rattle.program.specs.declared.action.ListCodes.{ListCodes}
use Rattle.program.specs.Acts.{Acts}
use Rattle.program.specs.Asked.{ConditionalIs, is_logical_if}
use Rattle.program.specs.Codes.{IsCode}
use Rattle.program.specs.Items.{AreItems, AreItemsOf}
use Rattle.program_runs.specs.Conditions.{AreSomeParts}

-- of a statement that writes this list
pub items_told : (t : Tree) (s : ShapeTree) (source : FormatTree) (list : ListItemsTree) → Some (source, list) ≡ output_in s → (codes : ListCodes) → AreItemsOf t (output_in s) codes → AreItems t list codes
items_told t s source list is codes are = subst (λ o. AreItemsOf t o codes) (sym is) are

-- of a logical IF with this condition and this statement
pub parts_told : (t : Tree) (x : ShapeTree) (e : ExprTree) (s : ShapeTree) → x ≡ logical_if e s → (o : Option (Bor Code × Bor Action)) → ConditionalIs t x o → AreSomeParts t e s o
parts_told t x e s is (Some p) d =
    let two = sym d.is ∙ is in
    let same_condition : d.condition ≡ e = cc in
    let same_statement : d.statement ≡ s = cc in
    (subst (λ z. IsCode t z p.0.now) same_condition d.code, subst (Acts t p.1.now) same_statement d.under)
parts_told t x e s is None none = absurd (false≢true (subst (λ y. IsTrue (not (is_logical_if y))) is none))

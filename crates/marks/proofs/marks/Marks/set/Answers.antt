use Rattle.std.proofs.Common.{◌≡◌, ap, sym, subst, ◌∙◌}
use Rattle.std.specs.FinSet as set
use Rattle.marks.specs.Words.{tells}
use Rattle.marks.proofs.Words.{insert_by, told_again}
use Rattle.marks.proofs.marks.Marks.set.Goals as goal

-- the cell was told already
pub returns-then-is_told-clause-ok : goal.returns-then-is_told-clause-ok
returns-then-is_told-clause-ok c =
    let ws = c.self.inside.words.items in
    let told = ap (λ w. tells w c.args.cell.0) (sym c.deref.ensures.value) ∙ sym c.is_told.ensures ∙ c.if-is_told.true in
    subst (λ s. s ≡ set.insert s c.args.cell.0) c.self.view_is (insert_by ws ws c.args.cell.0 (told_again ws c.args.cell.0 told))

-- One turn of the loop over operators.
use Rattle.std.proofs.Common.{◌≡◌, ℕ, ◌+◌, ◌-◌, ◌<◌, true, suc, Option, Some, refl, sym, ◌∙◌, arith}
use Rattle.meaning.specs.declared.syntax.Operator.{Operator}
use Rattle.meaning.specs.Syntax.{ExprTree, binary}
use Rattle.meaning.specs.Spelling.{level, right_least}
use Rattle.meaning.specs.Reading.{Text, Reader, either, ◌>>=◌, may_follow, operator_at, operations_at}

pub turn : (rec : ℕ → Reader ExprTree) (n i least : ℕ) (left : ExprTree) (t : Text) (o : Operator) (u : Text) (right : ExprTree) (behind : Text) (new : ExprTree) (total : Option (ExprTree × Text))
    → operations_at rec (n - i) least left t ≡ total → i < n → Some (o, u) ≡ operator_at t → true ≡ may_follow least left o → (k : ℕ) → k ≡ right_least (level o) → rec k u ≡ Some (right, behind)
    → new ≡ binary o left right → operations_at rec (n - (i + 1)) least new behind ≡ total
unfolding operations_at either ◌>>=◌
turn rec n i least left t o u right behind new total so_far lt found follows k is_level read made =
    let turns : n - i ≡ suc (n - (i + 1)) = omega arith in
    let read' : rec (right_least (level o)) u ≡ Some (right, behind) = rw (← is_level) read in
    let one : operations_at rec (n - i) least left t ≡ operations_at rec (n - (i + 1)) least (binary o left right) behind = rw (turns, ← found, ← follows, read') refl in
    rw made (sym one ∙ so_far)

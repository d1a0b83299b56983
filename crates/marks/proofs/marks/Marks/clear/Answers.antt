use Rattle.std.proofs.Common.{arith, ◌≡◌, ℕ, true, subst, length}
use Rattle.marks.specs.Words.{AreBehind, tells}
use Rattle.marks.proofs.Words.{none_left, set_of_none}
use Rattle.marks.proofs.marks.Marks.clear.Goals as goal

pub clear_by-requires : goal.clear_by-requires
clear_by-requires c =
    let short = c.self.invariant.short in
    let few = c.self.invariant.few in
    let value = c.deref.ensures.len in
    omega arith

none : (c : goal.After-fill) (q : ℕ) → tells c.clear_by.new.words.items q ≡ true → ⊥
none c =
    let old = c.self.inside.words.items in
    let new = c.clear_by.new.words.items in
    none_left old new c.self.inside.groups.items c.self.invariant (subst (λ gs. AreBehind old new gs (length gs)) c.deref.ensures.value c.clear_by.ensures.left)

pub invariant_of-self : goal.invariant_of-self
invariant_of-self c =
    let words = c.clear_by.ensures.len in
    let groups = c.fill.ensures.len in
    let short = c.self.invariant.short in
    let few = c.self.invariant.few in
    record { told = λ q told. absurd (none c q told); short = omega arith; few = omega arith }

pub returns : goal.returns
returns c = set_of_none c.clear_by.new.words.items (none c)

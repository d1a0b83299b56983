use Rattle.std.proofs.Common.{arith, ◌≡◌, ap, sym, subst, ◌∙◌}
use Rattle.marks.specs.Cells.{Share}
use Rattle.marks.specs.Words.{IsSummed, set_of}
use Rattle.marks.proofs.Words.{share_is}
use Rattle.marks.proofs.marks.Marks.meets.Goals as goal

pub meet_by-requires : goal.meet_by-requires
meet_by-requires c =
    let short = c.self.invariant.short in
    let few = c.self.invariant.few in
    let value = c.deref-3.ensures.len in
    omega arith

pub returns : goal.returns
returns c =
    let a = c.deref.result.now in
    let b = c.deref-2.result.now in
    let mine : IsSummed a c.deref-3.result.now = subst (λ ws. IsSummed ws c.deref-3.result.now) (sym c.deref.ensures.value) (subst (λ gs. IsSummed c.self.inside.words.items gs) (sym c.deref-3.ensures.value) c.self.invariant) in
    let others : IsSummed b c.deref-4.result.now = subst (λ ws. IsSummed ws c.deref-4.result.now) (sym c.deref-2.ensures.value) (subst (λ gs. IsSummed c.other.inside.words.items gs) (sym c.deref-4.ensures.value) c.other.invariant) in
    let same = share_is a b c.deref-3.result.now c.deref-4.result.now c.meet_by.ensures.words mine others in
    let s : set_of a ≡ c.args.self.now = ap set_of c.deref.ensures.value ∙ c.self.view_is in
    let t : set_of b ≡ c.args.other.now = ap set_of c.deref-2.ensures.value ∙ c.other.view_is in (
      λ h. subst (λ u. Share u c.args.other.now) s (subst (λ v. Share (set_of a) v) t (same.0 (c.meet_by.ensures.met.0 h))),
      λ h. c.meet_by.ensures.met.1 (same.1 (subst (λ u. Share u (set_of b)) (sym s) (subst (λ v. Share c.args.self.now v) (sym t) h))),
    )

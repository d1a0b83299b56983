use Rattle.std.proofs.Common.{true, ◌≡◌, arith, ap, sym, ◌∙◌, ◌/◌}
use Rattle.std.specs.FinSet as set
use Rattle.marks.proofs.Words.{insert_by, told_again, told_put}
use Rattle.marks.specs.Words.{tells}
use Rattle.marks.proofs.marks.Marks.set_at_hand.Goals as goal

pub invariant_of-self : goal.invariant_of-self
invariant_of-self c =
    let ws = c.self.inside.words.items in
    let gs = c.self.inside.groups.items in
    let k = c.args.cell.0 in
    let there : tells gs (k / 512) ≡ true = ap (λ l. tells l (k / 512)) (sym c.deref.ensures.value) ∙ sym c.is_told.ensures ∙ c.if-is_told.true in
    let len = c.put.ensures.len in
    let short = c.self.invariant.short in
    let few = c.self.invariant.few in
    record {
      told = told_put ws c.put.new.words.items gs gs k c.put.ensures.told (told_again gs (k / 512) there) c.self.invariant.told;
      short = omega arith;
      few = omega arith;
    }

pub returns-then-is_told-clause-yes : goal.returns-then-is_told-clause-yes
returns-then-is_told-clause-yes c =
    λ _. insert_by c.self.inside.words.items c.put.new.words.items c.args.cell.0 c.put.ensures.told ∙ ap (λ s. set.insert s c.args.cell.0) c.self.view_is

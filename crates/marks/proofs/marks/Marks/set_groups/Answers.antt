use Rattle.std.proofs.Common.{rules, arith, sym, ◌∙◌, ◌+◌, ◌/◌, ◌^◌, length}
use Rattle.marks.proofs.Runs.{more_by_run, told_run}
use Rattle.marks.proofs.Words.{same_by}
use Rattle.marks.proofs.marks.Marks.set_groups.Goals as goal

pub invariant_of-self : goal.invariant_of-self
invariant_of-self c =
    let longer = c.grow_to.ensures.longer in
    let short = c.self.invariant.short in
    let few = c.self.invariant.few in
    let ordered = c.if-from-to.false in
    record { told = λ q h. c.self.invariant.told q (sym (c.grow_to.ensures.same q) ∙ h); short = omega arith; few = (let n = c.grow_to.ensures.most (2 ^ 58) (omega arith) (omega arith) in omega arith) }

pub returns-in_err-grow_to-clause-err : goal.returns-in_err-grow_to-clause-err
returns-in_err-grow_to-clause-err c =
    let same = same_by c.self.inside.words.items c.grow_to.new.words.items c.grow_to.ensures.same ∙ c.self.view_is in
    search (rules, same)

pub invariant_of-self-in_err-grow_to-2 : goal.invariant_of-self-in_err-grow_to-2
invariant_of-self-in_err-grow_to-2 c =
    let long = c.in_ok-grow_to.ensures.long in
    let longer = c.grow_to.ensures.longer in
    let short = c.self.invariant.short in
    let few = c.self.invariant.few in
    let ordered = c.if-from-to.false in
    let most = c.grow_to-2.ensures.most (length c.grow_to.new.words.items / 512 + 1) (omega arith) (omega arith) in
    record {
      told = λ q h. c.grow_to-2.ensures.same (q / 512) ∙ c.self.invariant.told q (sym (c.grow_to.ensures.same q) ∙ h);
      short = omega arith;
      few = (let n = c.grow_to.ensures.most (2 ^ 58) (omega arith) (omega arith) in omega arith);
    }

pub returns-in_err-grow_to-2-clause-err : goal.returns-in_err-grow_to-2-clause-err
returns-in_err-grow_to-2-clause-err c =
    let same = same_by c.self.inside.words.items c.grow_to.new.words.items c.grow_to.ensures.same ∙ c.self.view_is in
    search (rules, same)

pub invariant_of-self-2 : goal.invariant_of-self-2
invariant_of-self-2 c =
    let long = c.in_ok-grow_to.ensures.long in
    let longer = c.grow_to.ensures.longer in
    let short = c.self.invariant.short in
    let few = c.self.invariant.few in
    let ordered = c.if-from-to.false in
    let most = c.grow_to-2.ensures.most (length c.grow_to.new.words.items / 512 + 1) (omega arith) (omega arith) in
    let words = c.fill_in.ensures.len in
    let groups = c.raise_groups.ensures.len in
    record {
      told = told_run c.grow_to.new.words.items c.fill_in.new.words.items c.args.from c.args.to c.fill_in.ensures.told c.grow_to-2.new.words.items c.raise_groups.new.groups.items c.raise_groups.ensures.told (λ q h. c.grow_to-2.ensures.same (q / 512) ∙ c.self.invariant.told q (sym (c.grow_to.ensures.same q) ∙ h));
      short = omega arith;
      few = (let n = c.grow_to.ensures.most (2 ^ 58) (omega arith) (omega arith) in omega arith);
    }

pub returns-clause-ok : goal.returns-clause-ok
returns-clause-ok c =
    more_by_run c.grow_to.new.words.items c.fill_in.new.words.items c.args.from c.args.to c.fill_in.ensures.told c.args.self.now c.self.inside.words.items c.grow_to.ensures.same c.self.view_is

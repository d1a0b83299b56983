use Rattle.std.proofs.Common.{ap, sym, ◌∙◌, arith}
use Rattle.marks.specs.Words.{tells}
use Rattle.marks.proofs.Words.{has_by}
use Rattle.marks.proofs.marks.Marks.words.Goals as goal

pub returns-clause-told : goal.returns-clause-told
returns-clause-told c = λ q. has_by c.self.inside.words.items c.args.self.now c.self.view_is q ∙ ap (λ ws. tells ws q) (sym c.deref.ensures.value)

pub returns-clause-few : goal.returns-clause-few
returns-clause-few c = let few = c.self.invariant.few in let same = c.deref.ensures.len in omega arith

use Rattle.std.proofs.Common.{refl, subst}
use Rattle.program.specs.Acts.{Acts}
use Rattle.program.specs.Codes.{IsTarget}
use Rattle.evaluator.proofs.Parted.{begins_variable, begins_element}
use Rattle.evaluator.proofs.statement.assignment_part.Goals as goal

pub returns-in-Variable-clause-begins : goal.returns-in-Variable-clause-begins
returns-in-Variable-clause-begins c = λ t s line acts.
    let x = subst (λ a. Acts t a s) c.in-Assign.is acts in
    begins_variable t line s x.name x.subscripts x.value x.is x.executable c.in-Variable.cell c.in-Assign.code (subst (λ y. IsTarget t x.name x.subscripts y) c.in-Variable.is x.place) x.code

pub returns-in-Element-clause-begins : goal.returns-in-Element-clause-begins
returns-in-Element-clause-begins c = λ t s line acts.
    let x = subst (λ a. Acts t a s) c.in-Assign.is acts in
    begins_element t line s x.name x.subscripts x.value x.is x.executable c.in-Element.place c.in-Assign.code (subst (λ y. IsTarget t x.name x.subscripts y) c.in-Element.is x.place) x.code _ refl

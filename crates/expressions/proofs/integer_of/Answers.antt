use Rattle.std.proofs.Common.{sym, ap, ◌∙◌, rules}
use Rattle.std.specs.Prelude.{FitsSigned}
use Rattle.std.specs.Int.{w32}
use Rattle.std.proofs.lemmas.Int.{to_z-of_z}
use Rattle.expressions.proofs.Exact.{outcome, outcome-exact}
use Rattle.expressions.proofs.integer_of.Goals as goal

pub returns-in-Some : goal.returns-in-Some
returns-in-Some c =
    λ z h. let f : FitsSigned w32 c.in-Some.x = search rules in
    rw (to_z-of_z w32 c.in-Some.x f) (ap outcome (sym c.in-Some.is) ∙ outcome-exact c.args.exact z h)

pub returns-in-None : goal.returns-in-None
returns-in-None c = λ z h. ap outcome (sym c.in-None.is) ∙ outcome-exact c.args.exact z h

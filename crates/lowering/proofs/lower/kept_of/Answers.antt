use Rattle.std.proofs.Common.{◌≡◌, sym, subst}
use Rattle.std.proofs.lemmas.Result.{IfOk-weaker}
use Rattle.program.specs.Kept.{AreFunctions}
use Rattle.lowering.proofs.lower.kept_of.Goals as goal

pub returns-in-Ok-clause-functions : goal.returns-in-Ok-clause-functions
returns-in-Ok-clause-functions c =
    let t = c.args.program.now in
    IfOk-weaker c.with_lists.result (λ k. k.functions ≡ c.in_ok-functions.functions) (λ k. AreFunctions t k.functions.items)
    (λ k same. subst (λ v. AreFunctions t v.items) (sym same) c.in_ok-functions.ensures)
    c.with_lists.ensures.functions

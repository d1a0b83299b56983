use Rattle.std.proofs.Common.{subst}
use Rattle.expressions.specs.Names.{IsFunction}
use Rattle.storage.specs.Checked.{names_in}
use Rattle.storage.proofs.program.CheckedProgramNumbering.function.Goals as goal

pub returns : goal.returns
returns c =
    subst (λ t. IsFunction (names_in t).definitions c.args.name.now c.function_in.result) c.self.view_is c.function_in.ensures

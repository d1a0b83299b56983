use Rattle.std.proofs.Common.{subst}
use Rattle.expressions.specs.Names.{IsArray}
use Rattle.storage.specs.Checked.{names_in, numbers_in, count_in}
use Rattle.storage.proofs.program.CheckedProgramNumbering.array.Goals as goal

pub returns : goal.returns
returns c =
    subst (λ t. IsArray (names_in t) (numbers_in t) (count_in t) c.args.name.now c.array_in.result) c.self.view_is c.array_in.ensures

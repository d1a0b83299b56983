use Rattle.std.proofs.Common.{subst}
use Rattle.expressions.specs.Names.{IsNamed}
use Rattle.storage.specs.Checked.{names_in, numbers_in, count_in}
use Rattle.storage.proofs.program.CheckedProgramNumbering.named.Goals as goal

pub returns : goal.returns
returns c =
    subst (λ t. IsNamed (names_in t) (numbers_in t) (count_in t) c.args.name.now c.named_in.result) c.self.view_is c.named_in.ensures

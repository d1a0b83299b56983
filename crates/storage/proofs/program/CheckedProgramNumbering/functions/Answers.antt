use Rattle.std.proofs.Common.{◌≡◌, length, subst}
use Rattle.storage.specs.Checked.{names_in}
use Rattle.storage.proofs.program.CheckedProgramNumbering.functions.Goals as goal

pub returns : goal.returns
returns c =
    subst (λ t. c.self.inside.parts.function_count ≡ length (names_in t).definitions) c.self.view_is c.self.invariant.counted

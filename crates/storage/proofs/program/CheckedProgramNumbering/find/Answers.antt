use Rattle.std.proofs.Common.{subst}
use Rattle.storage.specs.Whereabouts.{IsPlace, where_in}
use Rattle.storage.proofs.program.CheckedProgramNumbering.find.Goals as goal

pub returns : goal.returns
returns c =
    let at = subst (λ t. IsPlace (where_in t c.args.name.now) c.find_in.result) c.self.view_is c.find_in.ensures in
    record { left = at.dimensions; behind = at.cells; limited = at.limited; few = at.few }

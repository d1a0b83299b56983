use Rattle.std.proofs.Common.{FitsSigned, ◌∙◌, rules, sym}
use Rattle.std.specs.Int.{w32}
use Rattle.std.proofs.lemmas.Int.{to_z-of_z}
use Rattle.array_store.proofs.Wholes.{known_is}
use Rattle.whole_runs.proofs.Advancing.{variable_there}
use Rattle.whole_runs.proofs.trips.variable_whole.Goals as goal

pub returns : goal.returns
returns c = λ n is.
    let x = c.read.result in
    let fits : FitsSigned w32 x = search rules in
    variable_there c.args.program.now n c.args.cell c.args.cells.now x is.is (known_is c.args.cells.now c.args.cell x c.read.ensures) ∙ sym (to_z-of_z w32 x fits)

use Rattle.std.proofs.Common.{rules, refl, ◌≤◌}
use Rattle.compiler.proofs.Room.{fits_alone}
use Rattle.compiler.proofs.code.finished.Goals as goal

pub new-requires-clause-fits : goal.new-requires-clause-fits
new-requires-clause-fits c =
    let few : c.args.needs ≤ 1024 = search rules in
    fits_alone c.args.instructions.now c.args.instructions.now c.args.needs 1024 refl c.requires few

pub new-requires-clause-low : goal.new-requires-clause-low
new-requires-clause-low c =
    λ t. fits_alone c.args.instructions.now c.args.instructions.now c.args.needs 8 refl c.requires (search rules)

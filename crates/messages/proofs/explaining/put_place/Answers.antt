use Rattle.std.specs.Prelude.{codes, decimal, ◌++◌}
use Rattle.messages.proofs.Told.{told_then}
use Rattle.messages.proofs.explaining.put_place.Goals as goal

pub returns : goal.returns
returns g c =
    let line = decimal c.args.place.line in
    let column = decimal c.args.place.column in
    let numbered = told_then (codes ":") line _ _ _ c.put.ensures c.put_number.ensures in
    let placed = told_then (codes ":" ++ line ++ codes ":") column _ _ _ (told_then (codes ":" ++ line) (codes ":") _ _ _ numbered c.put-2.ensures) c.put_number-2.ensures in
    told_then (codes ":" ++ line ++ codes ":" ++ column) (codes ": ") _ _ _ placed c.put-3.ensures

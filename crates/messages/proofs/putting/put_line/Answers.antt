use Rattle.std.proofs.Common.{◌++◌, map, codes}
use Rattle.messages.specs.Shown.{shown}
use Rattle.messages.proofs.Told.{told_then}
use Rattle.messages.proofs.putting.put_line.Goals as goal

pub returns : goal.returns
returns g c =
    told_then (codes "  ") (map shown c.args.line.now ++ codes "\n") _ _ _ c.put.ensures
    (told_then (map shown c.args.line.now) (codes "\n") _ _ _ c.put_shown.ensures c.put-2.ensures)

use Rattle.declarations.proofs.KnownBy.{known_put}
use Rattle.declarations.proofs.known.put_name.Goals as goal

pub returns-clause-known : goal.returns-clause-known
returns-clause-known c =
    known_put c.args.table.now.values c.insert.new.self c.in_ok-own.own c.args.name.now c.args.value c.in_ok-own.ensures.items c.in_ok-insert.ensures.entries

use Rattle.name_maps.proofs.NameSets.{name_there, name_new}
use Rattle.name_maps.proofs.sets.add_name.Goals as goal

pub returns-in_ok-insert : goal.returns-in_ok-insert
returns-in_ok-insert c =
    name_new c.args.names.now.keys _ c.in_ok-own.own c.args.name.now c.contains.result c.contains.ensures c.if-not-contains.true c.in_ok-own.ensures.items c.in_ok-insert.ensures.keys

pub returns-else-not-contains : goal.returns-else-not-contains
returns-else-not-contains c =
    name_there c.args.names.now.keys c.args.name.now c.contains.result c.contains.ensures c.if-not-contains.false

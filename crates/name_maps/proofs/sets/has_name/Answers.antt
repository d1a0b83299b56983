use Rattle.std.proofs.Common.{◌∙◌}
use Rattle.name_maps.proofs.NameSets.{texts_any}
use Rattle.name_maps.proofs.sets.has_name.Goals as goal

pub returns : goal.returns
returns c = c.contains.ensures ∙ texts_any c.args.name.now c.args.names.now.keys

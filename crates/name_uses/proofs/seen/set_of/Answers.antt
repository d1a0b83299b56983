use Rattle.name_uses.specs.Held.{names_at}
use Rattle.name_uses.proofs.Seeing.{made_of}
use Rattle.name_uses.proofs.seen.set_of.Goals as goal

pub returns : goal.returns
returns c = made_of c.new-set.result.keys c.add_names.new.seen.keys (names_at c.args.names.now) c.new-set.ensures.empty c.in_ok-add_names.ensures

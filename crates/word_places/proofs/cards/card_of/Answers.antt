use Rattle.std.proofs.Common.{refl}
use Rattle.source_columns.proofs.Fields.{card_made}
use Rattle.word_places.proofs.cards.card_of.Goals as goal

pub returns : goal.returns
returns c = card_made c.put.new.columns c.args.line.now _ c.min.result c.put.ensures refl c.min.ensures

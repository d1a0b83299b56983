use Rattle.name_maps.proofs.FirstKept.{kept_new}
use Rattle.statement_rules.proofs.Found.{texts_more}
use Rattle.statement_rules.proofs.reading.keep_text.Goals as goal

pub returns : goal.returns
returns c =
    texts_more c.args.texts.now c.args.text.now c.insert.new.self c.args.format c.requires.read (λ n. kept_new c.args.texts.now c.insert.new.self c.in_ok-own.own c.args.text.now c.args.format n c.in_ok-own.ensures.items c.requires.unknown c.in_ok-insert.ensures.entries)

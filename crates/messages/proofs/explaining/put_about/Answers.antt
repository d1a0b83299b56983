use Rattle.std.specs.Prelude.{◌++◌}
use Rattle.std.proofs.Common.{subst}
use Rattle.messages.specs.Explained.{headline, is_shown, lines_at, sentence_behind}
use Rattle.messages.specs.Shown.{IsTold}
use Rattle.messages.proofs.Told.{told_then}
use Rattle.messages.proofs.explaining.put_about.Goals as goal

pub returns : goal.returns
returns g c =
    let matter = c.args.matter in
    let head = headline c.args.file.now matter c.args.about.place c.args.about.text.now in
    let lines = lines_at (is_shown matter.rule) c.args.source.now c.args.about.place in
    let shows = subst (λ b. IsTold (lines_at b c.args.source.now c.args.about.place) (g.S.Sink.told c.put_headline.new.err) (g.S.Sink.told c.put_lines.new.err)) c.is_shown.ensures c.put_lines.ensures in
    told_then (head ++ lines) (sentence_behind matter c.args.about.text.now) _ _ _ (told_then head lines _ _ _ c.put_headline.ensures shows) c.put_sentence.ensures

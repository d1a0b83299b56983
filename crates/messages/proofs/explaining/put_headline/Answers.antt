use Rattle.std.specs.Prelude.{codes, map, ◌++◌}
use Rattle.std.proofs.Common.{subst}
use Rattle.messages.specs.Explained.{place_text, said}
use Rattle.messages.specs.Shown.{IsTold, shown}
use Rattle.messages.proofs.Told.{told_then}
use Rattle.messages.proofs.explaining.put_headline.Goals as goal

pub returns : goal.returns
returns g c =
    let told = g.S.Sink.told in
    let file = map shown c.args.file.now in
    let place = place_text c.args.about.place in
    let name = c.args.matter.name.now in
    let text = map shown (said c.args.matter c.args.about.text.now) in
    let files = subst (λ l. IsTold (map shown l) (told c.args.err.now) (told c.put_shown.new.err)) c.as_bytes.ensures.value c.put_shown.ensures in
    let texts = subst (λ l. IsTold (map shown l) (told c.put-2.new.err) (told c.put_shown-2.new.err)) c.said.ensures c.put_shown-2.ensures in
    let placed = told_then file place _ _ _ files c.put_place.ensures in
    let named = told_then (file ++ place ++ name) (codes ": ") _ _ _ (told_then (file ++ place) name _ _ _ placed c.put.ensures) c.put-2.ensures in
    told_then (file ++ place ++ name ++ codes ": " ++ text) (codes "\n") _ _ _ (told_then (file ++ place ++ name ++ codes ": ") text _ _ _ named texts) c.put-3.ensures

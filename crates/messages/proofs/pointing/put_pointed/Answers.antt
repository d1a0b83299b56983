use Rattle.std.specs.Prelude.{◌++◌}
use Rattle.std.proofs.Common.{subst, sym, ap}
use Rattle.meaning.specs.Lines.{lines_of}
use Rattle.source_columns.specs.Excerpts.{continued, with_continued}
use Rattle.messages.specs.Pointed.{behind_mark, mark_line, numbered, pointed}
use Rattle.messages.specs.Shown.{IsTold}
use Rattle.messages.proofs.Told.{told_then}
use Rattle.messages.proofs.pointing.put_pointed.Goals as goal

pub returns-in-Some : goal.returns-in-Some
returns-in-Some g c =
    let place = c.args.place in
    let line = numbered place.line c.in-Some.first.now in
    let mark = mark_line place.column in
    let behind = behind_mark (continued (lines_of c.in-Some.behind.now)) in
    subst (λ l. IsTold l (g.S.Sink.told c.args.err.now) (g.S.Sink.told c.put_behind.new.err)) (sym (ap (λ ls. pointed place (with_continued ls)) c.in-Some.ensures))
    (told_then (line ++ mark) behind _ _ _ (told_then line mark _ _ _ c.put_numbered.ensures c.put_mark.ensures) c.put_behind.ensures)

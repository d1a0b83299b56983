use Rattle.std.proofs.Common.{sym, ap, ◌∙◌}
use Rattle.meaning.specs.Formats.{quoted_at}
use Rattle.format_edit.proofs.Front.{behind_is}
use Rattle.format_edit.proofs.Quoted.{with_text, one_more, character_shorter, no_end, ended}
use Rattle.format_edit.proofs.reading.quoted_at.Goals as goal

pub loop-character-smaller : goal.loop-character-smaller
loop-character-smaller c = character_shorter c.loop-character.rest.now c.in-Some.character c.in-Some.next.now (sym c.in-Some.ensures)

pub loop-character-preserved : goal.loop-character-preserved
loop-character-preserved c =
    ap (λ cs. with_text cs (quoted_at c.in-Some.next.now)) c.in_ok-push.ensures.items
    ∙ one_more c.loop-character.characters.items c.loop-character.rest.now _ c.loop-character.invariant c.in-Some.character c.in-Some.next.now (sym c.in-Some.ensures)

pub returns-in-None : goal.returns-in-None
returns-in-None c =
    no_end c.loop-character.characters.items c.loop-character.rest.now _ c.loop-character.invariant (sym c.in_default.ensures) (sym c.in-None.ensures)

pub returns : goal.returns
returns c =
    ended c.loop-character.characters.items c.loop-character.rest.now _ c.loop-character.invariant c.in-Some-behind.rest.now (sym c.in_default.ensures) (behind_is 39 c.loop-character.rest.now c.in-Some-behind.rest.now (sym c.in-Some-behind.ensures))

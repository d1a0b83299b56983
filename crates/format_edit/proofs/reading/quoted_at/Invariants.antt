use Rattle.std.proofs.Common.{◌≡◌, length}
use Rattle.meaning.specs.Formats.{quoted_at}
use Rattle.format_edit.proofs.Quoted.{with_text}
use Rattle.format_edit.proofs.reading.quoted_at.Given as goal

abbrev pub invariant-loop-character : goal.invariant-loop-character
invariant-loop-character l = with_text l.characters.items (quoted_at l.rest) ≡ quoted_at l.text

abbrev pub decreases-loop-character : goal.decreases-loop-character
decreases-loop-character l = length l.rest

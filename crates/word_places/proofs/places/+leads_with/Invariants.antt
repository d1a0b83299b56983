use Rattle.std.proofs.Common.{length}
use Rattle.word_places.proofs.places.+leads_with.Given as goal

abbrev pub decreases-leads_with : goal.decreases-leads_with
decreases-leads_with l = length l.word.now

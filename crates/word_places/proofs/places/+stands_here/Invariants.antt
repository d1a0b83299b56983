use Rattle.std.proofs.Common.{length}
use Rattle.word_places.proofs.places.+stands_here.Given as goal

abbrev pub decreases-stands_here : goal.decreases-stands_here
decreases-stands_here l = length l.word.now

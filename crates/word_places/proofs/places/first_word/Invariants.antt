use Rattle.std.proofs.Common.{◌≡◌, [], take, drop}
use Rattle.word_places.specs.Columns.{first_word, scan_start}
use Rattle.word_places.proofs.places.first_word.Given as goal

abbrev pub invariant-loop-place : goal.invariant-loop-place
invariant-loop-place l =
    first_word l.word l.scan (take l.place l.marks) (drop l.place l.marks) ≡ first_word l.word scan_start [] l.marks

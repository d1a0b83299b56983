-- What a WRITE statement makes from a point on: the bytes so far, the blanks that are due before
-- the next byte of the record, and the course that is ahead (ANSI X3.9-1978, 13.5.3: a move to the
-- right writes nothing by itself).
use Rattle.std.specs.Prelude.{ℕ, ◌+◌, List, [], ◌∷◌, ◌++◌, replicate, Option, Some, None, Result}
use Rattle.std.specs.Borrow.{Bor}
use Rattle.meaning.specs.declared.ending.Value.{Value}
use Rattle.meaning.specs.Characters.{blank}
use Rattle.meaning.specs.Formats.{Descriptor}
use Rattle.meaning.specs.Records.{Course, stops, clashes, puts, moves, ends, course, is_clash}
use Rattle.meaning.specs.Records.{outcome_of}
use Rattle.format_edit.specs.declared.sheet.Sheet.{Sheet}
use Rattle.format_edit.specs.Edits.{Made, Follows}
use Rattle.format_edit.specs.declared.fault.EditFault.{EditFault}

-- the bytes of a course, where blanks are due before the next one of its record
unfoldable pub bytes_of : ℕ → Course → List ℕ
bytes_of gap stops = 10 ∷ []
bytes_of gap clashes = 10 ∷ []
bytes_of gap (puts [] c) = bytes_of gap c
bytes_of gap (puts (b ∷ bs) c) = replicate gap blank ++ ((b ∷ bs) ++ bytes_of 0 c)
bytes_of gap (moves n c) = bytes_of (gap + n) c
bytes_of gap (ends c) = 10 ∷ bytes_of 0 c

-- what is made where these are the bytes so far, so many blanks are due and this course is ahead
unfoldable pub ahead_of : List ℕ → ℕ → Course → Made
ahead_of bytes gap c = outcome_of (is_clash c) (bytes ++ bytes_of gap c)

abbrev pub ahead : Sheet → Course → Made
ahead s c = ahead_of s.bytes.items s.gap c

-- what is ahead where these values are left, or where editing has stopped
abbrev pub onward : Option (Bor (List Value)) → List Descriptor → Course
onward None more = stops
onward (Some left) more = course more left.now

-- descriptors are walked from one sheet to another: what is made by them and any that come behind
-- is what is made of the values that are left by those behind
abbrev pub Walks : Result (Option (Bor (List Value))) EditFault → Sheet → List Value →
    List Descriptor → Sheet → Type 0
Walks result old vs ds new =
    (more : List Descriptor) →
    Follows result (ahead old (course (ds ++ more) vs)) (λ left. ahead new (onward left more))

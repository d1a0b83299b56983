-- What is told of a unit or a format, as text.
use Rattle.std.specs.Prelude.{ℕ, ◌++◌, ◌==◌, List, length, codes, if◌then◌else◌, Option, Some}
use Rattle.std.specs.Prelude.{None}
use Rattle.output_culprits.specs.Told.{Told, bad_unit, missing, unlabelled, piece, no_format}
use Rattle.type_culprits.specs.Words.{word_in}

-- what it is about, as it stands in the statement
abbrev pub word_of : Told → Option (List ℕ)
word_of (bad_unit e) = Some (word_in e)
word_of (missing label) = Some label
word_of unlabelled = None
word_of (piece text) = Some text
word_of (no_format text) = Some (codes "'")

abbrev pub label_text : List ℕ → List ℕ → List ℕ
label_text label text = codes "label " ++ label ++ text

abbrev pub piece_text : List ℕ → List ℕ
piece_text text =
    if length text == 0 then codes "an item is missing beside a comma"
    else text ++ codes " can't stand in a format"

abbrev pub constant_text : List ℕ → List ℕ
constant_text text = codes "'" ++ text ++ codes "' is no format"

abbrev pub told_text : Told → List ℕ
told_text (bad_unit e) = codes "the unit is neither 6 nor *"
told_text (missing label) = label_text label (codes " is that of no FORMAT statement")
told_text unlabelled = codes "the FORMAT statement has no label"
told_text (piece text) = piece_text text
told_text (no_format text) = constant_text text

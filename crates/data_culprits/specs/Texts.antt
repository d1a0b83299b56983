-- What is told of a DATA statement, as text.
use Rattle.std.specs.Prelude.{ℕ, ℤ, ◌++◌, List, codes, Option, Some, None}
use Rattle.std.specs.Fmt.{signed_decimal}
use Rattle.meaning.specs.declared.ending.Value.{Value}
use Rattle.meaning.specs.declared.ending.Value.TheVariants as values
use Rattle.number_culprits.specs.Texts.{told_text as number_text, word_of as number_word}
use Rattle.type_culprits.specs.Words.{truth_word}
use Rattle.data_culprits.specs.Told.{Told, no_item, numbered, outside, unmatched, no_counter}
use Rattle.data_culprits.specs.Told.{no_trips, no_count, mistyped, unserved, given_again, left_over}

-- what it is about, as it stands in the statement
abbrev pub word_of : Told → Option (List ℕ)
word_of (no_item word) = Some word
word_of (numbered k) = Some (number_word k)
word_of (outside n s lower upper) = Some n
word_of (unmatched n) = Some n
word_of (no_counter n) = Some n
word_of (no_trips n) = Some n
word_of (no_count text) = Some text
word_of (mistyped n v) = Some n
word_of (unserved n) = Some n
word_of (given_again n) = Some n
word_of left_over = None

abbrev pub outside_text : ℤ → ℤ → ℤ → List ℕ
outside_text s lower upper = (codes " has the subscript " ++ (signed_decimal s ++ codes ", and bounds ")) ++ (signed_decimal lower ++ (codes " TO " ++ signed_decimal upper))

-- a value of another type
abbrev pub mistyped_text : Value → List ℕ
mistyped_text (values.Int z) = codes " is LOGICAL, and " ++ (signed_decimal z ++ codes " is INTEGER")
mistyped_text (values.Bool b) = codes " is INTEGER, and " ++ (truth_word b ++ codes " is LOGICAL")

abbrev pub told_text : Told → List ℕ
told_text (no_item word) = word ++ codes " can't be given a value by DATA"
told_text (numbered k) = number_text k
told_text (outside n s lower upper) = n ++ outside_text s lower upper
told_text (unmatched n) = n ++ codes " has another number of subscripts than dimensions"
told_text (no_counter n) = n ++ codes " is no INTEGER variable"
told_text (no_trips n) = n ++ codes " gets no value from its limits"
told_text (no_count text) = text ++ codes " is no repeat count"
told_text (mistyped n v) = n ++ mistyped_text v
told_text (unserved n) = codes "no value is left for " ++ n
told_text (given_again n) = n ++ codes " is given a value twice"
told_text left_over = codes "a value is left over"

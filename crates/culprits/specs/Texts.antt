-- What is told of a broken rule, as text.
use Rattle.std.specs.Prelude.{ℕ, ◌++◌, Bool, true, false, List, codes, ◌==◌, if◌then◌else◌, Option}
use Rattle.std.specs.Prelude.{Some, None}
use Rattle.std.specs.Fmt.{decimal}
use Rattle.culprits.specs.declared.culprit.Wanted.{Wanted}
use Rattle.culprits.specs.declared.culprit.Wanted.TheVariants.{Subscripts, Arguments}
use Rattle.culprits.specs.declared.culprit.Wanted.TheVariants.{ArgumentsOrMore}
use Rattle.culprits.specs.Told.{Told, repeated, real, miscounted, mistyped, numbered, sized}
use Rattle.culprits.specs.Told.{disputed, misgiven, misformed, defined, unknown, listed}
use Rattle.function_culprits.specs.Texts.{told_text as function_text, word_of as function_word}
use Rattle.number_culprits.specs.Texts.{told_text as number_text, word_of as number_word}
use Rattle.data_culprits.specs.Texts.{told_text as data_text, word_of as data_word}
use Rattle.output_culprits.specs.Texts.{told_text as output_text, word_of as output_word}
use Rattle.type_culprits.specs.Texts.{told_text as type_text, word_of as type_word}
use Rattle.size_culprits.specs.Texts.{told_text as size_text, word_of as size_word}
use Rattle.name_culprits.specs.Texts.{told_text as name_text, word_of as name_word}
use Rattle.list_culprits.specs.Texts.{told_text as list_text, word_of as list_word}

-- why a name has no type of the profile (4.1.2; IMPLICIT NONE is own)
abbrev pub untyped_text : Bool → List ℕ
untyped_text true = codes " has no type, and IMPLICIT NONE wants one"
untyped_text false = codes " is REAL, by its first letter"

abbrev pub wanted_text : Wanted → List ℕ
wanted_text (Subscripts n) =
    decimal n ++ (if n == 1 then codes " subscript" else codes " subscripts")
wanted_text (Arguments n) = decimal n ++ (if n == 1 then codes " argument" else codes " arguments")
wanted_text (ArgumentsOrMore n) = decimal n ++ codes " arguments or more"

abbrev pub given_text : Option ℕ → List ℕ
given_text None = codes "none"
given_text (Some n) = decimal n

abbrev pub miscounted_text : List ℕ → Wanted → Option ℕ → List ℕ
miscounted_text name wanted given = name ++ codes " wants " ++ wanted_text wanted ++ codes " and has " ++ given_text given

abbrev pub told_text : Told → List ℕ
told_text (repeated label line) = codes "label " ++ decimal label ++ codes " stands at line " ++ decimal line ++ codes " too"
told_text (real name without_letters) = name ++ untyped_text without_letters
told_text (miscounted name wanted given) = miscounted_text name wanted given
told_text (mistyped k) = type_text k
told_text (numbered k) = number_text k
told_text (sized k) = size_text k
told_text (disputed k) = name_text k
told_text (misgiven k) = data_text k
told_text (misformed k) = output_text k
told_text (defined k) = function_text k
told_text (unknown name) = name ++ codes " is neither an array nor a function"
told_text (listed k) = list_text k

-- what it is about, as it stands in the statement, if it is about such a thing
abbrev pub word_of : Told → Option (List ℕ)
word_of (repeated label line) = None
word_of (real name without_letters) = Some name
word_of (miscounted name wanted given) = Some name
word_of (mistyped k) = Some (type_word k)
word_of (numbered k) = Some (number_word k)
word_of (sized k) = Some (size_word k)
word_of (disputed k) = name_word k
word_of (misgiven k) = data_word k
word_of (misformed k) = output_word k
word_of (defined k) = Some (function_word k)
word_of (unknown name) = Some name
word_of (listed k) = Some (list_word k)

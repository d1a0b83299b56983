-- What is told of a name, as text.
use Rattle.std.specs.Prelude.{ℕ, ◌++◌, List, codes, Option, Some, None}
use Rattle.std.specs.Fmt.{decimal}
use Rattle.name_culprits.specs.declared.culprit.Giving.{Giving}
use Rattle.name_culprits.specs.declared.culprit.Giving.TheVariants as givings
use Rattle.name_culprits.specs.Told.{Told, given, bare, referenced, assigned, rival}

abbrev pub giving_text : Giving → List ℕ
giving_text givings.Typed = codes " gets a type at line "
giving_text givings.Bounds = codes " gets bounds at line "
giving_text givings.Value = codes " gets a value at line "
giving_text givings.Expression = codes " is a statement function of line "
giving_text givings.Either = codes " is an array or a statement function of line "

abbrev pub given_text : List ℕ → Giving → ℕ → List ℕ
given_text name giving line = name ++ giving_text giving ++ decimal line

abbrev pub rival_text : ℕ → List ℕ
rival_text line = codes "line " ++ (decimal line ++ codes " has IMPLICIT too")

abbrev pub told_text : Told → List ℕ
told_text (given name giving line) = given_text name giving line
told_text (bare name) = name ++ codes " is a statement function and wants parentheses"
told_text (referenced name) = name ++ codes " is a constant and has no parentheses"
told_text (assigned name) = name ++ codes " is a constant and can't be set"
told_text (rival line) = rival_text line

-- the name that it is about, if it is about one
abbrev pub word_of : Told → Option (List ℕ)
word_of (given name giving line) = Some name
word_of (bare name) = Some name
word_of (referenced name) = Some name
word_of (assigned name) = Some name
word_of (rival line) = None

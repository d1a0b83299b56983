-- What is told of an array, as text.
use Rattle.std.specs.Prelude.{ℕ, ℤ, ◌++◌, ◌==◌, List, [], codes, if◌then◌else◌}
use Rattle.std.specs.Fmt.{decimal, signed_decimal}
use Rattle.size_culprits.specs.Told.{Told, dimensioned, reversed, crowded}

-- the name of the array
abbrev pub word_of : Told → List ℕ
word_of (dimensioned name number) = name
word_of (reversed name lower upper) = name
word_of (crowded name own before) = name

-- a number of elements; 2^64-1 stands for each greater one, too
abbrev pub count_text : ℕ → List ℕ
count_text n = if n == 18446744073709551615 then codes "more than 18446744073709551614" else decimal n

abbrev pub before_text : ℕ → List ℕ
before_text n = if n == 0 then [] else codes " with " ++ count_text n ++ codes " before it"

abbrev pub elements_text : ℕ → ℕ → List ℕ
elements_text own before = codes " has " ++ count_text own ++ codes " elements" ++ before_text before ++ codes ", 16777216 at most"

abbrev pub reversed_text : ℤ → ℤ → List ℕ
reversed_text lower upper = codes " has bounds " ++ (signed_decimal lower ++ (codes " TO " ++ signed_decimal upper))

-- what is said of it
abbrev pub said_of : Told → List ℕ
said_of (dimensioned name number) = codes " has " ++ decimal number ++ codes " dimensions, 7 at most"
said_of (reversed name lower upper) = reversed_text lower upper
said_of (crowded name own before) = elements_text own before

abbrev pub told_text : Told → List ℕ
told_text k = word_of k ++ said_of k

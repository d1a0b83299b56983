-- What is told of a number or a constant expression, as text.
use Rattle.std.specs.Prelude.{ℕ, ◌++◌, List, codes}
use Rattle.number_culprits.specs.Told.{Told, great, unknown, referenced, faulty, unbounded}

-- the constant or the name that it is about
abbrev pub word_of : Told → List ℕ
word_of (great digits) = digits
word_of (unknown name) = name
word_of (referenced name) = name
word_of (faulty name) = name
word_of (unbounded name) = name

-- what is said of it
abbrev pub said_of : Told → List ℕ
said_of (great digits) = codes " is more than 2147483647"
said_of (unknown name) = codes " is no constant here"
said_of (referenced name) = codes " has parentheses, and a constant has none"
said_of (faulty name) = codes " has an expression without a value"
said_of (unbounded name) = codes " has a bound without a value"

abbrev pub told_text : Told → List ℕ
told_text k = word_of k ++ said_of k

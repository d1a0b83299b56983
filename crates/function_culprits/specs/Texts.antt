-- What is told of a statement function, as text.
use Rattle.std.specs.Prelude.{ℕ, ◌++◌, List, codes}
use Rattle.function_culprits.specs.Told.{Told, late, conditional, crowded, unnamed, doubled, called}
use Rattle.function_culprits.specs.Told.{recursive, later}

-- the name that it is about
abbrev pub word_of : Told → List ℕ
word_of (late name) = name
word_of (conditional name) = name
word_of (crowded name) = name
word_of (unnamed name) = name
word_of (doubled name) = name
word_of (called name) = name
word_of (recursive name) = name
word_of (later name) = name

-- what is said of it
abbrev pub said_of : Told → List ℕ
said_of (late name) = codes " is no array, and it is too late for a statement function"
said_of (conditional name) = codes " is no array, and a logical IF has no statement function"
said_of (crowded name) = codes " has more than 16 dummy arguments"
said_of (unnamed name) = codes " has a dummy argument that is no name"
said_of (doubled name) = codes " is a dummy argument twice"
said_of (called name) = codes " is a dummy argument and no function"
said_of (recursive name) = codes " refers to itself"
said_of (later name) = codes " is a statement function that stands later"

abbrev pub told_text : Told → List ℕ
told_text k = word_of k ++ said_of k

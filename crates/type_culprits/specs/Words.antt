-- How expressions are named in messages.
use Rattle.std.specs.Prelude.{ℕ, Bool, true, false, List, codes}
use Rattle.meaning.specs.Syntax.{ExprTree, number, truth, name, signed, negated, binary, paren}
use Rattle.meaning.specs.Syntax.{element, call}

abbrev pub truth_word : Bool → List ℕ
truth_word true = codes ".TRUE."
truth_word false = codes ".FALSE."

-- the first constant or name in an expression
abbrev pub word_in : ExprTree → List ℕ
word_in (number digits) = digits
word_in (truth value) = truth_word value
word_in (name letters) = letters
word_in (signed sign e) = word_in e
word_in (negated e) = word_in e
word_in (binary operator a b) = word_in a
word_in (paren e) = word_in e
word_in (element letters es) = letters
word_in (call letters) = letters

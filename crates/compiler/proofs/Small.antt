-- An expression has no more parts than its spelling has characters.
use Rattle.std.proofs.Common.{◌≤◌, ◌+◌, ℕ, true, false, List, [], ◌∷◌, ◌++◌, length, length-append, sym, arith}
use Rattle.std.specs.Prelude.{IsTrue}
use Rattle.std.proofs.lemmas.Bool.{true≢false}
use Rattle.meaning.specs.declared.syntax.Operator.{Operator}
use Rattle.meaning.specs.declared.syntax.Operator.TheVariants as operators
use Rattle.meaning.specs.Characters.{is_name, is_number}
use Rattle.meaning.specs.Spelling.{AreWellSubscripts, IsWellExpr, operator_text, spell_behind, spell_expr, spell_exprs}
use Rattle.meaning.specs.Syntax.{ExprTree, number, truth, name, signed, negated, binary, paren, element, call, ExprsTree, no_exprs, exprs}
use Rattle.expressions.specs.Glossaries.{weight, weights}

some_digit : (digits : List ℕ) → IsTrue (is_number digits) → 1 ≤ length digits
some_digit [] h = absurd (true≢false (sym h))
some_digit (d ∷ ds) h = omega arith

some_letter : (letters : List ℕ) → IsTrue (is_name letters) → 1 ≤ length letters
some_letter [] h = absurd (true≢false (sym h))
some_letter (c ∷ cs) h = omega arith

some_operator : (o : Operator) → 1 ≤ length (operator_text o)
some_operator operators.Power = omega arith
some_operator operators.Multiply = omega arith
some_operator operators.Divide = omega arith
some_operator operators.Add = omega arith
some_operator operators.Subtract = omega arith
some_operator operators.Less = omega arith
some_operator operators.LessOrEqual = omega arith
some_operator operators.Equal = omega arith
some_operator operators.NotEqual = omega arith
some_operator operators.GreaterOrEqual = omega arith
some_operator operators.Greater = omega arith
some_operator operators.And = omega arith
some_operator operators.Or = omega arith
some_operator operators.Equivalent = omega arith
some_operator operators.NotEquivalent = omega arith

mutual
  pub fewer_parts : (e : ExprTree) → IsWellExpr e → weight e ≤ length (spell_expr e)
  fewer_parts (number digits) h = some_digit digits h
  fewer_parts (truth true) h = omega arith
  fewer_parts (truth false) h = omega arith
  fewer_parts (name letters) h = some_letter letters h
  fewer_parts (signed sign e) h = let x = fewer_parts e h.0 in omega arith
  fewer_parts (negated e) h = let x = fewer_parts e h.0 in omega arith
  fewer_parts (binary o a b) h =
      let x = fewer_parts a h.0 in
      let y = fewer_parts b h.1.0 in
      let z = some_operator o in
      let whole = length-append (spell_expr a) (operator_text o ++ spell_expr b) in
      let behind = length-append (operator_text o) (spell_expr b) in
      omega arith
  fewer_parts (paren e) h =
      let x = fewer_parts e h in let whole = length-append (spell_expr e) (41 ∷ []) in omega arith
  fewer_parts (element letters es) h =
      let x = fewer_listed es h.1.1 in
      let whole = length-append letters (40 ∷ (spell_exprs es ++ 41 ∷ [])) in
      let inside = length-append (spell_exprs es) (41 ∷ []) in
      omega arith
  fewer_parts (call letters) h = let x = some_letter letters h in let whole = length-append letters (40 ∷ (41 ∷ [])) in omega arith

  -- the first of several has no comma before it
  fewer_listed : (es : ExprsTree) → AreWellSubscripts es → weights es ≤ 1 + length (spell_exprs es)
  fewer_listed no_exprs h = omega arith
  fewer_listed (exprs e es) h =
      let x = fewer_parts e h.0 in
      let y = fewer_behind es h.1 in
      let whole = length-append (spell_expr e) (spell_behind es) in
      omega arith

  fewer_behind : (es : ExprsTree) → AreWellSubscripts es → weights es ≤ length (spell_behind es)
  fewer_behind no_exprs h = omega arith
  fewer_behind (exprs e es) h =
      let x = fewer_parts e h.0 in
      let y = fewer_behind es h.1 in
      let whole = length-append (spell_expr e) (spell_behind es) in
      omega arith

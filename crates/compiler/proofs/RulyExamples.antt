-- Examples of expressions that keep the rules, and of others that don't (ANSI X3.9-1978, 5.4, 15.3 and 15.4).
use Rattle.std.proofs.Common.{◌≡◌, ◌<◌, ℕ, zero, suc, true, List, [], ◌∷◌, pos, Some, None, refl, subst, arith}
use Rattle.std.specs.Prelude.{codes, slice_get, length}
use Rattle.meaning.specs.Arrays.{Dimension}
use Rattle.meaning.specs.Intrinsics.{takes, absolute, remainder}
use Rattle.meaning.specs.Scopes.{Definition, calls_by}
use Rattle.meaning.specs.Syntax.{number, name, binary, element, ExprsTree, no_exprs, exprs}
use Rattle.meaning.specs.declared.syntax.Operator.TheVariants.{Add}
use Rattle.expressions.specs.Glossaries.{nothing_named}
use Rattle.code_laws.specs.Meant.{Setting}
use Rattle.compiler.specs.Ruly.{IsCall, IsRuly, Keeps}

abbrev alone : Setting
alone = record { names = nothing_named; numbers = λ n ss. None; cells = 1; dummies = []; callable = 0 }

abbrev one : ExprsTree
one = exprs (number (codes "1")) no_exprs

-- ABS(1) takes one argument
abs_of_one : IsCall alone (codes "ABS") 1
unfolding calls_by
abs_of_one =
    record {
      some = refl;
      defined = λ at d lt found named. absurd (omega arith);
      intrinsic = λ others f is. let same : absolute ≡ f = cc in subst (λ g. takes g 1 ≡ true) same refl;
    }

-- ABS(1)+2147483647
sum_is_ruly : IsRuly alone (binary Add (element (codes "ABS") one) (number (codes "2147483647")))
sum_is_ruly =
    record {
      keeps = ((abs_of_one, (omega arith, tt)), omega arith);
      small = record { light = omega arith; dummies = omega arith; cells = omega arith };
    }

-- 2147483648
too_great : Keeps alone (number (codes "2147483648")) → ⊥
too_great lt = omega (arith, lt)

-- MOD(1)
mod_of_one : IsCall alone (codes "MOD") 1 → ⊥
unfolding calls_by
mod_of_one call = absurd (let false_is_true : takes remainder 1 ≡ true = call.intrinsic (λ at d lt. absurd (omega (arith, lt))) remainder refl in cc)

-- where F(I)=I is a statement function
abbrev identity : Definition
identity = record { name = codes "F"; dummies = name (codes "I") ∷ []; body = name (codes "I") }

abbrev with_function : Setting
with_function = record alone { names = record nothing_named { definitions = identity ∷ [] }; callable = 1 }

only : (at : ℕ) (d : Definition) → at < 1 → slice_get (identity ∷ []) at ≡ Some d → length d.dummies ≡ 1
only zero d lt found = let same : identity ≡ d = cc in subst (λ x. length x.dummies ≡ 1) same refl
only (suc at) d lt found = absurd (omega arith)

-- F(1)
f_of_one : IsCall with_function (codes "F") 1
unfolding calls_by
f_of_one =
    record {
      some = refl;
      defined = λ at d lt found named. only at d lt found;
      intrinsic = λ others f is. absurd cc;
    }

-- F, where it may not be called
f_of_none : IsCall (record with_function { callable = 0 }) (codes "F") 1 → ⊥
unfolding calls_by
f_of_none call = absurd (let some = call.some in cc)

-- where INTEGER A(3) is an array
abbrev vector : List Dimension
vector = record { lower = pos 1; upper = pos 3 } ∷ []

abbrev with_array : Setting
with_array = record alone { names = record nothing_named { arrays = λ n. Some vector }; numbers = λ n ss. Some 0 }

-- A(1)
a_of_one : Keeps with_array (element (codes "A") one)
a_of_one = (record { many = refl; subscripts = pos 1 ∷ []; cell = 0; found = refl }, (omega arith, tt))

-- A(1,1)
a_of_two : Keeps with_array (element (codes "A") (exprs (number (codes "1")) one)) → ⊥
a_of_two keeps = let many = keeps.0.many in omega (arith, many)

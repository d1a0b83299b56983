-- The value of an expression, or its leftmost fault (ANSI X3.9-1978, 5.4, 6.1 and 6.6). Results are
-- exact; one outside the range of INTEGER is the fault F2, a zero divisor F1, and a subscript
-- outside its bounds F3 (own).
use Rattle.std.specs.Prelude.{ℕ, suc, ◌^◌, ℤ, pos, negsuc, ◌+ℤ◌, ◌-ℤ◌, ◌*ℤ◌, neg_ℤ, int_div, Bool}
use Rattle.std.specs.Prelude.{true, false, not, ◌&&◌, ◌||◌, ◌==◌, List, [], ◌∷◌, nat_lt}
use Rattle.std.specs.Prelude.{if◌then◌else◌, Result, Ok, Err, Option, Some, None}
use Rattle.std.specs.Int.{int_pow}
use Rattle.std.specs.Int.Signed.{lt_z}
use Rattle.std.specs.Ordering.{int_eq}
use Rattle.meaning.specs.declared.ending.FaultKind.{FaultKind}
use Rattle.meaning.specs.declared.ending.FaultKind.TheVariants.{F1, F2, F3, F6}
use Rattle.meaning.specs.declared.ending.Value.{Value}
use Rattle.meaning.specs.declared.ending.Value.TheVariants as values
use Rattle.meaning.specs.declared.syntax.Sign.{Sign}
use Rattle.meaning.specs.declared.syntax.Sign.TheVariants as signs
use Rattle.meaning.specs.declared.syntax.Operator.{Operator}
use Rattle.meaning.specs.declared.syntax.Operator.TheVariants as operators
use Rattle.meaning.specs.Characters.{number_of}
use Rattle.meaning.specs.Syntax.{ExprTree, number, truth, name, signed, negated, binary, paren}
use Rattle.meaning.specs.Syntax.{element, call, ExprsTree, no_exprs, exprs}
use Rattle.meaning.specs.declared.syntax.DataType.{DataType}
use Rattle.meaning.specs.declared.syntax.DataType.TheVariants as types
use Rattle.meaning.specs.Arrays.{Dimension, above}
use Rattle.meaning.specs.Types.{Types}
use Rattle.meaning.specs.Maps.{Map}

-- the range of INTEGER, -2147483648 to 2147483647 (own)
abbrev pub is_integer : ℤ → Bool
is_integer (pos n) = nat_lt n (2 ^ 31)
is_integer (negsuc n) = nat_lt n (2 ^ 31)

abbrev pub Valued : Type 0
Valued = Result Value FaultKind

unfoldable pub integer : ℤ → Valued
integer z = if is_integer z then Ok (values.Int z) else Err F2

-- a value as the operand of an arithmetic operator; the rules leave it integers alone
abbrev pub as_integer : Value → ℤ
as_integer (values.Int z) = z
as_integer (values.Bool true) = pos 1
as_integer (values.Bool false) = pos 0

-- what follows a value, or the fault
unfoldable pub and_then : {A B : Type 0} → Result A FaultKind → (A → Result B FaultKind) →
    Result B FaultKind
and_then (Ok x) f = f x
and_then (Err k) f = Err k

infixl 10 ◌>>=◌
abbrev pub ◌>>=◌ : {A B : Type 0} → Result A FaultKind → (A → Result B FaultKind) →
    Result B FaultKind
r >>= f = and_then r f

abbrev pub with_sign : Sign → ℤ → ℤ
with_sign signs.Plus z = z
with_sign signs.Minus z = neg_ℤ z

-- a value as the operand of a logical operator; the rules leave it LOGICAL values alone
abbrev pub as_logical : Value → Bool
as_logical (values.Bool b) = b
as_logical (values.Int z) = not (int_eq z (pos 0))

abbrev pub alike : Bool → Bool → Bool
alike true b = b
alike false b = not b

abbrev pub logical : Bool → Valued
logical b = Ok (values.Bool b)

-- a quotient towards zero (6.1.5)
abbrev pub divided : ℤ → ℤ → Valued
divided x y = if int_eq y (pos 0) then Err F1 else integer (int_div x y)

-- a power; with a negative exponent the quotient of 1 by it (6.1.5). Zero to the power of zero or
-- less is a fault (own)
abbrev pub raised : ℤ → ℤ → Valued
raised x (pos n) = if int_eq x (pos 0) && (n == 0) then Err F6 else integer (int_pow x n)
raised x (negsuc n) =
    if int_eq x (pos 0) then Err F6 else integer (int_div (pos 1) (int_pow x (suc n)))

-- an operator and the values of its operands (6.1, 6.3 and 6.4)
abbrev pub operated : Operator → Value → Value → Valued
operated operators.Add x y = integer (as_integer x +ℤ as_integer y)
operated operators.Subtract x y = integer (as_integer x -ℤ as_integer y)
operated operators.Multiply x y = integer (as_integer x *ℤ as_integer y)
operated operators.Divide x y = divided (as_integer x) (as_integer y)
operated operators.Power x y = raised (as_integer x) (as_integer y)
operated operators.Less x y = logical (lt_z (as_integer x) (as_integer y))
operated operators.LessOrEqual x y = logical (not (lt_z (as_integer y) (as_integer x)))
operated operators.Equal x y = logical (int_eq (as_integer x) (as_integer y))
operated operators.NotEqual x y = logical (not (int_eq (as_integer x) (as_integer y)))
operated operators.GreaterOrEqual x y = logical (not (lt_z (as_integer x) (as_integer y)))
operated operators.Greater x y = logical (lt_z (as_integer y) (as_integer x))
operated operators.And x y = logical (as_logical x && as_logical y)
operated operators.Or x y = logical (as_logical x || as_logical y)
operated operators.Equivalent x y = logical (alike (as_logical x) (as_logical y))
operated operators.NotEquivalent x y = logical (not (alike (as_logical x) (as_logical y)))

-- the value where the left operand decides it; the right one isn't evaluated then (own)
abbrev pub decided : Operator → Value → Option Bool
decided operators.And x = if as_logical x then None else Some false
decided operators.Or x = if as_logical x then Some true else None
decided o x = None

abbrev pub unless_decided : Option Bool → Valued → Valued
unless_decided (Some b) r = logical b
unless_decided None r = r

-- the dimensions of the arrays by their names
abbrev pub Arrays : Type 0
Arrays = List ℕ → Option (List Dimension)

-- the names whose values are known: constants, and the dummies of a statement function in its
-- expression
abbrev pub Known : Type 0
Known = List ℕ → Option Value

-- what the functions that may be called there do with the values of their arguments (15.2)
abbrev pub Calls : Type 0
Calls = List ℕ → Option (List Value → Map → Valued)

-- what names stand for
pub record Scope : Type 0 where
  pub types : Types
  pub arrays : Arrays
  pub known : Known
  pub calls : Calls

abbrev pub dimensions_in : Option (List Dimension) → List Dimension
dimensions_in None = []
dimensions_in (Some ds) = ds

-- a subscript within the bounds of its dimension; where there are no further dimensions the rules
-- leave no subscript
abbrev pub if_above : Option ℕ → ℤ → Result ℤ FaultKind
if_above None s = Err F3
if_above (Some k) s = Ok s

abbrev pub in_first : List Dimension → ℤ → Result ℤ FaultKind
in_first [] s = Ok s
in_first (d ∷ ds) s = if_above (above d s) s

abbrev pub others : List Dimension → List Dimension
others [] = []
others (d ∷ ds) = ds

-- what a variable or an element of this type has, kept as a number: a LOGICAL is true where it
-- isn't 0
abbrev pub typed : Option DataType → ℤ → Valued
typed (Some types.Logical) z = logical (not (int_eq z (pos 0)))
typed k z = integer z

abbrev pub or_known : Option Value → Valued → Valued
or_known (Some v) r = Ok v
or_known None r = r

-- an element of an array, or else what is no array's
abbrev pub by_dimensions : Option (List Dimension) → (List Dimension → Valued) → Valued → Valued
by_dimensions (Some ds) element_of r = element_of ds
by_dimensions None element_of r = r

-- the value of a function; the rules leave no other name with arguments
abbrev pub called : Option (List Value → Map → Valued) → List Value → Map → Valued
called (Some f) vs m = f vs m
called None vs m = Ok (values.Int (pos 0))

unfoldable mutual
  unfolding and_then

  pub value : Scope → ExprTree → Map → Valued
  value s (number digits) m = integer (pos (number_of digits))
  value s (truth b) m = logical b
  value s (name letters) m = or_known (s.known letters) (typed (s.types letters) (m letters []))
  value s (signed sign e) m = value s e m >>= λ x. integer (with_sign sign (as_integer x))
  value s (negated e) m = value s e m >>= λ x. logical (not (as_logical x))
  value s (binary operator a b) m =
      value s a m >>=
      λ x. unless_decided (decided operator x) (value s b m >>= λ y. operated operator x y)
  value s (paren e) m = value s e m
  value s (element letters es) m =
      by_dimensions
      (s.arrays letters) (λ ds. subscripts s ds es m >>=
      λ ss. typed (s.types letters) (m letters ss)) (arguments s es m >>=
      λ vs. called (s.calls letters) vs m)
  value s (call letters) m = called (s.calls letters) [] m

  -- the values of subscripts, each checked against its bounds as soon as it has its value
  pub subscripts : Scope → List Dimension → ExprsTree → Map → Result (List ℤ) FaultKind
  subscripts s ds no_exprs m = Ok []
  subscripts s ds (exprs e es) m =
      value s e m >>= λ x. in_first ds (as_integer x) >>= λ i. subscripts s (others ds) es m >>=
      λ is. Ok (i ∷ is)

  -- the values of arguments, first to last
  pub arguments : Scope → ExprsTree → Map → Result (List Value) FaultKind
  arguments s no_exprs m = Ok []
  arguments s (exprs e es) m = value s e m >>= λ x. arguments s es m >>= λ xs. Ok (x ∷ xs)

-- the values of a list, first to last
unfoldable pub values_of : Scope → List ExprTree → Map → Result (List Value) FaultKind
unfolding and_then
values_of s [] m = Ok []
values_of s (e ∷ es) m = value s e m >>= λ x. values_of s es m >>= λ xs. Ok (x ∷ xs)

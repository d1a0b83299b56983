-- The kinds of values, one form after another.
use Rattle.std.proofs.Common.{◌≡◌, ℕ, suc, ℤ, pos, negsuc, Bool, true, false, List, [], ◌∷◌, map, if◌then◌else◌, Option, Some, None, Result, Ok, Err, refl, sym, ap, subst}
use Rattle.std.specs.Prelude.{not, ◌&&◌, int_div, ◌-ℤ◌, ◌*ℤ◌, ◌==◌}
use Rattle.std.specs.Int.{int_pow}
use Rattle.std.specs.Ordering.{int_eq}
use Rattle.meaning.specs.declared.ending.FaultKind.{FaultKind}
use Rattle.meaning.specs.declared.ending.FaultKind.TheVariants.{F1, F2, F6}
use Rattle.meaning.specs.declared.ending.Value.{Value}
use Rattle.meaning.specs.declared.ending.Value.TheVariants as values
use Rattle.meaning.specs.declared.syntax.DataType.{DataType}
use Rattle.meaning.specs.declared.syntax.DataType.TheVariants as types
use Rattle.meaning.specs.declared.syntax.Operator.{Operator}
use Rattle.meaning.specs.declared.syntax.Operator.TheVariants as operators
use Rattle.meaning.specs.Characters.{number_of}
use Rattle.meaning.specs.Syntax.{ExprTree, number, truth, name, signed, negated, binary, paren, element, call, ExprsTree, no_exprs}
use Rattle.meaning.specs.Arrays.{Dimension}
use Rattle.meaning.specs.Intrinsics.{Intrinsic, absolute, remainder, greatest, least, sign_transfer, positive_difference, intrinsic_named, intrinsic_value, of_two, of_more}
use Rattle.meaning.specs.Maps.{Map}
use Rattle.meaning.specs.Scopes.{intrinsic_call}
use Rattle.meaning.specs.Values.{Scope, Valued, value, subscripts, arguments, called, and_then, integer, is_integer, as_integer, as_logical, logical, with_sign, typed, operated, raised, decided, unless_decided}
use Rattle.expressions.specs.Calls.{call_value}
use Rattle.code_laws.specs.Kinds.{is_truth, HasKind}
use Rattle.compiler.specs.Kinds.{is_arithmetic, is_logical_type}

ok_kind : (w : Value) → HasKind (Ok w) (is_truth w)
ok_kind w v h = let same : w ≡ v = cc in ap is_truth (sym same)

no_kind : (k : FaultKind) (b : Bool) → HasKind (Err k) b
no_kind k b v h = absurd cc

integer_kind : (z : ℤ) → HasKind (integer z) false
unfolding integer
integer_kind z = by (is_integer z)
  where
    by : (b : Bool) → HasKind (if b then Ok (values.Int z) else Err F2) false
    by true v h = ok_kind (values.Int z) v h
    by false v h = no_kind F2 false v h

logical_kind : (b : Bool) → HasKind (logical b) true
logical_kind b v h = ok_kind (values.Bool b) v h

then_kind : {A : Type 0} (r : Result A FaultKind) (f : A → Valued) (b : Bool) → ((x : A) → HasKind (f x) b) → HasKind (and_then r f) b
unfolding and_then
then_kind (Ok x) f b h = h x
then_kind (Err k) f b h = no_kind k b

if_kind : (c : Bool) (k : FaultKind) (z : ℤ) → HasKind (if c then Err k else integer z) false
if_kind true k z = no_kind k false
if_kind false k z = integer_kind z

raised_kind : (x y : ℤ) → HasKind (raised x y) false
raised_kind x (pos n) = if_kind (int_eq x (pos 0) && (n == 0)) F6 (int_pow x n)
raised_kind x (negsuc n) = if_kind (int_eq x (pos 0)) F6 (int_div (pos 1) (int_pow x (suc n)))

operated_kind : (o : Operator) (v w : Value) → HasKind (operated o v w) (not (is_arithmetic o))
operated_kind operators.Power v w = raised_kind (as_integer v) (as_integer w)
operated_kind operators.Multiply v w = integer_kind _
operated_kind operators.Divide v w = if_kind (int_eq (as_integer w) (pos 0)) F1 (int_div (as_integer v) (as_integer w))
operated_kind operators.Add v w = integer_kind _
operated_kind operators.Subtract v w = integer_kind _
operated_kind operators.Less v w = logical_kind _
operated_kind operators.LessOrEqual v w = logical_kind _
operated_kind operators.Equal v w = logical_kind _
operated_kind operators.NotEqual v w = logical_kind _
operated_kind operators.GreaterOrEqual v w = logical_kind _
operated_kind operators.Greater v w = logical_kind _
operated_kind operators.And v w = logical_kind _
operated_kind operators.Or v w = logical_kind _
operated_kind operators.Equivalent v w = logical_kind _
operated_kind operators.NotEquivalent v w = logical_kind _

-- a decided operator's value is a LOGICAL one
unless_kind : (o : Operator) (v : Value) (r : Valued) → HasKind r (not (is_arithmetic o)) → HasKind (unless_decided (decided o v) r) (not (is_arithmetic o))
unless_kind operators.And v r h = by (as_logical v)
  where
    by : (t : Bool) → HasKind (unless_decided (if t then None else Some false) r) true
    by true = h
    by false = logical_kind false
unless_kind operators.Or v r h = by (as_logical v)
  where
    by : (t : Bool) → HasKind (unless_decided (if t then Some true else None) r) true
    by true = logical_kind true
    by false = h
unless_kind operators.Power v r h = h
unless_kind operators.Multiply v r h = h
unless_kind operators.Divide v r h = h
unless_kind operators.Add v r h = h
unless_kind operators.Subtract v r h = h
unless_kind operators.Less v r h = h
unless_kind operators.LessOrEqual v r h = h
unless_kind operators.Equal v r h = h
unless_kind operators.NotEqual v r h = h
unless_kind operators.GreaterOrEqual v r h = h
unless_kind operators.Greater v r h = h
unless_kind operators.Equivalent v r h = h
unless_kind operators.NotEquivalent v r h = h

typed_kind : (o : Option DataType) (z : ℤ) → HasKind (typed o z) (is_logical_type o)
typed_kind (Some types.Logical) z = logical_kind (not (int_eq z (pos 0)))
typed_kind (Some types.Integer) z = integer_kind z
typed_kind None z = integer_kind z

-- ---- intrinsic functions

two_kind : (f : Intrinsic) (a b : ℤ) → HasKind (of_two f a b) false
two_kind absolute a b = integer_kind _
two_kind remainder a b = if_kind (int_eq b (pos 0)) F1 (a -ℤ int_div a b *ℤ b)
two_kind greatest a b = integer_kind _
two_kind least a b = integer_kind _
two_kind sign_transfer a b = integer_kind _
two_kind positive_difference a b = integer_kind _

more_kind : (f : Intrinsic) (a : ℤ) (bs : List ℤ) → HasKind (of_more f a bs) false
more_kind greatest a bs = integer_kind _
more_kind least a bs = integer_kind _
more_kind absolute a [] = two_kind absolute a a
more_kind absolute a (b ∷ bs) = two_kind absolute a b
more_kind remainder a [] = two_kind remainder a a
more_kind remainder a (b ∷ bs) = two_kind remainder a b
more_kind sign_transfer a [] = two_kind sign_transfer a a
more_kind sign_transfer a (b ∷ bs) = two_kind sign_transfer a b
more_kind positive_difference a [] = two_kind positive_difference a a
more_kind positive_difference a (b ∷ bs) = two_kind positive_difference a b

intrinsic_kind : (f : Intrinsic) (xs : List ℤ) → HasKind (intrinsic_value f xs) false
intrinsic_kind f [] = integer_kind (pos 0)
intrinsic_kind f (a ∷ bs) = more_kind f a bs

called_kind : (o : Option Intrinsic) (vs : List Value) (m : Map) → HasKind (called (intrinsic_call o) vs m) false
called_kind None vs m = ok_kind (values.Int (pos 0))
called_kind (Some f) vs m = intrinsic_kind f (map as_integer vs)

-- ---- forms

module _ (s : Scope) (m : Map) where
  pub number_kind : (digits : List ℕ) → HasKind (value s (number digits) m) false
  unfolding value
  number_kind digits = integer_kind (pos (number_of digits))

  pub truth_kind : (b : Bool) → HasKind (value s (truth b) m) true
  unfolding value
  truth_kind b = logical_kind b

  pub signed_kind : (sign : _) (e : ExprTree) → HasKind (value s (signed sign e) m) false
  unfolding value
  signed_kind sign e = then_kind (value s e m) (λ x. integer (with_sign sign (as_integer x))) false (λ x. integer_kind _)

  pub negated_kind : (e : ExprTree) → HasKind (value s (negated e) m) true
  unfolding value
  negated_kind e = then_kind (value s e m) (λ x. logical (not (as_logical x))) true (λ x. logical_kind _)

  pub binary_kind : (o : Operator) (a b : ExprTree) → HasKind (value s (binary o a b) m) (not (is_arithmetic o))
  unfolding value
  binary_kind o a b =
      then_kind (value s a m) (λ x. unless_decided (decided o x) (and_then (value s b m) (λ y. operated o x y))) (not (is_arithmetic o)) (λ x. unless_kind o x (and_then (value s b m) (λ y. operated o x y)) (then_kind (value s b m) (λ y. operated o x y) (not (is_arithmetic o)) (λ y. operated_kind o x y)))

  pub paren_kind : (e : ExprTree) (b : Bool) → HasKind (value s e m) b → HasKind (value s (paren e) m) b
  unfolding value
  paren_kind e b h = h

  pub known_kind : (letters : List ℕ) (w : Value) → s.known letters ≡ Some w → HasKind (value s (name letters) m) (is_truth w)
  unfolding value
  known_kind letters w is = rw is (ok_kind w)

  pub typed_name_kind : (letters : List ℕ) → s.known letters ≡ None → HasKind (value s (name letters) m) (is_logical_type (s.types letters))
  unfolding value
  typed_name_kind letters is = rw is (typed_kind (s.types letters) (m letters []))

  pub element_kind : (letters : List ℕ) (es : ExprsTree) (ds : List Dimension) → s.arrays letters ≡ Some ds → HasKind (value s (element letters es) m) (is_logical_type (s.types letters))
  unfolding value
  element_kind letters es ds is = rw is (then_kind (subscripts s ds es m) (λ ss. typed (s.types letters) (m letters ss)) (is_logical_type (s.types letters)) (λ ss. typed_kind (s.types letters) (m letters ss)))

  pub element_call_kind : (letters : List ℕ) (es : ExprsTree) (b : Bool) → s.arrays letters ≡ None → HasKind (call_value s letters es m) b → HasKind (value s (element letters es) m) b
  unfolding value
  element_call_kind letters es b is h = rw is h

  pub call_kind : (letters : List ℕ) (b : Bool) → HasKind (call_value s letters no_exprs m) b → HasKind (value s (call letters) m) b
  unfolding value arguments and_then
  call_kind letters b h = h

  pub intrinsic_call_kind : (letters : List ℕ) (es : ExprsTree) → s.calls letters ≡ intrinsic_call (intrinsic_named letters) → HasKind (call_value s letters es m) false
  intrinsic_call_kind letters es is =
      then_kind (arguments s es m) (λ vs. called (s.calls letters) vs m) false (λ vs. subst (λ o. HasKind (called o vs m) false) (sym is) (called_kind (intrinsic_named letters) vs m))

  -- of a function whose value has the kind, whatever the arguments are
  pub function_call_kind : (letters : List ℕ) (es : ExprsTree) (f : List Value → Map → Valued) (b : Bool) → s.calls letters ≡ Some f → ((xs : List Value) → arguments s es m ≡ Ok xs → HasKind (f xs m) b) → HasKind (call_value s letters es m) b
  unfolding and_then
  function_call_kind letters es f b is h = by (arguments s es m) refl
    where
      by : (r : Result (List Value) FaultKind) → arguments s es m ≡ r → HasKind (and_then r (λ vs. called (s.calls letters) vs m)) b
      by (Ok xs) are = subst (λ o. HasKind (called o xs m) b) (sym is) (h xs are)
      by (Err k) are = no_kind k b

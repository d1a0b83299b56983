-- The values of expressions, one form after another, and what functions make of their arguments.
use Rattle.std.specs.Prelude.{not}
use Rattle.std.proofs.Common.{◌≡◌, ℕ, ℤ, pos, Bool, List, [], ◌∷◌, map, Some, None, Result, Ok, Err, refl, sym, ap, ◌∙◌}
use Rattle.meaning.specs.declared.ending.FaultKind.{FaultKind}
use Rattle.meaning.specs.declared.ending.Value.{Value}
use Rattle.meaning.specs.declared.ending.Value.TheVariants as values
use Rattle.meaning.specs.declared.syntax.Sign.{Sign}
use Rattle.meaning.specs.declared.syntax.Operator.{Operator}
use Rattle.meaning.specs.Characters.{number_of}
use Rattle.meaning.specs.Intrinsics.{Intrinsic, intrinsic_named}
use Rattle.meaning.specs.Scopes.{intrinsic_call}
use Rattle.meaning.specs.declared.syntax.Expr.{Expr}
use Rattle.meaning.specs.declared.syntax.Exprs.{Exprs}
use Rattle.meaning.specs.Syntax.{ExprTree, number, truth, name, signed, negated, binary, paren, element, call, ExprsTree, no_exprs, exprs, expr_tree, exprs_tree}
use Rattle.meaning.specs.Maps.{Map, start}
use Rattle.meaning.specs.Values.{Scope, Valued, value, arguments, called, typed, or_known, integer, as_integer, as_logical, logical, with_sign, operated, decided, and_then, ◌>>=◌}
use Rattle.expressions.specs.declared.intrinsics.Arguments.{Arguments}
use Rattle.expressions.specs.declared.intrinsics.Arguments.TheVariants as none_yet
use Rattle.expressions.specs.Functions.{value_from}
use Rattle.expressions.specs.Calls.{call_value, value_behind, nothing_behind}

module _ (s : Scope) (m : Map) where
  pub number_is : (digits : List ℕ) (r : Valued) → r ≡ integer (pos (number_of digits)) → value s (number digits) m ≡ r
  unfolding value
  number_is digits r is = sym is

  pub truth_is : (b : Bool) → value s (truth b) m ≡ logical b
  unfolding value
  truth_is b = refl

  pub paren_is : (e : ExprTree) (r : Valued) → value s e m ≡ r → value s (paren e) m ≡ r
  unfolding value
  paren_is e r h = h

  pub signed_is : (sign : Sign) (e : ExprTree) (x : Value) (r : Valued) → value s e m ≡ Ok x → r ≡ integer (with_sign sign (as_integer x)) → value s (signed sign e) m ≡ r
  unfolding value and_then
  signed_is sign e x r h is = rw h (sym is)

  pub signed_fault : (sign : Sign) (e : ExprTree) (k : FaultKind) → value s e m ≡ Err k → value s (signed sign e) m ≡ Err k
  unfolding value and_then
  signed_fault sign e k h = rw h refl

  pub negated_is : (e : ExprTree) (x : Value) (b : Bool) → value s e m ≡ Ok x → b ≡ not (as_logical x) → value s (negated e) m ≡ logical b
  unfolding value and_then
  negated_is e x b h is = rw h (ap logical (sym is))

  pub negated_fault : (e : ExprTree) (k : FaultKind) → value s e m ≡ Err k → value s (negated e) m ≡ Err k
  unfolding value and_then
  negated_fault e k h = rw h refl

  pub binary_is : (operator : Operator) (a b : ExprTree) (x y : Value) (r : Valued) → value s a m ≡ Ok x → decided operator x ≡ None → value s b m ≡ Ok y → r ≡ operated operator x y → value s (binary operator a b) m ≡ r
  unfolding value and_then
  binary_is operator a b x y r h undecided k is = rw h (rw undecided (rw k (sym is)))

  pub decided_is : (operator : Operator) (a b : ExprTree) (x : Value) (t : Bool) → value s a m ≡ Ok x → decided operator x ≡ Some t → value s (binary operator a b) m ≡ logical t
  unfolding value and_then
  decided_is operator a b x t h is = rw h (rw is refl)

  pub left_fault : (operator : Operator) (a b : ExprTree) (k : FaultKind) → value s a m ≡ Err k → value s (binary operator a b) m ≡ Err k
  unfolding value and_then
  left_fault operator a b k h = rw h refl

  pub right_fault : (operator : Operator) (a b : ExprTree) (x : Value) (k : FaultKind) → value s a m ≡ Ok x → decided operator x ≡ None → value s b m ≡ Err k → value s (binary operator a b) m ≡ Err k
  unfolding value and_then
  right_fault operator a b x k h undecided f = rw h (rw undecided (rw f refl))

  pub name_is : (letters : List ℕ) (r : Valued) → m letters [] ≡ pos 0 → or_known (s.known letters) (typed (s.types letters) (pos 0)) ≡ r → value s (name letters) m ≡ r
  unfolding value
  name_is letters r zero is = ap (λ z. or_known (s.known letters) (typed (s.types letters) z)) zero ∙ is

  pub element_called : (letters : List ℕ) (es : ExprsTree) (r : Valued) → s.arrays letters ≡ None → call_value s letters es m ≡ r → value s (element letters es) m ≡ r
  unfolding value
  element_called letters es r none is = rw none is

  pub call_is : (letters : List ℕ) (r : Valued) → call_value s letters no_exprs m ≡ r → value s (call letters) m ≡ r
  unfolding value arguments and_then
  call_is letters r is = is

  -- ---- functions

  pub intrinsic_is : (letters : List ℕ) (es : ExprsTree) (f : Intrinsic) → s.calls letters ≡ intrinsic_call (intrinsic_named letters) → Some f ≡ intrinsic_named letters → value_behind s f none_yet.None es m ≡ call_value s letters es m
  intrinsic_is letters es f calls named =
      ap (λ o. arguments s es m >>= λ vs. called o vs m) (ap intrinsic_call named ∙ sym calls)

  pub nothing_is : (letters : List ℕ) (es : ExprsTree) → s.calls letters ≡ intrinsic_call (intrinsic_named letters) → None ≡ intrinsic_named letters → nothing_behind s es m ≡ call_value s letters es m
  nothing_is letters es calls named =
      ap (λ o. arguments s es m >>= λ vs. called o vs m) (ap intrinsic_call named ∙ sym calls)

  pub behind_end : (f : Intrinsic) (so_far : Arguments) → value_behind s f so_far no_exprs m ≡ value_from f so_far []
  unfolding arguments and_then
  behind_end f so_far = refl

  pub behind_more : (f : Intrinsic) (so_far after : Arguments) (e : ExprTree) (es : ExprsTree) (x : Value) → value s e m ≡ Ok x → ((zs : List ℤ) → value_from f after zs ≡ value_from f so_far (as_integer x ∷ zs)) → value_behind s f after es m ≡ value_behind s f so_far (exprs e es) m
  unfolding arguments and_then
  behind_more f so_far after e es x h one = rw h (regrouped (arguments s es m))
    where
      regrouped : (o : Result (List Value) FaultKind) → (o >>= λ vs. value_from f after (map as_integer vs)) ≡ (o >>= (λ xs. Ok (x ∷ xs)) >>= λ vs. value_from f so_far (map as_integer vs))
      regrouped (Ok vs) = one (map as_integer vs)
      regrouped (Err k) = refl

  pub behind_fault : (f : Intrinsic) (so_far : Arguments) (e : ExprTree) (es : ExprsTree) (k : FaultKind) → value s e m ≡ Err k → value_behind s f so_far (exprs e es) m ≡ Err k
  unfolding arguments and_then
  behind_fault f so_far e es k h = rw h refl

  pub nothing_end : nothing_behind s no_exprs m ≡ Ok (values.Int (pos 0))
  unfolding arguments and_then
  nothing_end = refl

  pub nothing_more : (e : ExprTree) (es : ExprsTree) (x : Value) → value s e m ≡ Ok x → nothing_behind s es m ≡ nothing_behind s (exprs e es) m
  unfolding arguments and_then
  nothing_more e es x h = rw h (regrouped (arguments s es m))
    where
      regrouped : (o : Result (List Value) FaultKind) → (o >>= λ vs. Ok (values.Int (pos 0))) ≡ (o >>= (λ xs. Ok (x ∷ xs)) >>= λ vs. Ok (values.Int (pos 0)))
      regrouped (Ok vs) = refl
      regrouped (Err k) = refl

  pub nothing_fault : (e : ExprTree) (es : ExprsTree) (k : FaultKind) → value s e m ≡ Err k → nothing_behind s (exprs e es) m ≡ Err k
  unfolding arguments and_then
  nothing_fault e es k h = rw h refl

  -- ---- of the forms that the Rust values have

  pub by_form : (e f : Expr) (r o : Valued) → e ≡ f → r ≡ o → value s (expr_tree f) m ≡ o → r ≡ value s (expr_tree e) m
  by_form e f r o is same h = same ∙ sym h ∙ ap (λ x. value s (expr_tree x) m) (sym is)

pub by_list : (found : ExprsTree → Valued) (es fs : Exprs) (r : Valued) → es ≡ fs → r ≡ found (exprs_tree fs) → r ≡ found (exprs_tree es)
by_list found es fs r is h = h ∙ ap (λ x. found (exprs_tree x)) (sym is)

pub starts_at_zero : (letters : List ℕ) (ss : List ℤ) → start letters ss ≡ pos 0
unfolding start
starts_at_zero letters ss = refl

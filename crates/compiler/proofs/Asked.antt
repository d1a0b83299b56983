-- What the functions that ask for kinds answer.
use Rattle.std.proofs.Common.{◌≡◌, ◌≤◌, ℕ, Bool, true, false, List, [], ◌∷◌, ◌++◌, length, map, take, Option, Some, None, sym, ap, subst, ◌∙◌}
use Rattle.std.specs.Prelude.{not}
use Rattle.meaning.specs.declared.ending.Value.{Value}
use Rattle.meaning.specs.declared.syntax.DataType.{DataType}
use Rattle.meaning.specs.declared.syntax.Expr.{Expr}
use Rattle.meaning.specs.declared.syntax.Operator.{Operator}
use Rattle.meaning.specs.declared.syntax.Sign.{Sign}
use Rattle.meaning.specs.Syntax.{ExprTree, number, truth, name, signed, negated, binary, paren, element, call, ExprsTree, no_exprs, exprs, expr_tree, exprs_tree}
use Rattle.meaning.specs.Arrays.{Dimension}
use Rattle.meaning.specs.Maps.{Map}
use Rattle.meaning.specs.Scopes.{listed, calls_by}
use Rattle.meaning.specs.Values.{Scope, value}
use Rattle.expressions.specs.declared.numbering.Function.{Function}
use Rattle.expressions.specs.Calls.{most, IsCallable}
use Rattle.expressions.specs.Glossaries.{Glossary, scope_in, before}
use Rattle.expressions.specs.Names.{definition_by}
use Rattle.expressions.proofs.Calls.{function_of, its_call, dummies_enough}
use Rattle.code_laws.specs.Kinds.{is_truth, HasKind}
use Rattle.compiler.specs.declared.kinds.Frame.{Frame}
use Rattle.compiler.specs.declared.kinds.Kept.{Kept}
use Rattle.compiler.specs.Kinds.{IsKind, IsCallKind, IsDummyKind, KeepsKinds, is_arithmetic, is_logical_type, kept_kinds}
use Rattle.compiler.proofs.Kinded.{number_kind, truth_kind, signed_kind, negated_kind, binary_kind, paren_kind, call_kind, element_kind, element_call_kind, intrinsic_call_kind, function_call_kind, known_kind, typed_name_kind}
use Rattle.compiler.proofs.Kept.{map_take, no_arguments, more_arguments}

module _ (g : Glossary) (f : Frame) where
  abbrev scope : List Value → Scope
  scope vs = scope_in g (listed (exprs_tree f.dummies.now)) vs f.callable

  pub by_form : (e d : Expr) (b : Bool) → e ≡ d → IsKind g f (expr_tree d) b → IsKind g f (expr_tree e) b
  by_form e d b is h = subst (λ x. IsKind g f (expr_tree x) b) (sym is) h

  pub of_number : (digits : List ℕ) → IsKind g f (number digits) false
  of_number digits = λ vs k m. number_kind (scope vs) m digits

  pub of_truth : (b : Bool) → IsKind g f (truth b) true
  of_truth b = λ vs k m. truth_kind (scope vs) m b

  pub of_signed : (sign : Sign) (e : ExprTree) → IsKind g f (signed sign e) false
  of_signed sign e = λ vs k m. signed_kind (scope vs) m sign e

  pub of_negated : (e : ExprTree) → IsKind g f (negated e) true
  of_negated e = λ vs k m. negated_kind (scope vs) m e

  pub of_binary : (o : Operator) (a b : ExprTree) (c : Bool) → c ≡ is_arithmetic o → IsKind g f (binary o a b) (not c)
  of_binary o a b c is = λ vs k m. subst (λ x. HasKind (value (scope vs) (binary o a b) m) (not x)) (sym is) (binary_kind (scope vs) m o a b)

  pub of_paren : (e : ExprTree) (b : Bool) → IsKind g f e b → IsKind g f (paren e) b
  of_paren e b h = λ vs k m. paren_kind (scope vs) m e b (h vs k m)

  pub of_call : (letters : List ℕ) (b : Bool) → IsCallKind g f letters no_exprs b → IsKind g f (call letters) b
  of_call letters b h = λ vs k m. call_kind (scope vs) m letters b (h vs k m)

  pub of_element_call : (letters : List ℕ) (es : ExprsTree) (b : Bool) → g.arrays letters ≡ None → IsCallKind g f letters es b → IsKind g f (element letters es) b
  of_element_call letters es b none h = λ vs k m. element_call_kind (scope vs) m letters es b none (h vs k m)

  pub of_intrinsic : (letters : List ℕ) (es : ExprsTree) → IsCallable g f.callable letters None → IsCallKind g f letters es false
  of_intrinsic letters es none = λ vs k m. intrinsic_call_kind (scope vs) m letters es none.0

  pub keeps_none : (kept : Kept) → KeepsKinds g f no_exprs kept kept
  keeps_none kept = λ vs k m xs are. no_arguments (scope vs) m (take kept.count kept.kinds) xs are

  pub keeps_more : (e : ExprTree) (es : ExprsTree) (b : Bool) (old mid new : Kept) → IsKind g f e b → kept_kinds mid ≡ take most (kept_kinds old ++ b ∷ []) → KeepsKinds g f es mid new → KeepsKinds g f (exprs e es) old new
  keeps_more e es b old mid new kind one rest = λ vs k m xs are. more_arguments (scope vs) m e es b (kept_kinds old) (kept_kinds mid) (kept_kinds new) (kind vs k m) one (rest vs k m) xs are

  -- what a statement function does, with the kinds of its first sixteen arguments
  body_kind : (h : Function) (inner : Frame) (b : Bool) (xs : List Value) (m : Map) → length (listed (exprs_tree h.dummies.now)) ≤ most → inner.dummies.now ≡ h.dummies.now → inner.callable ≡ h.at → map is_truth (take most xs) ≡ inner.kinds.now → IsKind g inner (expr_tree h.body.now) b → HasKind (value (scope_in g (listed (exprs_tree h.dummies.now)) xs h.at) (expr_tree h.body.now) m) b
  body_kind h inner b xs m few dummies at kinds body =
      let ds = listed (exprs_tree h.dummies.now) in
      let s : Scope = record { types = g.types; arrays = g.arrays; known = g.known; calls = calls_by g.types g.arrays g.known (before g.definitions h.at) } in
      subst (λ known. HasKind (value (record s { known = known }) (expr_tree h.body.now) m) b) (dummies_enough ds xs most g.known few)
      (subst (λ n. HasKind (value (scope_in g ds (take most xs) n) (expr_tree h.body.now) m) b) at
      (subst (λ d. HasKind (value (scope_in g (listed (exprs_tree d)) (take most xs) inner.callable) (expr_tree h.body.now) m) b) dummies (body (take most xs) kinds m)))

  pub of_function : (letters : List ℕ) (es : ExprsTree) (h : Function) (inner : Frame) (b : Bool) (old new : Kept) → IsCallable g f.callable letters (Some h) → kept_kinds old ≡ [] → KeepsKinds g f es old new → inner.dummies.now ≡ h.dummies.now → inner.kinds.now ≡ kept_kinds new → inner.callable ≡ h.at → IsKind g inner (expr_tree h.body.now) b → IsCallKind g f letters es b
  of_function letters es h inner b old new callable none keeps dummies kinds at body = λ vs k m.
      function_call_kind (scope vs) m letters es (function_of g (definition_by letters h) (before g.definitions h.at)) b (its_call g letters h callable.0 f.callable callable.1) (λ xs are.
      body_kind h inner b xs m callable.0.few dummies at (map_take most xs ∙ ap (λ l. take most (l ++ map is_truth xs)) (sym none) ∙ sym (keeps vs k m xs are) ∙ sym kinds) body)

  -- ---- names

  abbrev dummies : List ExprTree
  dummies = listed (exprs_tree f.dummies.now)

  pub of_dummy : (letters : List ℕ) (b : Bool) → IsDummyKind dummies f.kinds.now letters (Some b) → IsKind g f (name letters) b
  of_dummy letters b is = λ vs k m.
      let r = is vs k g.known in
      subst (λ x. HasKind (value (scope vs) (name letters) m) x) r.2 (known_kind (scope vs) m letters r.0 r.1)

  pub of_constant : (letters : List ℕ) (v : Value) → IsDummyKind dummies f.kinds.now letters None → g.known letters ≡ Some v → IsKind g f (name letters) (is_truth v)
  of_constant letters v is known = λ vs k m. known_kind (scope vs) m letters v (is vs k g.known ∙ known)

  pub of_variable : (letters : List ℕ) (o : Option DataType) → IsDummyKind dummies f.kinds.now letters None → g.known letters ≡ None → o ≡ g.types letters → IsKind g f (name letters) (is_logical_type o)
  of_variable letters o is known typed = λ vs k m.
      subst (λ x. HasKind (value (scope vs) (name letters) m) (is_logical_type x)) (sym typed) (typed_name_kind (scope vs) m letters (is vs k g.known ∙ known))

  pub of_element : (letters : List ℕ) (es : ExprsTree) (ds : List Dimension) (o : Option DataType) → g.arrays letters ≡ Some ds → o ≡ g.types letters → IsKind g f (element letters es) (is_logical_type o)
  of_element letters es ds o is typed = λ vs k m.
      subst (λ x. HasKind (value (scope vs) (element letters es) m) (is_logical_type x)) (sym typed) (element_kind (scope vs) m letters es ds is)

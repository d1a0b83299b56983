-- The kinds of arguments and of dummies.
use Rattle.std.proofs.Common.{◌≡◌, ◌≤◌, ℕ, zero, suc, Bool, true, false, List, [], ◌∷◌, ◌++◌, length, map, take, if◌then◌else◌, Option, Some, None, Result, Ok, Err, refl, sym, ap, subst, ◌∙◌, append_assoc, arith}
use Rattle.std.specs.Str.{bytes_eq}
use Rattle.meaning.specs.declared.ending.FaultKind.{FaultKind}
use Rattle.meaning.specs.declared.ending.Value.{Value}
use Rattle.meaning.specs.Syntax.{ExprTree, name, ExprsTree, no_exprs, exprs}
use Rattle.meaning.specs.Maps.{Map}
use Rattle.meaning.specs.Scopes.{with_dummies}
use Rattle.meaning.specs.Values.{Known, Scope, value, arguments, and_then}
use Rattle.std.specs.Borrow.{Bor}
use Rattle.expressions.specs.Calls.{most, IsNameIn}
use Rattle.code_laws.specs.Kinds.{is_truth, HasKind}
use Rattle.compiler.specs.Kinds.{IsDummyKind}

-- ---- the first so many

pub map_take : (n : ℕ) (xs : List Value) → map is_truth (take n xs) ≡ take n (map is_truth xs)
map_take zero xs = refl
map_take (suc n) [] = refl
map_take (suc n) (x ∷ xs) = ap (λ l. is_truth x ∷ l) (map_take n xs)

front_again : (n : ℕ) (xs ys : List Bool) → take n (take n xs ++ ys) ≡ take n (xs ++ ys)
front_again zero xs ys = refl
front_again (suc n) [] ys = refl
front_again (suc n) (x ∷ xs) ys = ap (λ l. x ∷ l) (front_again n xs ys)

pub front_behind : (n : ℕ) (xs : List Bool) (x : Bool) (vs ys zs : List Bool) → ys ≡ take n (xs ++ x ∷ []) → zs ≡ take n (ys ++ vs) → zs ≡ take n (xs ++ x ∷ vs)
front_behind n xs x vs ys zs one all =
    all ∙ ap (λ l. take n (l ++ vs)) one ∙ front_again n (xs ++ x ∷ []) vs ∙ ap (take n) (append_assoc xs (x ∷ []) vs)

nothing_behind : (xs : List Bool) → xs ++ [] ≡ xs
nothing_behind [] = refl
nothing_behind (x ∷ xs) = ap (λ l. x ∷ l) (nothing_behind xs)

pub kept_again : (n : ℕ) (xs : List Bool) → take n xs ≡ take n (take n xs ++ [])
kept_again n xs = sym (front_again n xs [] ∙ ap (take n) (nothing_behind xs))

enough : (n count : ℕ) (xs : List Bool) → n ≤ count → n ≤ length xs → n ≤ length (take count xs)
enough zero count xs p q = omega arith
enough (suc n) zero xs p q = absurd (omega (arith, p))
enough (suc n) (suc count) [] p q = absurd (omega (arith, q))
enough (suc n) (suc count) (x ∷ xs) p q = let rest = enough n count xs (omega (arith, p)) (omega (arith, q)) in omega (arith, rest)

front_full : (n : ℕ) (xs ys : List Bool) → n ≤ length xs → take n (xs ++ ys) ≡ take n xs
front_full zero xs ys le = refl
front_full (suc n) [] ys le = absurd (omega (arith, le))
front_full (suc n) (x ∷ xs) ys le = ap (λ l. x ∷ l) (front_full n xs ys (omega (arith, le)))

pub keeps_full : (vs : List Bool) (count : ℕ) (x : Bool) → length vs ≡ 16 → 16 ≤ count → take most (take count vs) ≡ take most (take most (take count vs) ++ x ∷ [])
keeps_full vs count x many full =
    sym (front_again most (take count vs) (x ∷ []) ∙ front_full most (take count vs) (x ∷ []) (enough most count vs full (omega (arith, many))))

-- ---- arguments

tail_of : (v : Value) (vs : List Value) → List Value
tail_of v [] = []
tail_of v (w ∷ ws) = ws

module _ (s : Scope) (m : Map) where
  -- an argument's value comes first
  pub more_arguments : (e : ExprTree) (es : ExprsTree) (b : Bool) (old mid new : List Bool) → HasKind (value s e m) b → mid ≡ take most (old ++ b ∷ []) → ((xs : List Value) → arguments s es m ≡ Ok xs → new ≡ take most (mid ++ map is_truth xs)) → (xs : List Value) → arguments s (exprs e es) m ≡ Ok xs → new ≡ take most (old ++ map is_truth xs)
  unfolding arguments and_then
  more_arguments e es b old mid new kind one rest xs are = by (value s e m) (arguments s es m) kind rest are
    where
      by : (r : Result Value FaultKind) (q : Result (List Value) FaultKind) → HasKind r b → ((xs : List Value) → q ≡ Ok xs → new ≡ take most (mid ++ map is_truth xs)) → and_then r (λ x. and_then q (λ ys. Ok (x ∷ ys))) ≡ Ok xs → new ≡ take most (old ++ map is_truth xs)
      by (Err k) q kind rest are = absurd cc
      by (Ok x) (Err k) kind rest are = absurd cc
      by (Ok x) (Ok ys) kind rest are =
          let same : x ∷ ys ≡ xs = cc in
          subst (λ l. new ≡ take most (old ++ map is_truth l)) same
          (front_behind most old (is_truth x) (map is_truth ys) mid new (one ∙ ap (λ c. take most (old ++ c ∷ [])) (sym (kind x refl))) (rest ys refl))

  pub no_arguments : (old : List Bool) (xs : List Value) → arguments s no_exprs m ≡ Ok xs → take most old ≡ take most (take most old ++ map is_truth xs)
  unfolding arguments
  no_arguments old xs are = let same : [] ≡ xs = cc in subst (λ l. take most old ≡ take most (take most old ++ map is_truth l)) same (kept_again most old)

-- ---- dummies

kinds_none : (v : Value) (vs : List Value) → map is_truth (v ∷ vs) ≡ [] → ⊥
kinds_none v vs h = cc

kinds_some : (b : Bool) (bs : List Bool) → map is_truth [] ≡ b ∷ bs → ⊥
kinds_some b bs h = cc

first_kind : (v : Value) (vs : List Value) (b : Bool) (bs : List Bool) → map is_truth (v ∷ vs) ≡ b ∷ bs → is_truth v ≡ b
first_kind v vs b bs h = cc

rest_kinds : (v : Value) (vs : List Value) (b : Bool) (bs : List Bool) → map is_truth (v ∷ vs) ≡ b ∷ bs → map is_truth vs ≡ bs
rest_kinds v vs b bs h = cc

pub here_kind : (letters n : List ℕ) (ds : List ExprTree) (b : Bool) (bs : List Bool) → bytes_eq n letters ≡ true → IsDummyKind (name letters ∷ ds) (b ∷ bs) n (Some b)
here_kind letters n ds b bs same [] kinds known = absurd (kinds_some b bs kinds)
here_kind letters n ds b bs same (v ∷ vs) kinds known =
    (v, ap (λ c. if c then Some v else with_dummies ds vs known n) same, first_kind v vs b bs kinds)

pub later_kind : (letters n : List ℕ) (ds : List ExprTree) (b : Bool) (bs : List Bool) (o : Option Bool) → bytes_eq n letters ≡ false → IsDummyKind ds bs n o → IsDummyKind (name letters ∷ ds) (b ∷ bs) n o
later_kind letters n ds b bs None other rest = none_later
  where
    none_later : (vs : List Value) → map is_truth vs ≡ b ∷ bs → (known : Known) → with_dummies (name letters ∷ ds) vs known n ≡ known n
    none_later [] kinds known = absurd (kinds_some b bs kinds)
    none_later (v ∷ vs) kinds known =
        ap (λ c. if c then Some v else with_dummies ds vs known n) other ∙ rest vs (rest_kinds v vs b bs kinds) known
later_kind letters n ds b bs (Some x) other rest = some_later
  where
    some_later : (vs : List Value) → map is_truth vs ≡ b ∷ bs → (known : Known) → (v : Value) × (with_dummies (name letters ∷ ds) vs known n ≡ Some v) × (is_truth v ≡ x)
    some_later [] kinds known = absurd (kinds_some b bs kinds)
    some_later (v ∷ vs) kinds known =
        let r = rest vs (rest_kinds v vs b bs kinds) known in
        (r.0, ap (λ c. if c then Some v else with_dummies ds vs known n) other ∙ r.1, r.2)

-- ---- the name of the first dummy

pub name_is : (e : ExprTree) (n : Bor (List ℕ)) → IsNameIn e (Some n) → e ≡ name n.now
name_is (name letters) n h = let same : n.now ≡ letters = cc in ap name (sym same)
name_is e n h = absurd cc

pub here_is : (l ds : List ExprTree) (e : ExprTree) (ks bs : List Bool) (b : Bool) (n d : List ℕ) → l ≡ e ∷ ds → ks ≡ b ∷ bs → e ≡ name d → bytes_eq n d ≡ true → IsDummyKind l ks n (Some b)
here_is l ds e ks bs b n d first kinds named same =
    subst (λ x. IsDummyKind x ks n (Some b)) (sym (first ∙ ap (λ x. x ∷ ds) named)) (subst (λ x. IsDummyKind (name d ∷ ds) x n (Some b)) (sym kinds) (here_kind d n ds b bs same))

pub later_is : (l ds : List ExprTree) (e : ExprTree) (ks bs : List Bool) (b : Bool) (n d : List ℕ) (o : Option Bool) → l ≡ e ∷ ds → ks ≡ b ∷ bs → e ≡ name d → bytes_eq n d ≡ false → IsDummyKind ds bs n o → IsDummyKind l ks n o
later_is l ds e ks bs b n d o first kinds named other rest =
    subst (λ x. IsDummyKind x ks n o) (sym (first ∙ ap (λ x. x ∷ ds) named)) (subst (λ x. IsDummyKind (name d ∷ ds) x n o) (sym kinds) (later_kind d n ds b bs o other rest))

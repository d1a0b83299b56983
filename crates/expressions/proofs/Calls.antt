-- Statement functions and their calls.
use Rattle.std.proofs.Common.{◌≡◌, ℕ, zero, suc, ◌+◌, ◌<◌, ◌≤◌, ◌==◌, Bool, true, false, List, [], ◌∷◌, ◌++◌, take, length, Option, Some, None, refl, sym, ap, ◌∙◌, subst, arith}
use Rattle.std.specs.Prelude.{slice_get, reverse, if◌then◌else◌}
use Rattle.std.specs.Str.{bytes_eq}
use Rattle.std.proofs.lemmas.List.{reverse-append}
use Rattle.std.proofs.lemmas.Slice.Eq.{bytes_eq-Decides}
use Rattle.std.proofs.lemmas.Bool.{true≢false, eq-eqb, eqb-true}
use Rattle.meaning.specs.declared.ending.Value.{Value}
use Rattle.meaning.specs.Syntax.{ExprTree, name, number, truth, signed, negated, binary, paren, element, call}
use Rattle.meaning.specs.Maps.{Map}
use Rattle.meaning.specs.Values.{Known, Valued, value}
use Rattle.meaning.specs.Intrinsics.{intrinsic_named}
use Rattle.meaning.specs.Scopes.{Definition, with_dummies, calls_by, intrinsic_call}
use Rattle.expressions.specs.declared.numbering.Function.{Function}
use Rattle.expressions.specs.Calls.{AreOthers, IsCallable}
use Rattle.expressions.specs.Names.{definition_by, IsDefined, IsFunction}
use Rattle.expressions.specs.Glossaries.{Glossary, before, in_front, scope_in, scope_by, room, heavy, weight}

option_same : {A : Type 0} {x y : A} → Some x ≡ Some y → x ≡ y
option_same h = cc

-- ---- the first so many, last to first

abbrev pub function_of : Glossary → Definition → List Definition → List Value → Map → Valued
function_of g d ds vs m =
    value (record { types = g.types; arrays = g.arrays; known = with_dummies d.dummies vs g.known; calls = calls_by g.types g.arrays g.known ds }) d.body m

module _ (g : Glossary) (letters : List ℕ) where
  abbrev calls_behind : List Definition → Option (List Value → Map → Valued)
  calls_behind ds = calls_by g.types g.arrays g.known ds letters

  at_front : (d : Definition) (ds : List Definition) → bytes_eq letters d.name ≡ true → calls_behind (d ∷ ds) ≡ Some (function_of g d ds)
  unfolding calls_by
  at_front d ds same = ap (λ b. if b then Some (function_of g d ds) else calls_behind ds) same

  not_front : (d : Definition) (ds : List Definition) → bytes_eq letters d.name ≡ false → calls_behind (d ∷ ds) ≡ calls_behind ds
  unfolding calls_by
  not_front d ds other = ap (λ b. if b then Some (function_of g d ds) else calls_behind ds) other

  none_left : calls_behind [] ≡ intrinsic_call (intrinsic_named letters)
  unfolding calls_by
  none_left = refl

  none_more : (n : ℕ) → ((d : Definition) → slice_get g.definitions n ≡ Some d → bytes_eq letters d.name ≡ false) → calls_behind (before g.definitions n) ≡ intrinsic_call (intrinsic_named letters) → calls_behind (before g.definitions (suc n)) ≡ intrinsic_call (intrinsic_named letters)
  none_more n other rest = by (slice_get g.definitions n) refl
    where
      by : (o : Option Definition) → slice_get g.definitions n ≡ o → calls_behind (in_front o (before g.definitions n)) ≡ intrinsic_call (intrinsic_named letters)
      by None is = rest
      by (Some d) is = not_front d (before g.definitions n) (other d is) ∙ rest

  -- no definition among the first so many has the name
  pub no_function : (n : ℕ) → ((k : ℕ) (d : Definition) → k < n → slice_get g.definitions k ≡ Some d → bytes_eq letters d.name ≡ false) → calls_behind (before g.definitions n) ≡ intrinsic_call (intrinsic_named letters)
  no_function zero other = none_left
  no_function (suc n) other = none_more n (λ d. other n d (omega arith)) (no_function n (λ k d lt. other k d (omega arith)))

  -- the one with the name stands at its place
  module _ (d : Definition) (at : ℕ) (is : slice_get g.definitions at ≡ Some d) (own : bytes_eq letters d.name ≡ true) (only : (k : ℕ) (e : Definition) → slice_get g.definitions k ≡ Some e → bytes_eq letters e.name ≡ true → k ≡ at) where
    abbrev Stands : ℕ → Type 0
    Stands n = calls_behind (before g.definitions n) ≡ Some (function_of g d (before g.definitions at))

    other_none : (o : Option Definition) → o ≡ Some d → o ≡ None → ⊥
    other_none o h k = cc

    found : (n : ℕ) (e : Definition) (b : Bool) → ((n ≡ at → ⊥) → Stands n) → slice_get g.definitions n ≡ Some e → bytes_eq letters e.name ≡ b → calls_behind (e ∷ before g.definitions n) ≡ Some (function_of g d (before g.definitions at))
    found n e true later there same =
        let here : n ≡ at = only n e there same in
        let alike : e ≡ d = option_same (sym there ∙ ap (slice_get g.definitions) here ∙ is) in
        at_front e (before g.definitions n) same ∙ ap (λ x. Some (function_of g x (before g.definitions n))) alike ∙ ap (λ k. Some (function_of g d (before g.definitions k))) here
    found n e false later there other =
        not_front e (before g.definitions n) other ∙ later (λ here. true≢false (sym own ∙ ap (λ (x : Definition). bytes_eq letters x.name) (option_same (sym is ∙ ap (slice_get g.definitions) (sym here) ∙ there)) ∙ other))

    one_more : (n : ℕ) → ((n ≡ at → ⊥) → Stands n) → Stands (suc n)
    one_more n later = by (slice_get g.definitions n) refl
      where
        by : (o : Option Definition) → slice_get g.definitions n ≡ o → calls_behind (in_front o (before g.definitions n)) ≡ Some (function_of g d (before g.definitions at))
        by None there = later (λ here. other_none (slice_get g.definitions at) is (ap (slice_get g.definitions) (sym here) ∙ there))
        by (Some e) there = found n e (bytes_eq letters e.name) later there refl

    pub its_function : (n : ℕ) → at < n → Stands n
    its_function zero lt = absurd (omega arith)
    its_function (suc n) lt = one_more n (λ other. its_function n (below n at lt other))
      where
        below : (n at : ℕ) → at < suc n → (n ≡ at → ⊥) → at < n
        below n at lt other = omega (arith, lt, other)

-- ---- all of them

in_front-append : (o : Option Definition) (xs ys : List Definition) → in_front o (xs ++ ys) ≡ in_front o xs ++ ys
in_front-append None xs ys = refl
in_front-append (Some d) xs ys = refl

before_more : (d : Definition) (ds : List Definition) (n : ℕ) → before (d ∷ ds) (suc n) ≡ before ds n ++ d ∷ []
before_more d ds zero = refl
before_more d ds (suc n) =
    ap (in_front (slice_get ds n)) (before_more d ds n) ∙ in_front-append (slice_get ds n) (before ds n) (d ∷ [])

before_all : (ds : List Definition) → before ds (length ds) ≡ reverse ds
before_all [] = refl
before_all (d ∷ ds) =
    before_more d ds (length ds) ∙ ap (λ xs. xs ++ d ∷ []) (before_all ds) ∙ sym (reverse-append (d ∷ []) ds)

pub scope_all : (g : Glossary) (vs : List Value) (n : ℕ) → n ≡ length g.definitions → scope_in g [] vs n ≡ scope_by g
scope_all g vs n all =
    ap (λ ds. record { types = g.types; arrays = g.arrays; known = g.known; calls = calls_by g.types g.arrays g.known ds }) (ap (before g.definitions) all ∙ before_all g.definitions)

-- a statement function that may be called
pub its_call : (g : Glossary) (letters : List ℕ) (f : Function) → IsDefined g.definitions letters f → (n : ℕ) → f.at < n → calls_by g.types g.arrays g.known (before g.definitions n) letters ≡ Some (function_of g (definition_by letters f) (before g.definitions f.at))
its_call g letters f defined n lt =
    its_function g letters (definition_by letters f) f.at defined.found ((bytes_eq-Decides letters letters).1 refl) defined.only n lt

-- those in front of one with the name have others
pub others_before : (g : Glossary) (letters : List ℕ) (f : Function) → IsDefined g.definitions letters f → (n : ℕ) → n ≤ f.at → AreOthers g.definitions n letters
others_before g letters f defined n le = λ k d lt there. other k d lt there (bytes_eq letters d.name) refl
  where
    apart : (k at : ℕ) → k < n → n ≤ at → k ≡ at → ⊥
    apart k at lt le same = omega (arith, lt, le, same)

    other : (k : ℕ) (d : Definition) → k < n → slice_get g.definitions k ≡ Some d → (b : Bool) → bytes_eq letters d.name ≡ b → bytes_eq letters d.name ≡ false
    other k d lt there true is = absurd (apart k f.at lt le (defined.only k d there is))
    other k d lt there false is = is

-- none that may be called has the name
pub none_callable : (g : Glossary) (letters : List ℕ) (n : ℕ) → AreOthers g.definitions n letters → IsCallable g n letters None
none_callable g letters n others = (no_function g letters n others, others)

-- ---- what they take

pub room_left : (ds : List Definition) (d : Definition) (at n : ℕ) → slice_get ds at ≡ Some d → at < n → weight d.body + room ds at < room ds n
room_left ds d at zero is lt = absurd (omega arith)
room_left ds d at (suc n) is lt = by (at == n) refl (room_left ds d at n is)
  where
    below : (n at : ℕ) → at < suc n → (at ≡ n → ⊥) → at < n
    below n at lt other = omega (arith, lt, other)

    by : (b : Bool) → (at == n) ≡ b → (at < n → weight d.body + room ds at < room ds n) → weight d.body + room ds at < heavy (slice_get ds n) + room ds n
    by true same rest =
        let here : at ≡ n = eqb-true at n same in
        subst (λ k. weight d.body + room ds at < heavy (slice_get ds k) + room ds k) here (subst (λ o. weight d.body + room ds at < heavy o + room ds at) (sym is) (omega arith))
    by false other rest =
        let so = rest (below n at lt (λ here. true≢false (sym (eq-eqb at n here) ∙ other))) in
        omega (arith, so)

-- ---- dummies

pub dummies_enough : (es : List ExprTree) (vs : List Value) (n : ℕ) (known : Known) → length es ≤ n → with_dummies es (take n vs) known ≡ with_dummies es vs known
dummies_enough [] vs n known le = refl
dummies_enough (name letters ∷ es) vs zero known le = absurd (omega arith)
dummies_enough (name letters ∷ es) [] (suc n) known le = refl
dummies_enough (name letters ∷ es) (v ∷ vs) (suc n) known le =
    ap (λ f. λ x. if bytes_eq x letters then Some v else f x) (dummies_enough es vs n known (omega arith))
dummies_enough (number digits ∷ es) vs n known le = refl
dummies_enough (truth b ∷ es) vs n known le = refl
dummies_enough (signed sign e ∷ es) vs n known le = refl
dummies_enough (negated e ∷ es) vs n known le = refl
dummies_enough (binary operator a b ∷ es) vs n known le = refl
dummies_enough (paren e ∷ es) vs n known le = refl
dummies_enough (element letters ys ∷ es) vs n known le = refl
dummies_enough (call letters ∷ es) vs n known le = refl

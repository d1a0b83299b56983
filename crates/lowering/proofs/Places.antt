-- The codes of statement functions, first to last.
use Rattle.std.proofs.Common.{◌≡◌, ◌⊎◌, ◌<◌, ◌≤◌, ℕ, zero, suc, ◌+◌, ◌-◌, Bool, true, false, List, [], ◌∷◌, ◌++◌, drop, length, length-drop, Option, Some, None, inl, inr, refl, sym, ap, subst, ◌∙◌, arith}
use Rattle.std.specs.Prelude.{if◌then◌else◌, is_some, slice_get}
use Rattle.std.specs.Str.{bytes_eq}
use Rattle.std.proofs.lemmas.Bool.{true≢false}
use Rattle.std.proofs.lemmas.List.{drop_all}
use Rattle.std.proofs.lemmas.Slice.Eq.{bytes_eq-Decides}
use Rattle.meaning.specs.declared.syntax.Tree.{Tree}
use Rattle.meaning.specs.Scopes.{Definition, defined_before, defined_by, definition_if, definitions_of, is_specification, listed}
use Rattle.meaning.specs.Syntax.{ItemTree, ShapeTree, assignment, definition, ExprTree, exprs, no_exprs}
use Rattle.meaning.specs.Values.{Arrays}
use Rattle.expressions.specs.declared.numbering.Function.{Function}
use Rattle.expressions.specs.Names.{definition_by, IsDefined, IsFunction}
use Rattle.storage.specs.Checked.{count_in, items_in, names_in, numbers_in}
use Rattle.code_laws.specs.Functions.{HasCode}
use Rattle.postfix.specs.declared.code.Code.{Code}
use Rattle.lowering.specs.Functions.{AddsOwn, AreFirst, IsBodyCode, name_shown}

-- an element of a list also stands there in a longer one
get_front : {A : Type 0} (xs ys : List A) (k : ℕ) (x : A) → slice_get xs k ≡ Some x → slice_get (xs ++ ys) k ≡ Some x
get_front [] ys k x h = absurd cc
get_front (y ∷ xs) ys zero x h = h
get_front (y ∷ xs) ys (suc k) x h = get_front xs ys k x h

-- the last element
get_last : {A : Type 0} (xs : List A) (x : A) → slice_get (xs ++ x ∷ []) (length xs) ≡ Some x
get_last [] x = refl
get_last (y ∷ xs) x = get_last xs x

-- each place in a list with one element more is one of those before, or the last
last_or_before : {A : Type 0} (xs : List A) (x : A) (k : ℕ) → k < length (xs ++ x ∷ []) → (k < length xs) ⊎ (k ≡ length xs)
last_or_before [] x zero lt = inr refl
last_or_before [] x (suc k) lt = absurd (omega (arith, lt))
last_or_before (y ∷ xs) x zero lt = inl (omega arith)
last_or_before (y ∷ xs) x (suc k) lt = one_on (last_or_before xs x k (omega (arith, lt)))
  where
    one_on : (k < length xs) ⊎ (k ≡ length xs) → (suc k < suc (length xs)) ⊎ (suc k ≡ suc (length xs))
    one_on (inl h) = inl (omega (arith, h))
    one_on (inr h) = inr (ap suc h)

same_there : {A : Type 0} (x y : A) → Some x ≡ Some y → x ≡ y
same_there x y h = cc

module _ (t : Tree) where
  abbrev HasCodeIn : List Code → ℕ → Definition → Type 0
  HasCodeIn codes at d = HasCode (names_in t) (numbers_in t) (count_in t) codes at d

  abbrev StandsAt : ℕ → Definition → Type 0
  StandsAt at d = slice_get (names_in t).definitions at ≡ Some d

  -- the code of one function more, put behind those of all before it
  pub first_more : (old : List Code) (n : List ℕ) (f : Function) (c : Code) → f.at ≡ length old → StandsAt f.at (definition_by n f) → IsBodyCode t f c → AreFirst t old → AreFirst t (old ++ c ∷ [])
  first_more old n f c place stands code first at d lt found = by_place (last_or_before old c at lt)
    where
      own : HasCodeIn (old ++ c ∷ []) f.at (definition_by n f)
      own = record {
        code = c;
        found = ap (slice_get (old ++ c ∷ [])) place ∙ get_last old c;
        is = code;
      }

      by_place : (at < length old) ⊎ (at ≡ length old) → HasCodeIn (old ++ c ∷ []) at d
      by_place (inl before) =
          let there : HasCodeIn old at d = first at d before found in
          record { code = there.code; found = get_front old (c ∷ []) at there.code there.found; is = there.is }
      by_place (inr last) =
          let here : at ≡ f.at = last ∙ sym place in
          let same : definition_by n f ≡ d = same_there _ _ (sym stands ∙ sym (ap (slice_get (names_in t).definitions) here) ∙ found) in
          subst (λ k. HasCodeIn (old ++ c ∷ []) k d) (sym here) (subst (λ x. HasCodeIn (old ++ c ∷ []) f.at x) same own)

-- ---- in the order of the statements that define them

no_definitions : (arrays : Arrays) → definitions_of arrays [] ≡ []
unfolding definitions_of
no_definitions arrays = refl

first_is : (arrays : Arrays) (x : ItemTree) (xs : List ItemTree) → definitions_of arrays (x ∷ xs) ≡ defined_before (defined_by arrays x.shape) (is_specification x.shape) (definitions_of arrays xs)
unfolding definitions_of
first_is arrays x xs = refl

drop_first : {A : Type 0} (xs : List A) (k : ℕ) (x : A) (rest : List A) → drop k xs ≡ x ∷ rest → (slice_get xs k ≡ Some x) × (drop (k + 1) xs ≡ rest)
drop_first [] zero x rest is = absurd cc
drop_first [] (suc k) x rest is = absurd cc
drop_first (y ∷ xs) zero x rest is = (cc, cc)
drop_first (y ∷ xs) (suc k) x rest is =
    let r = drop_first xs k x rest is in
    let one : suc k + 1 ≡ suc (k + 1) = omega arith in
    (r.0, ap (λ n. drop n (y ∷ xs)) one ∙ r.1)

all_dropped : {A : Type 0} (xs : List A) (k : ℕ) → drop k xs ≡ [] → length xs ≤ k
all_dropped xs k none =
    let left = sym (length-drop k xs) ∙ ap length none in omega (arith, left)

shows : (arrays : Arrays) (s : ShapeTree) (d : Definition) → defined_by arrays s ≡ Some d → name_shown s ≡ Some d.name
shows arrays (assignment n no_exprs body) d is = absurd cc
shows arrays (assignment n (exprs e es) body) d is = by (is_some (arrays n)) is
  where
    by : (b : Bool) → definition_if b n (e ∷ listed es) body ≡ Some d → Some n ≡ Some d.name
    by true k = absurd cc
    by false k =
        let same : record { name = n; dummies = e ∷ listed es; body = body } ≡ d = cc in
        ap (λ (x : Definition). Some x.name) same
shows arrays (definition n body) d is = by (is_some (arrays n)) is
  where
    by : (b : Bool) → definition_if b n [] body ≡ Some d → Some n ≡ Some d.name
    by true k = absurd cc
    by false k =
        let same : record { name = n; dummies = []; body = body } ≡ d = cc in
        ap (λ (x : Definition). Some x.name) same
shows arrays s d is = absurd cc

shows_none : (s : ShapeTree) → is_specification s ≡ true → name_shown s ≡ None
shows_none (assignment n es body) is = absurd cc
shows_none (definition n body) is = absurd cc
shows_none s is = refl

module _ (t : Tree) where
  abbrev defined : List Definition
  defined = (names_in t).definitions

  abbrev arrays : Arrays
  arrays = (names_in t).arrays

  -- those of the statements that are left are the ones without a code, or each has one
  abbrev pub AreAwaited : ℕ → List ItemTree → Type 0
  AreAwaited count xs = (drop count defined ≡ []) ⊎ (drop count defined ≡ definitions_of arrays xs)

  pub all_awaited : (xs : List ItemTree) → xs ≡ items_in t → AreAwaited 0 xs
  all_awaited xs all = inr (ap (definitions_of arrays) (sym all))

  pub none_awaited : (count : ℕ) (xs : List ItemTree) → xs ≡ [] → AreAwaited count xs → length defined ≤ count
  none_awaited count xs none (inl done) = all_dropped defined count done
  none_awaited count xs none (inr left) =
      all_dropped defined count (left ∙ ap (definitions_of arrays) none ∙ no_definitions arrays)

  -- by the name that a statement may define one by
  abbrev pub Steps : Option (List ℕ) → ℕ → ℕ → Type 0
  Steps None before after = after ≡ before
  Steps (Some n) before after = AddsOwn t n before after

  grown : (o : Option (List ℕ)) (before after : ℕ) → Steps o before after → before ≤ after
  grown None before after same = omega (arith, same)
  grown (Some n) before after adds = adds.grows

  done_on : (before after : ℕ) → before ≤ after → drop before defined ≡ [] → drop after defined ≡ []
  done_on before after le done =
      let all = all_dropped defined before done in drop_all after defined (omega (arith, le, all))

  pub one_awaited : (x : ItemTree) (xs : List ItemTree) (before after : ℕ) → AreAwaited before (x ∷ xs) → Steps (name_shown x.shape) before after → AreAwaited after xs
  one_awaited x xs before after (inl done) steps =
      inl (done_on before after (grown (name_shown x.shape) before after steps) done)
  one_awaited x xs before after (inr left) steps =
      by (defined_by arrays x.shape) refl (is_specification x.shape) refl (left ∙ first_is arrays x xs)
    where
      by : (o : Option Definition) → defined_by arrays x.shape ≡ o → (b : Bool) → is_specification x.shape ≡ b → drop before defined ≡ defined_before o b (definitions_of arrays xs) → AreAwaited after xs
      by (Some d) is b kind here =
          let first = drop_first defined before d (definitions_of arrays xs) here in
          let adds = subst (λ o. Steps o before after) (shows arrays x.shape d is) steps in
          inr (ap (λ n. drop n defined) (adds.own d first.0 refl) ∙ first.1)
      by None is true kind here =
          let same : after ≡ before = subst (λ o. Steps o before after) (shows_none x.shape kind) steps in
          inr (ap (λ n. drop n defined) same ∙ here)
      by None is false kind here =
          inl (done_on before after (grown (name_shown x.shape) before after steps) here)

  -- ---- one name

  pub own_pushed : (n : List ℕ) (before after : ℕ) → after ≡ before + 1 → AddsOwn t n before after
  own_pushed n before after is = record { grows = omega (arith, is); own = λ d found same. is }

  pub own_none : (n : List ℕ) (before : ℕ) → IsFunction defined n None → AddsOwn t n before before
  own_none n before none =
      record { grows = omega arith; own = λ d found same. absurd (true≢false (sym ((bytes_eq-Decides n d.name).1 (sym same)) ∙ none before d found)) }

  pub own_elsewhere : (n : List ℕ) (f : Function) (before : ℕ) → IsDefined defined n f → (f.at ≡ before → ⊥) → AddsOwn t n before before
  own_elsewhere n f before its apart =
      record { grows = omega arith; own = λ d found same. absurd (apart (sym (its.only before d found ((bytes_eq-Decides n d.name).1 (sym same))))) }

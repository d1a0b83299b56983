-- In a program unit that breaks no rule each statement function has a name of its own, and sixteen dummies at most.
use Rattle.std.proofs.Common.{◌≡◌, ℕ, zero, suc, ◌≤◌, Bool, true, false, ◌||◌, ◌&&◌, List, [], ◌∷◌, ◌++◌, length, map, reverse, append_assoc, Option, Some, None, unwrap_or, Ok, refl, sym, ap, ap₂, subst, ◌∙◌}
use Rattle.std.specs.Prelude.{if◌then◌else◌, flat_map, is_some, nat_lt, slice_get}
use Rattle.std.specs.List.{list_any}
use Rattle.std.specs.Str.{bytes_eq}
use Rattle.std.proofs.lemmas.Bool.{true≢false, ltb-false}
use Rattle.std.proofs.lemmas.List.{append-nil}
use Rattle.std.proofs.lemmas.List.Folds.{list_any-append}
use Rattle.std.proofs.lemmas.Slice.Eq.{bytes_eq-Decides}
use Rattle.meaning.specs.declared.refusal.Rule.{Rule}
use Rattle.meaning.specs.declared.refusal.Rule.TheVariants.{K1, K3, K4, K5, K8, K12}
use Rattle.meaning.specs.declared.syntax.Member.{Member, Plain, Loop', Block}
use Rattle.meaning.specs.LabelRules.{has_repeated_label}
use Rattle.meaning.specs.NameRules.{broken_names, breaks_function_rules, defined_here, given_by, given_from, given_twice, has_bad_dummies, has_misuse, has_real_name, is_bad_definition, is_disputed, is_late, is_wrongly_typed, has_two_roles, repeats, told}
use Rattle.meaning.specs.Rules.{broken_items, checked}
use Rattle.meaning.specs.Scopes.{Definition, defined_before, defined_by, definitions_of, is_specification}
use Rattle.meaning.specs.Statements.{broken_if}
use Rattle.meaning.specs.Syntax.{ItemTree, ShapeTree, assignment, definition, shape_tree}
use Rattle.meaning.specs.Trees.{Nested, flatten}
use Rattle.meaning.specs.Typing.{option_list}
use Rattle.meaning.specs.Uses.{Symbols, is_before_executables, is_defining, is_one_of, symbols_of}
use Rattle.meaning.specs.Values.{Arrays}
use Rattle.symbols.proofs.Passes.{flat_map_last}
use Rattle.symbols.proofs.Staging.{behind_one, stands_before}
use Rattle.storage.specs.declared.parts.FunctionAt.{FunctionAt}
use Rattle.appearances.specs.FunctionsFound.{IsFoundAt}
use Rattle.storage.specs.Kept.{IsFunctionAt, shown_at, shown_by}
use Rattle.storage.proofs.Unbroken.{none_front, nothing_broken}

or_parts : (a b : Bool) → (a || b) ≡ false → (a ≡ false) × (b ≡ false)
or_parts true b h = absurd (true≢false h)
or_parts false b h = (refl, h)

-- ---- nothing is broken

none_behind : {A : Type 0} (xs ys : List A) → (xs ++ ys) ≡ [] → ys ≡ []
none_behind [] ys none = none
none_behind (x ∷ xs) ys none = absurd cc

not_told : (b : Bool) (line : ℕ) (rule : Rule) → broken_if b line rule ≡ [] → b ≡ false
not_told false line rule none = refl
not_told true line rule none = absurd cc

told_parts : (breaks : List ItemTree → ItemTree → Bool) (rule : Rule) (before xs : List ItemTree) (x : ItemTree) → told breaks rule before (x ∷ xs) ≡ [] → (breaks before x ≡ false) × (told breaks rule (before ++ x ∷ []) xs ≡ [])
unfolding told
told_parts breaks rule before xs x none = (
  not_told (breaks before x) x.line rule (none_front (broken_if (breaks before x) x.line rule) (told breaks rule (before ++ x ∷ []) xs) none),
  none_behind (broken_if (breaks before x) x.line rule) (told breaks rule (before ++ x ∷ []) xs) none,
)

-- ---- the names of the statement functions so far

given_none : (r : Symbols) → given_from r [] [] ≡ []
unfolding given_from
given_none r = refl

given_last : (r : Symbols) (before xs : List ItemTree) (x : ItemTree) → given_from r before (xs ++ x ∷ []) ≡ given_from r before xs ++ given_by r (is_defining r (before ++ xs) x) x.shape ∷ []
unfolding given_from
given_last r before [] x = ap (λ b. given_by r (is_defining r b x) x.shape ∷ []) (sym (append-nil before))
given_last r before (y ∷ ys) x =
    ap (λ gs. given_by r (is_defining r before y) y.shape ∷ gs) (given_last r (before ++ y ∷ []) ys x)
    ∙ ap (λ b. given_by r (is_defining r before y) y.shape ∷ (given_from r (before ++ y ∷ []) ys ++ given_by r (is_defining r b x) x.shape ∷ [])) (append_assoc before (y ∷ []) ys)

abbrev earlier : Symbols → List ItemTree → List (List ℕ)
earlier r before = flat_map (λ g. g.defined) (given_from r [] before)

abbrev names_if : Bool → Option Definition → List (List ℕ)
names_if b o = if b then map (λ d. d.name) (option_list o) else []

earlier_last : (r : Symbols) (before : List ItemTree) (x : ItemTree) → earlier r (before ++ x ∷ []) ≡ earlier r before ++ names_if (is_defining r before x) (defined_by r.names.arrays x.shape)
earlier_last r before x =
    ap (flat_map (λ g. g.defined)) (given_last r [] before x)
    ∙ flat_map_last (λ g. g.defined) (given_from r [] before) (given_by r (is_defining r before x) x.shape)

-- ---- statement functions with names of their own and few dummies

abbrev AreOwn : List (List ℕ) → List Definition → Type 0
AreOwn names [] = Unit {0}
AreOwn names (d ∷ ds) = (is_one_of names d.name ≡ false) × (length d.dummies ≤ 16) × AreOwn (names ++ d.name ∷ []) ds

first_is : (arrays : Arrays) (x : ItemTree) (xs : List ItemTree) → definitions_of arrays (x ∷ xs) ≡ defined_before (defined_by arrays x.shape) (is_specification x.shape) (definitions_of arrays xs)
unfolding definitions_of
first_is arrays x xs = refl

none_own : (arrays : Arrays) (names : List (List ℕ)) → AreOwn names (definitions_of arrays [])
unfolding definitions_of
none_own arrays names = tt

module _ (r : Symbols) (before : List ItemTree) (x : ItemTree) (front : is_before_executables r before ≡ true) (undisputed : is_disputed r before x ≡ false) (lawful : breaks_function_rules r before x ≡ false) where
  module _ (d : Definition) (is : defined_by r.names.arrays x.shape ≡ Some d) where
    defining : is_defining r before x ≡ true
    defining = ap₂ ◌&&◌ front (ap is_some is)

    named_here : names_if (is_defining r before x) (defined_by r.names.arrays x.shape) ≡ d.name ∷ []
    named_here = ap₂ names_if defining is

    own_name : is_one_of (earlier r before) d.name ≡ false
    own_name =
        let gs = given_from r [] before in
        let g = given_by r (is_defining r before x) x.shape in
        let twice = (or_parts (given_twice gs g) (has_two_roles gs g) (or_parts (given_twice gs g || has_two_roles gs g) _ undisputed).0).0 in
        let first = (or_parts (repeats (flat_map (λ h. h.typed) gs) g.typed) _ twice).1 in
        let second = (or_parts (repeats (flat_map (λ h. h.bounded) gs) g.bounded) _ first).1 in
        let third = (or_parts (repeats (flat_map (λ h. h.valued) gs) g.valued) _ second).1 in
        (or_parts (is_one_of (earlier r before) d.name) false (sym (ap (repeats (earlier r before)) named_here) ∙ third)).0

    few_dummies : length d.dummies ≤ 16
    few_dummies =
        let defs = reverse (definitions_of r.names.arrays before) in
        let rule = (or_parts (is_late r before x) (list_any (is_bad_definition r defs) (defined_here r before x)) lawful).1 in
        let here : defined_here r before x ≡ d ∷ [] = ap₂ (λ b o. if b then option_list o else []) front is in
        let good = (or_parts (is_bad_definition r defs d) false (sym (ap (list_any (is_bad_definition r defs)) here) ∙ rule)).0 in
        let dummies = (or_parts (has_bad_dummies d) _ good).0 in
        ltb-false 16 (length d.dummies) (or_parts (nat_lt 16 (length d.dummies)) _ dummies).0

  own_first : (ds : List Definition) → AreOwn (earlier r (before ++ x ∷ [])) ds → (o : Option Definition) → defined_by r.names.arrays x.shape ≡ o → (b : Bool) → AreOwn (earlier r before) (defined_before o b ds)
  own_first ds rest (Some d) is b =
      (own_name d is, few_dummies d is, subst (λ ns. AreOwn ns ds) (earlier_last r before x ∙ ap (λ ns. earlier r before ++ ns) (named_here d is)) rest)
  own_first ds rest None is false = tt
  own_first ds rest None is true =
      subst (λ ns. AreOwn ns ds) (earlier_last r before x ∙ ap (λ ns. earlier r before ++ ns) (nothing_here (is_defining r before x)) ∙ append-nil (earlier r before)) rest
    where
      nothing_here : (c : Bool) → names_if c (defined_by r.names.arrays x.shape) ≡ []
      nothing_here true = ap (λ o. map (λ (e : Definition). e.name) (option_list o)) is
      nothing_here false = refl

abbrev Stage : Symbols → List ItemTree → List ItemTree → Type 0
Stage r before xs = (is_before_executables r before ≡ true) → AreOwn (earlier r before) (definitions_of r.names.arrays xs)

own_one : (r : Symbols) (before xs : List ItemTree) (x : ItemTree) → is_disputed r before x ≡ false → breaks_function_rules r before x ≡ false → Stage r (before ++ x ∷ []) xs → Stage r before (x ∷ xs)
own_one r before xs x undisputed lawful rest front =
    subst (AreOwn (earlier r before)) (sym (first_is r.names.arrays x xs)) (by (defined_by r.names.arrays x.shape) refl (is_specification x.shape) refl)
  where
    going_on : stands_before r x ≡ true → AreOwn (earlier r (before ++ x ∷ [])) (definitions_of r.names.arrays xs)
    going_on stands = rest (behind_one r before x ∙ ap₂ ◌&&◌ front stands)

    or_true : (a : Bool) → (a || true) ≡ true
    or_true true = refl
    or_true false = refl

    by : (o : Option Definition) → defined_by r.names.arrays x.shape ≡ o → (b : Bool) → is_specification x.shape ≡ b → AreOwn (earlier r before) (defined_before o b (definitions_of r.names.arrays xs))
    by (Some d) is b passes =
        own_first r before x front undisputed lawful (definitions_of r.names.arrays xs) (going_on (ap (λ o. is_specification x.shape || is_some o) is ∙ or_true (is_specification x.shape))) (Some d) is b
    by None is true passes =
        own_first r before x front undisputed lawful (definitions_of r.names.arrays xs) (going_on (ap (λ b. b || is_some (defined_by r.names.arrays x.shape)) passes)) None is true
    by None is false passes = tt

all_own : (r : Symbols) (before xs : List ItemTree) → told (is_disputed r) K4 before xs ≡ [] → told (breaks_function_rules r) K12 before xs ≡ [] → Stage r before xs
all_own r before [] disputed functions = λ front. none_own r.names.arrays (earlier r before)
all_own r before (x ∷ xs) disputed functions =
    let a = told_parts (is_disputed r) K4 before xs x disputed in
    let b = told_parts (breaks_function_rules r) K12 before xs x functions in
    own_one r before xs x a.0 b.0 (all_own r (before ++ x ∷ []) xs a.1 b.1)

own_all : (t : Nested) → checked t ≡ Ok t → AreOwn [] (definitions_of (symbols_of (flatten t)).names.arrays (flatten t))
own_all t accepted =
    let r = symbols_of (flatten t) in
    let xs = flatten t in
    let items = none_front (broken_items r xs) _ (nothing_broken t accepted) in
    let names = none_front (broken_names r xs) _ (none_behind (told has_repeated_label K1 [] xs) _ items) in
    let k4 = none_behind (told (has_real_name r) K3 [] xs) _ names in
    let k5 = none_behind (told (is_disputed r) K4 [] xs) _ k4 in
    let k8 = none_behind (told (is_wrongly_typed r) K5 [] xs) _ k5 in
    let k12 = none_behind (told (has_misuse r) K8 [] xs) _ k8 in
    subst (λ ns. AreOwn ns (definitions_of r.names.arrays xs)) (ap (flat_map (λ g. g.defined)) (given_none r))
    (all_own r [] xs (none_front (told (is_disputed r) K4 [] xs) _ k4) (none_front (told (breaks_function_rules r) K12 [] xs) _ k12) refl)

-- ---- by their places

few_at : (names : List (List ℕ)) (ds : List Definition) → AreOwn names ds → (k : ℕ) (d : Definition) → slice_get ds k ≡ Some d → length d.dummies ≤ 16
few_at names [] own k d at = absurd cc
few_at names (e ∷ ds) own zero d at = ap_le e d at own.1
  where
    ap_le : (e d : Definition) → Some e ≡ Some d → length e.dummies ≤ 16 → length d.dummies ≤ 16
    ap_le e d same h = subst (λ (x : Definition). length x.dummies ≤ 16) (ap (λ o. unwrap_or o d) same) h
few_at names (e ∷ ds) own (suc k) d at = few_at (names ++ e.name ∷ []) ds own.2 k d at

absent_at : (names : List (List ℕ)) (ds : List Definition) → AreOwn names ds → (k : ℕ) (d : Definition) → slice_get ds k ≡ Some d → is_one_of names d.name ≡ false
absent_at names [] own k d at = absurd cc
absent_at names (e ∷ ds) own zero d at =
    subst (λ (x : Definition). is_one_of names x.name ≡ false) (ap (λ o. unwrap_or o d) at) own.0
absent_at names (e ∷ ds) own (suc k) d at =
    (or_parts (is_one_of names d.name) (is_one_of (e.name ∷ []) d.name) (sym (list_any-append (bytes_eq d.name) names (e.name ∷ [])) ∙ absent_at (names ++ e.name ∷ []) ds own.2 k d at)).0

not_later : (names : List (List ℕ)) (e : Definition) (ds : List Definition) → AreOwn (names ++ e.name ∷ []) ds → (k : ℕ) (d : Definition) → slice_get ds k ≡ Some d → d.name ≡ e.name → ⊥
not_later names e ds own k d at same =
    let last = (or_parts (is_one_of names d.name) (is_one_of (e.name ∷ []) d.name) (sym (list_any-append (bytes_eq d.name) names (e.name ∷ [])) ∙ absent_at (names ++ e.name ∷ []) ds own k d at)).1 in
    true≢false (sym ((bytes_eq-Decides d.name e.name).1 same) ∙ (or_parts (bytes_eq d.name e.name) false last).0)

name_of : (e d : Definition) → Some e ≡ Some d → e.name ≡ d.name
name_of e d same = ap (λ o. (unwrap_or o d).name) same

one_place : (names : List (List ℕ)) (ds : List Definition) → AreOwn names ds → (j k : ℕ) (d e : Definition) → slice_get ds j ≡ Some d → slice_get ds k ≡ Some e → d.name ≡ e.name → j ≡ k
one_place names [] own j k d e first second same = absurd cc
one_place names (x ∷ ds) own zero zero d e first second same = refl
one_place names (x ∷ ds) own zero (suc k) d e first second same =
    absurd (not_later names x ds own.2 k e second (sym same ∙ sym (name_of x d first)))
one_place names (x ∷ ds) own (suc j) zero d e first second same =
    absurd (not_later names x ds own.2 j d first (same ∙ sym (name_of x e second)))
one_place names (x ∷ ds) own (suc j) (suc k) d e first second same =
    ap suc (one_place (names ++ x.name ∷ []) ds own.2 j k d e first second same)

-- ---- what is kept of them

shown_by_name : (n : List ℕ) (s : ShapeTree) (d : Definition) → shown_by n s ≡ Some d → d.name ≡ n
shown_by_name n (assignment letters es e) d h = sym (ap (λ o. (unwrap_or o d).name) h)
shown_by_name n (definition letters e) d h = sym (ap (λ o. (unwrap_or o d).name) h)
shown_by_name n s d h = absurd cc

shown_name : (n : List ℕ) (o : Option Member) (d : Definition) → shown_at n o ≡ Some d → d.name ≡ n
shown_name n (Some (Plain x)) d h = shown_by_name n (shape_tree x.form.shape.value) d h
shown_name n (Some (Loop' head shape range)) d h = absurd cc
shown_name n (Some (Block b)) d h = absurd cc
shown_name n None d h = absurd cc

pub functions_at : (t : Nested) → checked t ≡ Ok t → (n : List ℕ) (members : List Member) (o : Option FunctionAt) → IsFoundAt (definitions_of (symbols_of (flatten t)).names.arrays (flatten t)) n members o → IsFunctionAt (definitions_of (symbols_of (flatten t)).names.arrays (flatten t)) n members o
functions_at t accepted n members None found = found
functions_at t accepted n members (Some a) found =
    let ds = definitions_of (symbols_of (flatten t)).names.arrays (flatten t) in
    let own = own_all t accepted in
    record {
      definition = found.definition;
      shown = found.shown;
      found = found.found;
      only = λ k d h e. one_place [] ds own k a.at d found.definition h found.found (sym ((bytes_eq-Decides n d.name).0 e) ∙ sym (shown_name n (slice_get members a.member) found.definition found.shown));
      few = few_at [] ds own a.at found.definition found.found;
    }

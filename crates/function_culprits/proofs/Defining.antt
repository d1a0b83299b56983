-- What is told of a statement function is a witness.
use Rattle.std.proofs.Common.{◌≡◌, ℕ, Bool, true, false, ◌||◌, ◌&&◌, List, [], ◌∷◌, map, cond, refl, sym, ap, ap₂, ◌∙◌, subst, Option, Some, None, option_map, inl, inr}
use Rattle.std.specs.Prelude.{nat_lt, not, length, reverse, is_some, if◌then◌else◌, IsTrue, ◌⊎◌}
use Rattle.std.specs.List.{Contains, find, list_any}
use Rattle.std.specs.Option.{option_or}
use Rattle.std.specs.Str.{bytes_eq}
use Rattle.meaning.specs.NameRules.{breaks_function_rules, defined_here, dummy_names, has_bad_dummies, is_bad_definition, is_late, is_no_name, is_too_deep, repeats, sets_no_array, uses_dummy_as_function, uses_later}
use Rattle.meaning.specs.Scopes.{Definition, defined_by, definitions_of}
use Rattle.meaning.specs.Syntax.{ItemTree, ShapeTree, logical_if}
use Rattle.meaning.specs.Typing.{option_list}
use Rattle.meaning.specs.Uses.{Symbols, Use, is_before_executables, is_function, is_one_of, uses_in}
use Rattle.rule_passes.proofs.Membership.{any_reversed}
use Rattle.function_rules.specs.Earlier.{stands_twice}
use Rattle.function_rules.proofs.Twice.{twice_is}
use Rattle.finding.specs.Answers.{IsAnswer}
use Rattle.finding.proofs.Answering.{find_answer, or_answer, same_answer, test_answer}
use Rattle.finding.proofs.Found.{IsFound, any_mapped, any_same}
use Rattle.function_culprits.specs.Functions.{bad_dummies_in, bad_in, called_among, conditional_in, crowded_in, doubled_in, is_dummy_use, is_later_use, later_among, later_told, misdefined_at, misdefined_in, names_before, twice_in, unnamed_in}
use Rattle.function_culprits.specs.Told.{Told, late, conditional, crowded, unnamed, doubled, called, recursive, later}
use Rattle.function_culprits.specs.Witness.{DefinesHere, IsBy, IsByFunction, IsConditional, IsTold, IsTwice, Refers, breaks_but_deep, is_bad_but_deep}

-- ---- names that stand twice

twice_answer : (ns : List (List ℕ)) → IsAnswer (λ n. IsTwice n ns) (stands_twice ns) (twice_in ns)
twice_answer [] = refl
twice_answer (n ∷ ns) = by_test (is_one_of ns n) refl (stands_twice ns) (twice_in ns) (twice_answer ns)
  where
    by_test : (b : Bool) → is_one_of ns n ≡ b → (s : Bool) (o : Option (List ℕ)) → IsAnswer (λ m. IsTwice m ns) s o → IsAnswer (λ m. IsTwice m (n ∷ ns)) (b || s) (if b then Some n else o)
    by_test true here s o more = (refl, inl (refl, here))
    by_test false here s (Some m) more = (more.0, inr more.1)
    by_test false here s None more = more

-- ---- references to what stands later

later_same : (r : Symbols) (before : List ItemTree) (u : Use) → is_later_use r (names_before r before) u ≡ (is_some u.arguments && (is_function r u.name && not (is_one_of (map (λ (e : Definition). e.name) (reverse (definitions_of r.names.arrays before))) u.name)))
later_same r before u =
    let ds = definitions_of r.names.arrays before in
    let name : Definition → List ℕ = λ e. e.name in
    ap (λ b. is_some u.arguments && (is_function r u.name && not b)) (any_mapped name (bytes_eq u.name) ds ∙ sym (any_reversed (λ e. bytes_eq u.name (name e)) ds) ∙ sym (any_mapped name (bytes_eq u.name) (reverse ds)))

module _ (r : Symbols) (before : List ItemTree) (d : Definition) where
  abbrev earlier : List Definition
  earlier = reverse (definitions_of r.names.arrays before)

  abbrev by : Told → Type 0
  by = IsByFunction r before d

  told_later : (u : Use) → IsFound (is_later_use r (names_before r before)) (uses_in d.body) u → by (later_told d.name u.name)
  told_later u at = by_test (bytes_eq d.name u.name) refl
    where
      by_test : (b : Bool) → bytes_eq d.name u.name ≡ b → by (if b then recursive u.name else later u.name)
      by_test true same = (record { reference = u; stands = at.stands; name_is = refl; passes = at.passes }, same)
      by_test false same = record { reference = u; stands = at.stands; name_is = refl; passes = at.passes }

  doubled_answer : IsAnswer by (repeats [] (dummy_names d)) (doubled_in d)
  doubled_answer = by_option (twice_in (dummy_names d)) (twice_answer (dummy_names d))
    where
      by_option : (o : Option (List ℕ)) → IsAnswer (λ n. IsTwice n (dummy_names d)) (stands_twice (dummy_names d)) o → IsAnswer by (repeats [] (dummy_names d)) (option_map doubled o)
      by_option (Some n) h = (sym (twice_is (dummy_names d)) ∙ h.0, h.1)
      by_option None h = sym (twice_is (dummy_names d)) ∙ h

  dummies_answer : IsAnswer by (has_bad_dummies d) (bad_dummies_in d)
  dummies_answer =
      or_answer by (nat_lt 16 (length d.dummies)) (list_any is_no_name d.dummies || repeats [] (dummy_names d)) (crowded_in d) (option_or (unnamed_in d) (doubled_in d)) (test_answer by (nat_lt 16 (length d.dummies)) (crowded d.name) (λ h. (refl, h))) (or_answer by (list_any is_no_name d.dummies) (repeats [] (dummy_names d)) (unnamed_in d) (doubled_in d) (test_answer by (list_any is_no_name d.dummies) (unnamed d.name) (λ h. (refl, h))) doubled_answer)

  called_answer : IsAnswer by (uses_dummy_as_function d) (called_among d (uses_in d.body))
  called_answer =
      find_answer by (λ (u : Use). called u.name) (is_dummy_use d) (uses_in d.body) (λ u at. record { reference = u; stands = at.stands; name_is = refl; passes = at.passes })

  later_answer : IsAnswer by (uses_later r earlier d) (later_among r (names_before r before) d.name (uses_in d.body))
  later_answer =
      same_answer by (list_any (is_later_use r (names_before r before)) (uses_in d.body)) (uses_later r earlier d) (later_among r (names_before r before) d.name (uses_in d.body)) (any_same (is_later_use r (names_before r before)) _ (later_same r before) (uses_in d.body)) (find_answer by (λ (u : Use). later_told d.name u.name) (is_later_use r (names_before r before)) (uses_in d.body) told_later)

  bad_answer : IsAnswer by (is_bad_but_deep r earlier d) (bad_in r (names_before r before) d)
  bad_answer =
      or_answer by (has_bad_dummies d) (uses_dummy_as_function d || uses_later r earlier d) (bad_dummies_in d) (option_or (called_among d (uses_in d.body)) (later_among r (names_before r before) d.name (uses_in d.body))) dummies_answer (or_answer by (uses_dummy_as_function d) (uses_later r earlier d) (called_among d (uses_in d.body)) (later_among r (names_before r before) d.name (uses_in d.body)) called_answer later_answer)

  deeper : is_bad_but_deep r earlier d ≡ true → is_bad_definition r earlier d ≡ true
  deeper = by_tests (has_bad_dummies d) (uses_dummy_as_function d) (uses_later r earlier d) (is_too_deep earlier d)
    where
      by_tests : (a b c e : Bool) → (a || (b || c)) ≡ true → (a || (b || (c || e))) ≡ true
      by_tests true b c e h = refl
      by_tests false true c e h = refl
      by_tests false false true e h = refl
      by_tests false false false e h = absurd cc

-- ---- where they may stand

none_under : (r : Symbols) (s : ShapeTree) (d : Definition) → defined_by r.names.arrays s ≡ Some d → sets_no_array r s ≡ false
none_under r (logical_if e s) d is = absurd cc
none_under r s d is = refl

conditional_answer : (r : Symbols) (s : ShapeTree) → IsAnswer (λ k. (before : List ItemTree) (x : ItemTree) → x.shape ≡ s → IsBy r before x k) (sets_no_array r s) (conditional_in r s)
conditional_answer r (logical_if e s) = by_option (defined_by r.names.arrays s) refl
  where
    by_option : (o : Option Definition) → defined_by r.names.arrays s ≡ o → IsAnswer (λ k. (before : List ItemTree) (x : ItemTree) → x.shape ≡ logical_if e s → IsBy r before x k) (is_some o) (option_map (λ (d : Definition). conditional d.name) o)
    by_option None is = refl
    by_option (Some d) is =
        (refl, λ before x same. subst (λ t. IsConditional r t d.name) (sym same) (d, refl, record { defines = is }))
conditional_answer r s = refl

module _ (r : Symbols) (before : List ItemTree) (x : ItemTree) where
  abbrev defines : Option Definition
  defines = defined_by r.names.arrays x.shape

  abbrev may : Bool
  may = is_before_executables r before

  abbrev all_before : List Definition
  all_before = reverse (definitions_of r.names.arrays before)

  -- the rule and what of it is covered, by what the statement defines, whether it may, and what is under a logical IF
  abbrev breaks_by : (Definition → Bool) → Option Definition → Bool → Bool → Bool
  breaks_by bad o m under =
      ((is_some o && not m) || under) || list_any bad (if m then option_list o else [])

  none_defined : (bad : Definition → Bool) (m under : Bool) → breaks_by bad None m under ≡ under
  none_defined bad true true = refl
  none_defined bad true false = refl
  none_defined bad false true = refl
  none_defined bad false false = refl

  here : (bad : Definition → Bool) (d : Definition) (under : Bool) → under ≡ false → breaks_by bad (Some d) true under ≡ bad d
  here bad d true h = absurd cc
  here bad d false h = by_test (bad d)
    where
      by_test : (b : Bool) → (b || false) ≡ b
      by_test true = refl
      by_test false = refl

  told_here : (d : Definition) → defines ≡ Some d → may ≡ true → (k : Told) → IsByFunction r before d k → IsBy r before x k
  told_here d is early (late name) h = absurd h
  told_here d is early (conditional name) h = absurd h
  told_here d is early k h = (d, record { defines = is; early = early }, h)

  by_parts : (o : Option Definition) → defines ≡ o → (m : Bool) → may ≡ m → (k : Option Told) → misdefined_in r m (names_before r before) x.shape o ≡ k → IsTold r before x k
  by_parts None is m early (Some k) told =
      let a = subst (IsAnswer (λ j. (b : List ItemTree) (y : ItemTree) → y.shape ≡ x.shape → IsBy r b y j) (sets_no_array r x.shape)) told (conditional_answer r x.shape) in
      (ap₂ (λ p q. breaks_by (is_bad_definition r all_before) p q (sets_no_array r x.shape)) is early ∙ none_defined (is_bad_definition r all_before) m (sets_no_array r x.shape) ∙ a.0, a.1 before x refl)
  by_parts None is m early None told =
      let a = subst (IsAnswer (λ j. (b : List ItemTree) (y : ItemTree) → y.shape ≡ x.shape → IsBy r b y j) (sets_no_array r x.shape)) told (conditional_answer r x.shape) in
      ap₂ (λ p q. breaks_by (is_bad_but_deep r all_before) p q (sets_no_array r x.shape)) is early ∙ none_defined (is_bad_but_deep r all_before) m (sets_no_array r x.shape) ∙ a
  by_parts (Some d) is false early (Some k) told =
      let e : late d.name ≡ k = cc in
      (ap₂ (λ p q. breaks_by (is_bad_definition r all_before) p q (sets_no_array r x.shape)) is early, subst (IsBy r before x) e (d, refl, record { defines = is }, early))
  by_parts (Some d) is false early None told = absurd cc
  by_parts (Some d) is true early (Some k) told =
      let a = subst (IsAnswer (IsByFunction r before d) (is_bad_but_deep r all_before d)) told (bad_answer r before d) in
      (ap₂ (λ p q. breaks_by (is_bad_definition r all_before) p q (sets_no_array r x.shape)) is early ∙ here (is_bad_definition r all_before) d (sets_no_array r x.shape) (none_under r x.shape d is) ∙ deeper r before d a.0, told_here d is early k a.1)
  by_parts (Some d) is true early None told =
      let a = subst (IsAnswer (IsByFunction r before d) (is_bad_but_deep r all_before d)) told (bad_answer r before d) in
      ap₂ (λ p q. breaks_by (is_bad_but_deep r all_before) p q (sets_no_array r x.shape)) is early ∙ here (is_bad_but_deep r all_before) d (sets_no_array r x.shape) (none_under r x.shape d is) ∙ a

pub functions_told : (r : Symbols) (before : List ItemTree) (x : ItemTree) → IsTold r before x (misdefined_at r before x)
functions_told r before x =
    by_parts r before x (defined_by r.names.arrays x.shape) refl (is_before_executables r before) refl _ refl

-- The pairs of the rules K.
use Rattle.std.proofs.Common.{◌≡◌, ℕ, inl, inr, Bool, true, false, List, [], ◌∷◌, ◌++◌, append_assoc, Some, Err, refl, sym, ap, subst, ◌∙◌}
use Rattle.std.specs.Prelude.{◌⊎◌}
use Rattle.std.specs.List.{AllByRecursion, Contains}
use Rattle.meaning.specs.declared.refusal.Broken.{Broken}
use Rattle.meaning.specs.declared.refusal.Rule.{Rule}
use Rattle.meaning.specs.declared.refusal.Rule.TheVariants.{K1, K2, K3, K4, K5, K6, K7, K8, K9, K10, K11, K12, K13}
use Rattle.meaning.specs.Initial.{has_bad_data}
use Rattle.meaning.specs.LabelRules.{breaks_transfers, has_bad_output, has_repeated_label}
use Rattle.meaning.specs.LoopRules.{breaks_loops}
use Rattle.meaning.specs.NameRules.{breaks_function_rules, broken_names, has_misuse, has_real_name, has_unknown_function, is_disputed, is_wrongly_typed, told}
use Rattle.meaning.specs.NumberRules.{has_bad_number, has_large_array}
use Rattle.meaning.specs.Refusals.{least, unless}
use Rattle.meaning.specs.Rules.{broken_lists, broken_rules, checked}
use Rattle.meaning.specs.Statements.{broken_if}
use Rattle.meaning.specs.Surroundings.{Around, in_arm, in_body, in_range, told_in, told_in_arms}
use Rattle.meaning.specs.Syntax.{ItemTree}
use Rattle.meaning.specs.Trees.{Arms, Members, Nested, arm, block, flatten, loop, no_arms, none, plain}
use Rattle.meaning.specs.Uses.{Symbols, symbols_of}
use Rattle.k_rules.specs.Judged.{rules_first, rules_last}
use Rattle.all_breaches.specs.Ordered.{HaveSame}
use Rattle.all_breaches.specs.Parts.{pairs_found}
use Rattle.all_breaches.proofs.Members.{In, contains, in_either, in_from, in_left, in_right}
use Rattle.all_breaches.proofs.Sorting.{Apart}
use Rattle.all_breaches.proofs.Apart.{apart_in_phase, phase_of}

-- ---- what holds of the pairs of a rule holds of all that is told of it

all-append : (P : Broken → Type 0) (xs ys : List Broken) → AllByRecursion P xs → AllByRecursion P ys → AllByRecursion P (xs ++ ys)
all-append P [] ys h k = k
all-append P (x ∷ xs) ys h k = (h.0, all-append P xs ys h.1 k)

module _ (P : Broken → Type 0) (rule : Rule) (holds : (line : ℕ) → P (record { line = line; rule = rule })) where
  all_if : (t : Bool) (line : ℕ) → AllByRecursion P (broken_if t line rule)
  all_if true line = (holds line, tt)
  all_if false line = tt

  all_told : (breaks : List ItemTree → ItemTree → Bool) (before xs : List ItemTree) → AllByRecursion P (told breaks rule before xs)
  unfolding told
  all_told breaks before [] = tt
  all_told breaks before (x ∷ xs) =
      all-append P (broken_if (breaks before x) x.line rule) (told breaks rule (before ++ x ∷ []) xs) (all_if (breaks before x) x.line) (all_told breaks (before ++ x ∷ []) xs)

  mutual
    unfolding told_in

    all_in : (breaks : Around → ItemTree → Bool) (a : Around) (ms : Members) → AllByRecursion P (told_in breaks rule a ms)
    all_in breaks a none = tt
    all_in breaks a (plain x ms) =
        all-append P (broken_if (breaks a x) x.line rule) (told_in breaks rule a ms) (all_if (breaks a x) x.line) (all_in breaks a ms)
    all_in breaks a (loop x range ms) =
        all-append P (broken_if (breaks a x) x.line rule) (told_in breaks rule (in_range a x range) range ++ told_in breaks rule a ms) (all_if (breaks a x) x.line)
        (all-append P (told_in breaks rule (in_range a x range) range) (told_in breaks rule a ms) (all_in breaks (in_range a x range) range) (all_in breaks a ms))
    all_in breaks a (block arms x ms) =
        all-append P (told_in_arms breaks rule a arms) (broken_if (breaks a x) x.line rule ++ told_in breaks rule a ms) (all_in_arms breaks a arms)
        (all-append P (broken_if (breaks a x) x.line rule) (told_in breaks rule a ms) (all_if (breaks a x) x.line) (all_in breaks a ms))

    all_in_arms : (breaks : Around → ItemTree → Bool) (a : Around) (arms : Arms) → AllByRecursion P (told_in_arms breaks rule a arms)
    all_in_arms breaks a no_arms = tt
    all_in_arms breaks a (arm x ms arms) =
        all-append P (broken_if (breaks a x) x.line rule) (told_in breaks rule (in_arm a ms) ms ++ told_in_arms breaks rule a arms) (all_if (breaks a x) x.line)
        (all-append P (told_in breaks rule (in_arm a ms) ms) (told_in_arms breaks rule a arms) (all_in breaks (in_arm a ms) ms) (all_in_arms breaks a arms))

six_all : (P : Broken → Type 0) (a b c d e f : List Broken) → AllByRecursion P a → AllByRecursion P b → AllByRecursion P c → AllByRecursion P d → AllByRecursion P e → AllByRecursion P f → AllByRecursion P (a ++ (b ++ (c ++ (d ++ (e ++ f)))))
six_all P a b c d e f g h i j k l =
    all-append P a _ g (all-append P b _ h (all-append P c _ i (all-append P d _ j (all-append P e f k l))))

-- the order of parts is no matter
in_front : (xs ys zs : List Broken) (b : Broken) → In b (xs ++ (ys ++ zs)) → In b (ys ++ (xs ++ zs))
in_front xs ys zs b h = by_first (in_either xs (ys ++ zs) b h)
  where
    by_rest : In b ys ⊎ In b zs → In b (ys ++ (xs ++ zs))
    by_rest (inl i) = in_left ys (xs ++ zs) b i
    by_rest (inr i) = in_right ys (xs ++ zs) b (in_right xs zs b i)

    by_first : In b xs ⊎ In b (ys ++ zs) → In b (ys ++ (xs ++ zs))
    by_first (inl i) = in_right ys (xs ++ zs) b (in_left xs zs b i)
    by_first (inr i) = by_rest (in_either ys zs b i)

-- of the third phase
abbrev IsThird : Broken → Type 0
IsThird b = phase_of b.rule ≡ 3

module _ (t : Nested) where
  abbrev all : List ItemTree
  all = flatten t

  abbrev r : Symbols
  r = symbols_of (flatten t)

  abbrev first : List Broken
  first = rules_first r all

  abbrev data_told : List Broken
  data_told = told (has_bad_data r) K10 [] all

  abbrev last : List Broken
  last = rules_last r all t.body

  names_third : AllByRecursion IsThird (broken_names r all)
  names_third =
      six_all IsThird (told (has_real_name r) K3 [] all) (told (is_disputed r) K4 [] all) (told (is_wrongly_typed r) K5 [] all) (told (has_misuse r) K8 [] all) (told (breaks_function_rules r) K12 [] all) (told (has_unknown_function r) K13 [] all)
      (all_told IsThird K3 (λ n. refl) (has_real_name r) [] all) (all_told IsThird K4 (λ n. refl) (is_disputed r) [] all) (all_told IsThird K5 (λ n. refl) (is_wrongly_typed r) [] all)
      (all_told IsThird K8 (λ n. refl) (has_misuse r) [] all) (all_told IsThird K12 (λ n. refl) (breaks_function_rules r) [] all) (all_told IsThird K13 (λ n. refl) (has_unknown_function r) [] all)

  first_third : AllByRecursion IsThird first
  first_third =
      all-append IsThird (told has_repeated_label K1 [] all) _ (all_told IsThird K1 (λ n. refl) has_repeated_label [] all)
      (all-append IsThird (broken_names r all) _ names_third
      (all-append IsThird (told (has_bad_number r) K6 [] all) (told (has_large_array r) K7 [] all) (all_told IsThird K6 (λ n. refl) (has_bad_number r) [] all) (all_told IsThird K7 (λ n. refl) (has_large_array r) [] all)))

  last_third : AllByRecursion IsThird last
  last_third =
      all-append IsThird (told (has_bad_output r all) K11 [] all) _ (all_told IsThird K11 (λ n. refl) (has_bad_output r all) [] all)
      (all-append IsThird (told_in (breaks_transfers r all) K2 (in_body t.body) t.body) (told_in (breaks_loops r) K9 (in_body t.body) t.body) (all_in IsThird K2 (λ n. refl) (breaks_transfers r all) (in_body t.body) t.body) (all_in IsThird K9 (λ n. refl) (breaks_loops r) (in_body t.body) t.body))

  whole : broken_rules t ≡ first ++ (data_told ++ last)
  whole =
      regroup (told has_repeated_label K1 [] all) (broken_names r all) (told (has_bad_number r) K6 [] all) (told (has_large_array r) K7 [] all) data_told (told (has_bad_output r all) K11 [] all) (broken_lists r t)
    where
      regroup : (a b c d e f g : List Broken) → (a ++ (b ++ (c ++ (d ++ (e ++ f))))) ++ g ≡ (a ++ (b ++ (c ++ d))) ++ (e ++ (f ++ g))
      regroup a b c d e f g = simp append_assoc

  -- ---- apart

  all_third : AllByRecursion IsThird (broken_rules t)
  all_third =
      subst (AllByRecursion IsThird) (sym whole)
      (all-append IsThird first (data_told ++ last) first_third
      (all-append IsThird data_told last (all_told IsThird K10 (λ n. refl) (has_bad_data r) [] all) last_third))

  pub unit_apart : Apart (broken_rules t)
  unit_apart = apart_in_phase 3 (broken_rules t) all_third

  -- ---- the same pairs

  pub unit_same : (made : List Broken) → made ≡ pairs_found r all t.body → HaveSame made (broken_rules t)
  unit_same made is b = (
    λ h. contains (broken_rules t) b (subst (In b) (sym whole) (in_front data_told first last b (in_from (pairs_found r all t.body) b (subst (λ xs. Contains xs b) is h)))),
    λ h. subst (λ xs. Contains xs b) (sym is) (contains (pairs_found r all t.body) b (in_front first data_told last b (subst (In b) whole (in_from (broken_rules t) b h)))),
  )

  -- ---- the least of them

  pub unit_told : (h : Broken) → least (broken_rules t) ≡ Some h → checked t ≡ Err h
  unfolding checked
  unit_told h e = ap (λ o. unless o t) e

  -- by the statements as the code has them
  pub found_at : {xs : List ItemTree} {ms : Members} → xs ≡ flatten t → ms ≡ t.body → pairs_found (symbols_of xs) xs ms ≡ pairs_found r all t.body
  found_at {xs} {ms} is_all is_body =
      ap (λ ys. pairs_found (symbols_of ys) ys ms) is_all ∙ ap (λ ns. pairs_found (symbols_of (flatten t)) (flatten t) ns) is_body

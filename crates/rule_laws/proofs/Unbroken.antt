-- The statements of a program unit that keeps the rules break none.
use Rattle.std.proofs.Common.{◌≡◌, ℕ, Bool, true, false, List, [], ◌∷◌, ◌++◌, Ok, refl}
use Rattle.meaning.specs.declared.refusal.Rule.{Rule}
use Rattle.meaning.specs.declared.refusal.Rule.TheVariants.{K1, K3, K4, K5, K6, K7, K8, K10, K11, K12, K13}
use Rattle.meaning.specs.Initial.{has_bad_data}
use Rattle.meaning.specs.LabelRules.{has_bad_output, has_repeated_label}
use Rattle.meaning.specs.NameRules.{breaks_function_rules, broken_names, has_misuse, has_real_name, has_unknown_function, is_disputed, is_wrongly_typed, told}
use Rattle.meaning.specs.NumberRules.{has_bad_number, has_large_array}
use Rattle.meaning.specs.Rules.{broken_items, checked}
use Rattle.meaning.specs.Statements.{broken_if}
use Rattle.meaning.specs.Syntax.{ItemTree}
use Rattle.meaning.specs.Trees.{Nested, flatten}
use Rattle.meaning.specs.Uses.{Symbols, symbols_of}
use Rattle.storage.proofs.Unbroken.{none_front, nothing_broken}
use Rattle.rule_laws.specs.Lawful.{EachBehind, IsLawful}

pub none_behind : {A : Type 0} (xs ys : List A) → (xs ++ ys) ≡ [] → ys ≡ []
none_behind [] ys none = none
none_behind (x ∷ xs) ys none = absurd cc

pub not_told : (b : Bool) (line : ℕ) (rule : Rule) → broken_if b line rule ≡ [] → b ≡ false
not_told false line rule none = refl
not_told true line rule none = absurd cc

told_parts : (breaks : List ItemTree → ItemTree → Bool) (rule : Rule) (before xs : List ItemTree) (x : ItemTree) → told breaks rule before (x ∷ xs) ≡ [] → (breaks before x ≡ false) × (told breaks rule (before ++ x ∷ []) xs ≡ [])
unfolding told
told_parts breaks rule before xs x none = (
  not_told (breaks before x) x.line rule (none_front (broken_if (breaks before x) x.line rule) (told breaks rule (before ++ x ∷ []) xs) none),
  none_behind (broken_if (breaks before x) x.line rule) (told breaks rule (before ++ x ∷ []) xs) none,
)

-- none of these rules is told of statements behind others
record AreUntold (r : Symbols) (all before xs : List ItemTree) : Type 0 where
  k1 : told has_repeated_label K1 before xs ≡ []
  k3 : told (has_real_name r) K3 before xs ≡ []
  k4 : told (is_disputed r) K4 before xs ≡ []
  k5 : told (is_wrongly_typed r) K5 before xs ≡ []
  k8 : told (has_misuse r) K8 before xs ≡ []
  k12 : told (breaks_function_rules r) K12 before xs ≡ []
  k13 : told (has_unknown_function r) K13 before xs ≡ []
  k6 : told (has_bad_number r) K6 before xs ≡ []
  k7 : told (has_large_array r) K7 before xs ≡ []
  k10 : told (has_bad_data r) K10 before xs ≡ []
  k11 : told (has_bad_output r all) K11 before xs ≡ []

each_lawful : (r : Symbols) (all before xs : List ItemTree) → AreUntold r all before xs → EachBehind (IsLawful r all) before xs
each_lawful r all before [] u = tt
each_lawful r all before (x ∷ xs) u =
    let k1 = told_parts has_repeated_label K1 before xs x u.k1 in
    let k3 = told_parts (has_real_name r) K3 before xs x u.k3 in
    let k4 = told_parts (is_disputed r) K4 before xs x u.k4 in
    let k5 = told_parts (is_wrongly_typed r) K5 before xs x u.k5 in
    let k8 = told_parts (has_misuse r) K8 before xs x u.k8 in
    let k12 = told_parts (breaks_function_rules r) K12 before xs x u.k12 in
    let k13 = told_parts (has_unknown_function r) K13 before xs x u.k13 in
    let k6 = told_parts (has_bad_number r) K6 before xs x u.k6 in
    let k7 = told_parts (has_large_array r) K7 before xs x u.k7 in
    let k10 = told_parts (has_bad_data r) K10 before xs x u.k10 in
    let k11 = told_parts (has_bad_output r all) K11 before xs x u.k11 in (
      record { labelled = k1.0; typed = k3.0; undisputed = k4.0; agreeing = k5.0; used = k8.0; defined = k12.0; known = k13.0; constant = k6.0; sized = k7.0; given = k10.0; written = k11.0 },
      each_lawful r all (before ++ x ∷ []) xs (record { k1 = k1.1; k3 = k3.1; k4 = k4.1; k5 = k5.1; k8 = k8.1; k12 = k12.1; k13 = k13.1; k6 = k6.1; k7 = k7.1; k10 = k10.1; k11 = k11.1 }),
    )

untold : (r : Symbols) (all : List ItemTree) → broken_items r all ≡ [] → AreUntold r all [] all
untold r all none =
    let names = broken_names r all in
    let b1 = none_behind (told has_repeated_label K1 [] all) _ none in
    let n3 = none_front names _ b1 in
    let n4 = none_behind (told (has_real_name r) K3 [] all) _ n3 in
    let n5 = none_behind (told (is_disputed r) K4 [] all) _ n4 in
    let n8 = none_behind (told (is_wrongly_typed r) K5 [] all) _ n5 in
    let n12 = none_behind (told (has_misuse r) K8 [] all) _ n8 in
    let b6 = none_behind names _ b1 in
    let b7 = none_behind (told (has_bad_number r) K6 [] all) _ b6 in
    let b10 = none_behind (told (has_large_array r) K7 [] all) _ b7 in
    record {
      k1 = none_front (told has_repeated_label K1 [] all) _ none;
      k3 = none_front (told (has_real_name r) K3 [] all) _ n3;
      k4 = none_front (told (is_disputed r) K4 [] all) _ n4;
      k5 = none_front (told (is_wrongly_typed r) K5 [] all) _ n5;
      k8 = none_front (told (has_misuse r) K8 [] all) _ n8;
      k12 = none_front (told (breaks_function_rules r) K12 [] all) _ n12;
      k13 = none_behind (told (breaks_function_rules r) K12 [] all) _ n12;
      k6 = none_front (told (has_bad_number r) K6 [] all) _ b6;
      k7 = none_front (told (has_large_array r) K7 [] all) _ b7;
      k10 = none_front (told (has_bad_data r) K10 [] all) _ b10;
      k11 = none_behind (told (has_bad_data r) K10 [] all) _ b10;
    }

pub all_lawful : (t : Nested) → checked t ≡ Ok t → EachBehind (IsLawful (symbols_of (flatten t)) (flatten t)) [] (flatten t)
all_lawful t accepted =
    let all = flatten t in
    let r = symbols_of all in
    each_lawful r all [] all (untold r all (none_front (broken_items r all) _ (nothing_broken t accepted)))

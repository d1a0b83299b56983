-- The least pair of all rules, that on DATA statements last.
use Rattle.std.proofs.Common.{◌≡◌, ℕ, ◌+◌, ◌<◌, Ok, Err, Result, subst, Bool, true, false, List, [], ◌∷◌, ◌++◌, append_assoc, length, get_or, take, Option, Some, None, option_map, refl, sym, ap, ◌∙◌, arith}
use Rattle.std.specs.Prelude.{if◌then◌else◌, ◌==◌}
use Rattle.std.proofs.lemmas.Bool.Decides.{nat_tests}
use Rattle.std.proofs.lemmas.List.{take_more}
use Rattle.meaning.specs.declared.refusal.Broken.{Broken}
use Rattle.meaning.specs.declared.refusal.Refusal.{Refusal}
use Rattle.meaning.specs.declared.refusal.Refusal.TheVariants.{Memory, Rule as RuleTold}
use Rattle.meaning.specs.declared.refusal.Rule.{Rule}
use Rattle.meaning.specs.declared.refusal.Rule.TheVariants.{K1, K2, K6, K7, K9, K10, K11}
use Rattle.meaning.specs.Initial.{has_bad_data}
use Rattle.meaning.specs.LabelRules.{has_repeated_label, breaks_transfers, has_bad_output}
use Rattle.meaning.specs.LoopRules.{breaks_loops}
use Rattle.meaning.specs.NameRules.{told, broken_names}
use Rattle.meaning.specs.NumberRules.{has_bad_number, has_large_array}
use Rattle.meaning.specs.Ranks.{rank_of}
use Rattle.meaning.specs.Refusals.{is_less, least, lesser, merge, unless}
use Rattle.meaning.specs.Reports.{Gives}
use Rattle.meaning.specs.Rules.{broken_lists, broken_rules, checked}
use Rattle.meaning.specs.Statements.{broken_if}
use Rattle.meaning.specs.Surroundings.{Around, in_arm, in_body, in_range, told_in, told_in_arms}
use Rattle.meaning.specs.Syntax.{ItemTree}
use Rattle.meaning.specs.Trees.{Arms, Members, Nested, arm, block, flatten, loop, no_arms, none, plain}
use Rattle.meaning.specs.Uses.{Symbols, symbols_of}
use Rattle.meaning.proofs.Least.{least-append, merge-merge}
use Rattle.k_rules.specs.declared.verdict.Facts.{Facts}
use Rattle.k_rules.specs.Judged.{IsDecided, rules_but_data, rules_first, rules_last, with_data}
use Rattle.data_rules.proofs.DataPairing.{Each}
use Rattle.rule_passes.proofs.Merging.{told_of}

-- a pair of another rank
abbrev Other : Option Broken → Type 0
Other None = Unit {0}
Other (Some b) = (rank_of b.rule == 10) ≡ false

never_both : (a b : Broken) → is_less a b ≡ true → is_less b a ≡ true → ⊥
never_both a b p q = grind (arith, nat_tests)

one_of_two : (a b : Broken) → (rank_of b.rule == 10) ≡ false → rank_of a.rule ≡ 10 → is_less a b ≡ false → is_less b a ≡ false → ⊥
one_of_two a b other ten p q = grind (arith, nat_tests)

ten_or_less : (a b : Broken) → (rank_of b.rule == 10) ≡ false → rank_of a.rule ≡ 10 → lesser a b ≡ lesser b a
ten_or_less a b other ten = by_tests (is_less a b) (is_less b a) refl refl
  where
    by_tests : (s t : Bool) → is_less a b ≡ s → is_less b a ≡ t → lesser a b ≡ lesser b a
    by_tests true true p q = absurd (never_both a b p q)
    by_tests true false p q = rw (p, q) refl
    by_tests false true p q = rw (p, q) refl
    by_tests false false p q = absurd (one_of_two a b other ten p q)

swap_ten : (l : Option ℕ) (o p : Option Broken) → o ≡ option_map (λ n. record { line = n; rule = K10 }) l → Other p → merge o p ≡ merge p o
swap_ten l o p is other = ap (λ q. merge q p) is ∙ by_lines l p other ∙ sym (ap (merge p) is)
  where
    by_lines : (l : Option ℕ) (p : Option Broken) → Other p → merge (option_map (λ n. record { line = n; rule = K10 }) l) p ≡ merge p (option_map (λ n. record { line = n; rule = K10 }) l)
    by_lines None None h = refl
    by_lines None (Some b) h = refl
    by_lines (Some n) None h = refl
    by_lines (Some n) (Some b) h = ap Some (ten_or_less (record { line = n; rule = K10 }) b h refl)

lesser_other : (a : Broken) (o : Option Broken) → Other (Some a) → Other o → Other (merge (Some a) o)
lesser_other a None h k = h
lesser_other a (Some b) h k = by_test (is_less b a)
  where
    by_test : (t : Bool) → (rank_of (if t then b else a).rule == 10) ≡ false
    by_test true = k
    by_test false = h

least_other : (bs : List Broken) → Each (λ b. (rank_of b.rule == 10) ≡ false) bs → Other (least bs)
least_other [] h = tt
least_other (b ∷ bs) h = lesser_other b (least bs) h.0 (least_other bs h.1)

each_both : (bs cs : List Broken) → Each (λ b. (rank_of b.rule == 10) ≡ false) bs → Each (λ b. (rank_of b.rule == 10) ≡ false) cs → Each (λ b. (rank_of b.rule == 10) ≡ false) (bs ++ cs)
each_both [] cs h k = k
each_both (b ∷ bs) cs h k = (h.0, each_both bs cs h.1 k)

module _ (rule : Rule) (other : (rank_of rule == 10) ≡ false) where
  abbrev Others : List Broken → Type 0
  Others bs = Each (λ b. (rank_of b.rule == 10) ≡ false) bs

  here_other : (b : Bool) (line : ℕ) → Others (broken_if b line rule)
  here_other true line = (other, tt)
  here_other false line = tt

  told_other : (breaks : List ItemTree → ItemTree → Bool) (before xs : List ItemTree) → Others (told breaks rule before xs)
  unfolding told
  told_other breaks before [] = tt
  told_other breaks before (x ∷ xs) =
      each_both (broken_if (breaks before x) x.line rule) (told breaks rule (before ++ x ∷ []) xs) (here_other (breaks before x) x.line) (told_other breaks (before ++ x ∷ []) xs)

  mutual
    unfolding told_in

    lists_other : (breaks : Around → ItemTree → Bool) (a : Around) (ms : Members) → Others (told_in breaks rule a ms)
    lists_other breaks a none = tt
    lists_other breaks a (plain x ms) =
        each_both (broken_if (breaks a x) x.line rule) (told_in breaks rule a ms) (here_other (breaks a x) x.line) (lists_other breaks a ms)
    lists_other breaks a (loop x range ms) =
        each_both (broken_if (breaks a x) x.line rule) (told_in breaks rule (in_range a x range) range ++ told_in breaks rule a ms) (here_other (breaks a x) x.line)
        (each_both (told_in breaks rule (in_range a x range) range) (told_in breaks rule a ms) (lists_other breaks (in_range a x range) range) (lists_other breaks a ms))
    lists_other breaks a (block arms x ms) =
        each_both (told_in_arms breaks rule a arms) (broken_if (breaks a x) x.line rule ++ told_in breaks rule a ms) (arms_other breaks a arms)
        (each_both (broken_if (breaks a x) x.line rule) (told_in breaks rule a ms) (here_other (breaks a x) x.line) (lists_other breaks a ms))

    arms_other : (breaks : Around → ItemTree → Bool) (a : Around) (arms : Arms) → Others (told_in_arms breaks rule a arms)
    arms_other breaks a no_arms = tt
    arms_other breaks a (arm x ms arms) =
        each_both (broken_if (breaks a x) x.line rule) (told_in breaks rule (in_arm a ms) ms ++ told_in_arms breaks rule a arms) (here_other (breaks a x) x.line)
        (each_both (told_in breaks rule (in_arm a ms) ms) (told_in_arms breaks rule a arms) (lists_other breaks (in_arm a ms) ms) (arms_other breaks a arms))

-- a rule of rank 10 between others
between : (front ts os : List Broken) (l : Option ℕ) → least ts ≡ option_map (λ n. record { line = n; rule = K10 }) l → Each (λ b. (rank_of b.rule == 10) ≡ false) os → least (front ++ (ts ++ os)) ≡ merge (merge (least front) (least os)) (least ts)
between front ts os l is others =
    least-append front (ts ++ os)
    ∙ ap (merge (least front)) (least-append ts os ∙ swap_ten l (least ts) (least os) is (least_other os others))
    ∙ merge-merge (least front) (least os) (least ts)

-- all rules
pub judged : (t : Nested) → least (broken_rules t) ≡ merge (merge (least (rules_first (symbols_of (flatten t)) (flatten t))) (least (rules_last (symbols_of (flatten t)) (flatten t) t.body))) (least (told (has_bad_data (symbols_of (flatten t))) K10 [] (flatten t)))
judged t =
    let all = flatten t in
    let r = symbols_of all in
    let data_told = told (has_bad_data r) K10 [] all in
    let line = told_of K10 (has_bad_data r) [] all in
    ap least (regroup (told has_repeated_label K1 [] all) (broken_names r all) (told (has_bad_number r) K6 [] all) (told (has_large_array r) K7 [] all) data_told (told (has_bad_output r all) K11 [] all) (broken_lists r t))
    ∙ between (rules_first r all) data_told (rules_last r all t.body) line.0 line.1
    (each_both (told (has_bad_output r all) K11 [] all) (broken_lists r t) (told_other K11 refl (has_bad_output r all) [] all)
    (each_both (told_in (breaks_transfers r all) K2 (in_body t.body) t.body) (told_in (breaks_loops r) K9 (in_body t.body) t.body)
    (lists_other K2 refl (breaks_transfers r all) (in_body t.body) t.body) (lists_other K9 refl (breaks_loops r) (in_body t.body) t.body)))
  where
    regroup : (a b c d e f g : List Broken) → (a ++ (b ++ (c ++ (d ++ (e ++ f))))) ++ g ≡ (a ++ (b ++ (c ++ d))) ++ (e ++ (f ++ g))
    regroup a b c d e f g = simp append_assoc

module _ (t : Nested) where
  abbrev least_by : Symbols → List ItemTree → List ItemTree → Option Broken
  least_by r xs ys = merge (least (rules_first r xs)) (least (rules_last r ys t.body))

  pub broken_all : (r : Symbols) (xs ys : List ItemTree) (others : Option Broken) → r ≡ symbols_of (flatten t) → xs ≡ flatten t → ys ≡ flatten t → others ≡ least (rules_but_data r ys t.body) → with_data xs others ≡ least (broken_rules t)
  broken_all r xs ys others symbols_are xs_are ys_are is =
      ap (with_data xs) (is ∙ least-append (rules_first r ys) (rules_last r ys t.body) ∙ ap (λ q. least_by q ys ys) symbols_are
      ∙ ap (λ zs. least_by (symbols_of (flatten t)) zs zs) ys_are)
      ∙ ap (λ zs. with_data zs (least_by (symbols_of (flatten t)) (flatten t) (flatten t))) xs_are
      ∙ sym (judged t)

pub with_data_at : (all : List ItemTree) (others : Option Broken) {r : Symbols} → r ≡ symbols_of all → merge others (least (told (has_bad_data r) K10 [] all)) ≡ with_data all others
with_data_at all others is = ap (λ q. merge others (least (told (has_bad_data q) K10 [] all))) is

pub allowed : (o : Option Broken) → None ≡ o → unless {A = Unit {0}} o tt ≡ Ok tt
allowed o is = ap (λ p. unless {A = Unit {0}} p tt) (sym is)

pub refused : (b : Broken) (o : Option Broken) → Some b ≡ o → unless {A = Unit {0}} o tt ≡ Err b
refused b o is = ap (λ p. unless {A = Unit {0}} p tt) (sym is)

-- the least pair of all rules is told
module _ (t : Nested) where
  decided_at : (result : Result Facts Refusal) (o : Option Broken) → IsDecided o result → Gives (λ f. t) result (unless o t)
  decided_at (Ok f) None h = refl
  decided_at (Ok f) (Some b) h = absurd cc
  decided_at (Err Memory) o h = tt
  decided_at (Err (RuleTold rule line)) None h = absurd cc
  decided_at (Err (RuleTold rule line)) (Some b) h = let same : b ≡ record { line = line; rule = rule } = cc in ap Err same

  pub told_by : (result : Result Facts Refusal) (o : Option Broken) → o ≡ least (broken_rules t) → IsDecided o result → Gives (λ f. t) result (checked t)
  unfolding checked
  told_by result o is decided = subst (λ p. Gives (λ f. t) result (unless p t)) is (decided_at result o decided)

-- the least of pairs, one pair more
pub least_more : (bs : List Broken) (i : ℕ) (d : Broken) (best next : Option Broken) → i < length bs → best ≡ least (take i bs) → next ≡ merge best (Some (get_or bs i d)) → next ≡ least (take (i + 1) bs)
least_more bs i d best next lt so_far added =
    let b = get_or bs i d in
    added ∙ ap (λ o. merge o (Some b)) so_far ∙ sym (least-append (take i bs) (b ∷ [])) ∙ ap least (sym (take_more bs i d lt))

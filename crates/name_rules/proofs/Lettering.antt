-- Ranges of letters that have letters in common.
use Rattle.std.proofs.Common.{◌≡◌, ℕ, zero, suc, ◌+◌, ◌-◌, ◌<◌, ◌≤◌, Bool, true, false, ◌&&◌, ◌||◌, List, [], ◌∷◌, length, get_or, take, map, inl, inr, None, refl, sym, ap, ap₂, ◌∙◌, arith}
use Rattle.std.specs.Prelude.{not, nat_le, nat_lt, ◌==◌}
use Rattle.std.specs.Borrow.{Bor}
use Rattle.std.specs.List.{list_any}
use Rattle.std.proofs.lemmas.Bool.{and_from, and_parts, both_ways, cases_lt, eq-eqb, eqb-true, false_from_ne_true, le-leb, le-ltb, leb-true, ltb-false, ltb-true, not-true, not_from_false, or_cases, or_left, or_right}
use Rattle.std.specs.BTreeSet.{BTreeSet, contains}
use Rattle.std.specs.Ordering.{nat_cmp}
use Rattle.rule_passes.proofs.Membership.{or_false, or_swap}
use Rattle.std.proofs.lemmas.List.Folds.{list_any-append}
use Rattle.symbols.proofs.Passes.{map_more}
use Rattle.meaning.specs.declared.syntax.Letters.{Letters}
use Rattle.meaning.specs.NameRules.{is_reversed, last_letter, letters_clash, meet}
use Rattle.meaning.specs.Syntax.{LettersTree}
use Rattle.meaning.specs.Types.{is_among}
use Rattle.name_rules.specs.Lettered.{any_from, clash_by, clash_from, count_in_range}

-- ---- so many numbers

pub any_none : (test : ℕ → Bool) (first : ℕ) → any_from test first 0 ≡ false
unfolding any_from
any_none test first = refl

any_suc : (test : ℕ → Bool) (first n : ℕ) → any_from test first (suc n) ≡ (test first || any_from test (suc first) n)
unfolding any_from
any_suc test first n = refl

pub any_more : (test : ℕ → Bool) (first n : ℕ) → 0 < n → any_from test first n ≡ (test first || any_from test (first + 1) (n - 1))
any_more test first zero lt = absurd (omega arith)
any_more test first (suc n) lt =
    let next : suc first ≡ first + 1 = omega arith in
    let fewer : n ≡ suc n - 1 = omega arith in
    any_suc test first n ∙ ap₂ (λ c k. test first || any_from test c k) next fewer

-- one of them passes
any_at : (test : ℕ → Bool) (n first c : ℕ) → first ≤ c → c < first + n → test c ≡ true → any_from test first n ≡ true
any_at test zero first c le lt passes = absurd (omega arith)
any_at test (suc n) first c le lt passes =
    any_suc test first n ∙ by_place (nat_lt first c) refl (λ above. any_at test n (suc first) c (omega arith) (omega arith) passes)
  where
    by_place : (b : Bool) → nat_lt first c ≡ b → (first < c → any_from test (suc first) n ≡ true) → (test first || any_from test (suc first) n) ≡ true
    by_place true h rest = or_right (test first) (any_from test (suc first) n) (rest (ltb-true first c h))
    by_place false h rest =
        let below : c ≤ first = ltb-false first c h in
        let same : c ≡ first = omega arith in
        or_left (test first) (any_from test (suc first) n) (ap test (sym same) ∙ passes)

-- none of them passes
any_no : (test : ℕ → Bool) (n first : ℕ) → ((c : ℕ) → first ≤ c → c < first + n → test c ≡ false) → any_from test first n ≡ false
any_no test zero first none = any_none test first
any_no test (suc n) first none =
    any_suc test first n
    ∙ ap₂ ◌||◌ (none first (omega arith) (omega arith)) (any_no test n (suc first) (λ c le lt. none c (omega arith) (omega arith)))

any_either : (f g : ℕ → Bool) (n first : ℕ) → any_from (λ c. f c || g c) first n ≡ (any_from f first n || any_from g first n)
any_either f g zero first = any_none (λ c. f c || g c) first ∙ sym (ap₂ ◌||◌ (any_none f first) (any_none g first))
any_either f g (suc n) first =
    any_suc (λ c. f c || g c) first n ∙ ap (λ b. (f first || g first) || b) (any_either f g n (suc first))
    ∙ regroup (f first) (g first) (any_from f (suc first) n) (any_from g (suc first) n)
    ∙ sym (ap₂ ◌||◌ (any_suc f first n) (any_suc g first n))
  where
    regroup : (p q s t : Bool) → ((p || q) || (s || t)) ≡ ((p || s) || (q || t))
    regroup true q s t = refl
    regroup false true true t = refl
    regroup false true false t = refl
    regroup false false s t = refl

-- ---- two ranges

among_is : (c : ℕ) (l : LettersTree) → l.first_letter ≤ c → c ≤ last_letter l → is_among c l ≡ true
among_is c l le lt =
    and_from (nat_le l.first_letter c) (nat_le c (last_letter l)) (le-leb l.first_letter c le) (le-leb c (last_letter l) lt)

among_parts : (c : ℕ) (l : LettersTree) → is_among c l ≡ true → (l.first_letter ≤ c) × (c ≤ last_letter l)
among_parts c l h =
    let parts = and_parts (nat_le l.first_letter c) (nat_le c (last_letter l)) h in
    (leb-true l.first_letter c parts.0, leb-true c (last_letter l) parts.1)

-- letters are in a range and among others just where the two meet
one_range : (l k : LettersTree) → is_reversed l ≡ false → any_from (λ c. is_among c k) l.first_letter (count_in_range l) ≡ (not (is_reversed k) && meet l k)
one_range l k ordered = by_meeting (not (is_reversed k) && meet l k) refl
  where
    by_meeting : (b : Bool) → (not (is_reversed k) && meet l k) ≡ b → any_from (λ c. is_among c k) l.first_letter (count_in_range l) ≡ b
    by_meeting true h =
        let parts = and_parts (not (is_reversed k)) (meet l k) h in
        let forward : k.first_letter ≤ last_letter k = ltb-false (last_letter k) k.first_letter (not-true (is_reversed k) parts.0) in
        let own : l.first_letter ≤ last_letter l = ltb-false (last_letter l) l.first_letter ordered in
        elim (or_cases (is_among l.first_letter k) (is_among k.first_letter l) parts.1) [
          | inl there ↦ any_at (λ c. is_among c k) (count_in_range l) l.first_letter l.first_letter (omega arith) (omega arith) there
          | inr there ↦
              let bounds = among_parts k.first_letter l there in
              let low : l.first_letter ≤ k.first_letter = bounds.0 in
              let high : k.first_letter ≤ last_letter l = bounds.1 in
              any_at (λ c. is_among c k) (count_in_range l) l.first_letter k.first_letter low (omega arith) (among_is k.first_letter k (omega arith) forward)
        ]
    by_meeting false h =
        any_no (λ c. is_among c k) (count_in_range l) l.first_letter (λ c le lt. false_from_ne_true (is_among c k) (λ there.
        let bounds = among_parts c k there in
        let low : k.first_letter ≤ c = bounds.0 in
        let high : c ≤ last_letter k = bounds.1 in
        let forward : not (is_reversed k) ≡ true = not_from_false (is_reversed k) (le-ltb (last_letter k) k.first_letter (omega arith)) in
        let met : meet l k ≡ true = elim (cases_lt l.first_letter k.first_letter) [
          | inl less ↦ or_right (is_among l.first_letter k) (is_among k.first_letter l) (among_is k.first_letter l (omega arith) (omega arith))
          | inr more ↦ or_left (is_among l.first_letter k) (is_among k.first_letter l) (among_is l.first_letter k more (omega arith))
        ] in
        both_ways (not (is_reversed k) && meet l k) h (and_from (not (is_reversed k)) (meet l k) forward met)))

many_ranges : (l : LettersTree) → is_reversed l ≡ false → (ks : List LettersTree) → any_from (λ c. list_any (is_among c) ks) l.first_letter (count_in_range l) ≡ list_any (λ k. not (is_reversed k) && meet l k) ks
many_ranges l ordered [] = any_no (λ c. false) (count_in_range l) l.first_letter (λ c le lt. refl)
many_ranges l ordered (k ∷ ks) =
    any_either (λ c. is_among c k) (λ c. list_any (is_among c) ks) (count_in_range l) l.first_letter
    ∙ ap₂ ◌||◌ (one_range l k ordered) (many_ranges l ordered ks)

clash_here : (l : LettersTree) (ks : List LettersTree) → (is_reversed l || any_from (λ c. list_any (is_among c) ks) l.first_letter (count_in_range l)) ≡ (is_reversed l || list_any (λ k. not (is_reversed k) && meet l k) ks)
clash_here l ks = by_order (is_reversed l) refl
  where
    by_order : (b : Bool) → is_reversed l ≡ b → (b || any_from (λ c. list_any (is_among c) ks) l.first_letter (count_in_range l)) ≡ (b || list_any (λ k. not (is_reversed k) && meet l k) ks)
    by_order true h = refl
    by_order false h = many_ranges l h ks

pub clash_is : (ks ls : List LettersTree) → clash_from (λ c. list_any (is_among c) ks) ls ≡ letters_clash ks ls
clash_is ks [] = refl
clash_is ks (l ∷ ls) =
    let swapped : (λ (c : ℕ). list_any (is_among c) ks || is_among c l) ≡ (λ c. is_among c l || list_any (is_among c) ks) = λ i c. or_swap (list_any (is_among c) ks) (is_among c l) i in
    ap₂ ◌||◌ (clash_here l ks) (ap (λ f. clash_from f ls) swapped ∙ clash_is (l ∷ ks) ls)

-- by a test that says the same
pub clash_told : (taken : ℕ → Bool) (ks ls : List LettersTree) → ((c : ℕ) → taken c ≡ list_any (is_among c) ks) → clash_from taken ls ≡ letters_clash ks ls
clash_told taken ks ls same =
    let all : taken ≡ (λ c. list_any (is_among c) ks) = λ i c. same c i in
    ap (λ f. clash_from f ls) all ∙ clash_is ks ls

-- ---- the letters of a statement, one range more

module _ (taken here : ℕ → Bool) (l : LettersTree) (rest : List LettersTree) (all : Bool) where
  clash_first : clash_from (λ c. taken c || here c) (l ∷ rest) ≡ (clash_by taken here l || clash_from (λ c. (taken c || here c) || is_among c l) rest)
  clash_first =
      ap (λ b. (is_reversed l || b) || clash_from (λ c. (taken c || here c) || is_among c l) rest) (any_either taken here (count_in_range l) l.first_letter)

  pub clash_found : clash_by taken here l ≡ true → clash_from (λ c. taken c || here c) (l ∷ rest) ≡ all → true ≡ all
  clash_found found so_far =
      sym (clash_first ∙ ap (λ b. b || clash_from (λ c. (taken c || here c) || is_among c l) rest) found) ∙ so_far

  pub clash_more : (next : ℕ → Bool) → clash_by taken here l ≡ false → ((c : ℕ) → next c ≡ (here c || is_among c l)) → clash_from (λ c. taken c || here c) (l ∷ rest) ≡ all → clash_from (λ c. taken c || next c) rest ≡ all
  clash_more next none added so_far =
      let same : (λ (c : ℕ). taken c || next c) ≡ (λ c. (taken c || here c) || is_among c l) = λ i c. (ap (λ b. taken c || b) (added c) ∙ grouped (taken c) (here c) (is_among c l)) i in
      ap (λ f. clash_from f rest) same ∙ sym (clash_first ∙ ap (λ b. b || clash_from (λ c. (taken c || here c) || is_among c l) rest) none) ∙ so_far
    where
      grouped : (p q s : Bool) → (p || (q || s)) ≡ ((p || q) || s)
      grouped true q s = refl
      grouped false q s = refl

-- nothing here at first
pub clash_start : (taken here : ℕ → Bool) (ls : List LettersTree) → ((c : ℕ) → here c ≡ false) → clash_from (λ c. taken c || here c) ls ≡ clash_from taken ls
clash_start taken here ls none =
    let same : (λ (c : ℕ). taken c || here c) ≡ taken = λ i c. (ap (λ b. taken c || b) (none c) ∙ or_false (taken c)) i in
    ap (λ f. clash_from f ls) same

pub none_taken : (taken : BTreeSet ℕ) (c : ℕ) → taken.keys ≡ [] → contains nat_cmp taken c ≡ false
none_taken taken c empty = simp empty

-- ---- codes that are taken

pub codes_are : (c : ℕ) (l : LettersTree) → any_from (λ k. k == c) l.first_letter (count_in_range l) ≡ is_among c l
codes_are c l = by_place (is_among c l) refl
  where
    by_place : (b : Bool) → is_among c l ≡ b → any_from (λ k. k == c) l.first_letter (count_in_range l) ≡ b
    by_place true h =
        let bounds = among_parts c l h in
        let low : l.first_letter ≤ c = bounds.0 in
        let high : c ≤ last_letter l = bounds.1 in
        any_at (λ k. k == c) (count_in_range l) l.first_letter c low (omega arith) (eq-eqb c c refl)
    by_place false h =
        any_no (λ k. k == c) (count_in_range l) l.first_letter (λ k le lt. false_from_ne_true (k == c) (λ same.
        let equal : k ≡ c = eqb-true k c same in
        both_ways (is_among c l) h (among_is c l (omega arith) (omega arith))))

pub codes_more : (old mid new : Bool) (c code count : ℕ) → 0 < count → mid ≡ (old || (code == c)) → new ≡ (mid || any_from (λ k. k == c) (code + 1) (count - 1)) → new ≡ (old || any_from (λ k. k == c) code count)
codes_more old mid new c code count some first rest =
    rest ∙ ap (λ b. b || any_from (λ k. k == c) (code + 1) (count - 1)) first
    ∙ grouped old (code == c) (any_from (λ k. k == c) (code + 1) (count - 1)) ∙ ap (λ b. old || b) (sym (any_more (λ k. k == c) code count some))
  where
    grouped : (p q s : Bool) → ((p || q) || s) ≡ (p || (q || s))
    grouped true q s = refl
    grouped false q s = refl

-- what was told of a list, one element more
pub told_more : {X Y : Type 0} (g : X → Y) (f : Y → Bool) (xs : List X) (i : ℕ) (x : X) (first old new : Bool) → i < length xs → x ≡ get_or xs i x → old ≡ (first || list_any f (map g (take i xs))) → new ≡ (old || f (g x)) → new ≡ (first || list_any f (map g (take (i + 1) xs)))
told_more g f xs i x first old new lt is so_far added =
    added ∙ ap (λ b. b || f (g x)) so_far ∙ grouped first (list_any f (map g (take i xs))) (f (g x))
    ∙ ap (λ b. first || (list_any f (map g (take i xs)) || b)) (sym (or_false (f (g x))))
    ∙ ap (λ b. first || b) (sym (list_any-append f (map g (take i xs)) (g x ∷ [])) ∙ ap (list_any f) (sym (map_more g xs i x lt is)))
  where
    grouped : (p q s : Bool) → ((p || q) || s) ≡ (p || (q || s))
    grouped true q s = refl
    grouped false q s = refl

-- letters that were read with a default
abbrev pub letterless : Letters
letterless = record { first = 0; last = None }

abbrev pub lent : Bor Letters
lent = record { ref_ptr = (0, 0); now = letterless }

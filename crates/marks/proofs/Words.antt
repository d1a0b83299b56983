-- Sets of cells as mask words tell them.
use Rattle.std.proofs.Common.{arith, ◌≡◌, ◌≢◌, ℕ, ◌+◌, ◌*◌, ◌/◌, ◌%◌, ◌<◌, ◌≤◌, ◌==◌, Bool, true, false, ◌||◌, ◌&&◌, IsTrue, List, [], ◌∷◌, length, refl, sym, ap, ◌∙◌, subst, inl, inr}
use Rattle.std.specs.Prelude.{◌⊎◌}
use Rattle.std.specs.Prelude.{slice_index_or}
use Rattle.std.specs.List.{list_any, filter, range_with_len}
use Rattle.std.specs.Int.{bit_at}
use Rattle.std.specs.Ordering.{nat_cmp, is_eq}
use Rattle.std.specs.Cmp.{nat_cmp_total, Equal-is, unsigned_tied}
use Rattle.std.specs.FinSet.{FinSet, contains, empty, contains-empty, insert, contains-from_list, contains-insert, same_set, nat_cmp-IsAntisymmetric}
use Rattle.std.proofs.lemmas.Bool.{true≢false, cases_lt, eqb-true}
use Rattle.std.proofs.lemmas.List.{get_or_past}
use Rattle.std.proofs.lemmas.Simd.{get_or-chunk}
use Rattle.std.specs.Simd.Lanes.{chunk}
use Rattle.std.proofs.lemmas.List.{length-take}
use Rattle.std.proofs.Common.{drop, ◌-◌}
use Rattle.std.proofs.Common.{zero, suc, not}
use Rattle.std.proofs.lemmas.Nat.Bits.{bit_at-zero}
use Rattle.std.specs.Cmp.{tied_itself}
use Rattle.std.proofs.lemmas.Map.Views.{any-filter_same}
use Rattle.std.proofs.lemmas.List.Folds.{list_any_at}
use Rattle.std.proofs.lemmas.List.FromFn.{length-range_with_len, get_or-range_with_len}
use Rattle.std.specs.Prelude.{bit_and, ◌↔◌}
use Rattle.std.specs.Int.Bits.{bit_or, and_zero_l, and_zero_r}
use Rattle.std.specs.Simd.Lanes.{fold_l, zip2}
use Rattle.std.proofs.lemmas.Nat.{le_or_l, le_or_r}
use Rattle.std.proofs.Common.{min, w64, ◌^◌}
use Rattle.std.specs.Int.{trailing_zeros}
use Rattle.std.proofs.lemmas.Nat.{and_le_l}
use Rattle.std.proofs.lemmas.Nat.Bits.{bit_at_and, bit_at-trailing_zeros, bit_at-lt}
use Rattle.marks.specs.Cells.{Share}
use Rattle.marks.specs.Words.{word_at, tells, set_of, MeetIn, MeetTold, SomeMeet, AreBehind, IsSummed}

zero_plus : (c : ℕ) → 0 + c ≡ c
zero_plus c = omega arith

told_below : (ws : List ℕ) (c : ℕ) → tells ws c ≡ true → c < 64 * length ws
told_below ws c told = by (cases_lt (c / 64) (length ws))
  where
    none : length ws ≤ c / 64 → tells ws c ≡ false
    none past = ap (λ w. bit_at w (c % 64) == 1) (get_or_past ws (c / 64) 0 past) ∙ ap (λ b. b == 1) (bit_at-zero (c % 64))

    by : (c / 64 < length ws) ⊎ (length ws ≤ c / 64) → c < 64 * length ws
    by (inl lt) = omega arith
    by (inr past) = absurd (true≢false (sym told ∙ none past))

pub contains_is : (ws : List ℕ) (c : ℕ) → contains (set_of ws) c ≡ tells ws c
contains_is ws c =
    contains-from_list nat_cmp_total (filter (tells ws) (range_with_len 0 (64 * length ws))) c
    ∙ any-filter_same (λ k. is_eq (nat_cmp c k)) (tells ws) (tells ws c) (λ k e. ap (tells ws) (sym (nat_cmp-IsAntisymmetric c k ((Equal-is (nat_cmp c k)).0 e)))) (range_with_len 0 (64 * length ws))
    ∙ by (tells ws c) refl
  where
    by : (b : Bool) → tells ws c ≡ b → (b && list_any (λ k. is_eq (nat_cmp c k)) (range_with_len 0 (64 * length ws))) ≡ b
    by false told = refl
    by true told =
        list_any_at (λ k. is_eq (nat_cmp c k)) (range_with_len 0 (64 * length ws)) c 0 (subst (λ n. c < n) (sym (length-range_with_len 0 (64 * length ws))) (told_below ws c told)) (unsigned_tied c (slice_index_or (range_with_len 0 (64 * length ws)) c 0) ∙ ap (λ k. c == k) (get_or-range_with_len 0 (64 * length ws) c 0 (told_below ws c told) ∙ zero_plus c) ∙ sym (unsigned_tied c c) ∙ ap is_eq (tied_itself nat_cmp_total c))

pub same_by : (ws vs : List ℕ) → ((q : ℕ) → tells vs q ≡ tells ws q) → set_of vs ≡ set_of ws
same_by ws vs same =
    same_set nat_cmp_total nat_cmp-IsAntisymmetric (set_of vs) (set_of ws) (λ q. contains_is vs q ∙ same q ∙ sym (contains_is ws q))

pub insert_by : (ws vs : List ℕ) (c : ℕ) → ((q : ℕ) → tells vs q ≡ (q == c || tells ws q)) → set_of vs ≡ insert (set_of ws) c
insert_by ws vs c more =
    same_set nat_cmp_total nat_cmp-IsAntisymmetric (set_of vs) (insert (set_of ws) c) (λ q. contains_is vs q ∙ more q ∙ ap (λ b. b || tells ws q) (sym (unsigned_tied q c)) ∙ ap (λ b. is_eq (nat_cmp q c) || b) (sym (contains_is ws q)) ∙ sym (contains-insert nat_cmp_total (set_of ws) c q))

-- a cell that is told, put in once more
pub told_again : (ws : List ℕ) (c : ℕ) → tells ws c ≡ true → (q : ℕ) → tells ws q ≡ (q == c || tells ws q)
told_again ws c told q = by_test (q == c) refl
  where
    by_test : (b : Bool) → (q == c) ≡ b → tells ws q ≡ (b || tells ws q)
    by_test true e = ap (tells ws) (eqb-true q c e) ∙ told
    by_test false e = refl

-- ---- the same of the set that contracts see

pub has_by : (ws : List ℕ) (s : FinSet nat_cmp) → set_of ws ≡ s → (c : ℕ) → contains s c ≡ tells ws c
has_by ws s is c = ap (λ r. contains r c) (sym is) ∙ contains_is ws c

-- ---- the mask of groups

eq_self : (n : ℕ) → (n == n) ≡ true
eq_self n = sym (unsigned_tied n n) ∙ ap is_eq (tied_itself nat_cmp_total n)

or-right : (a b : Bool) → b ≡ true → (a || b) ≡ true
or-right true b h = refl
or-right false b h = h

pub told_put : (ws vs gs hs : List ℕ) (c : ℕ) → ((q : ℕ) → tells vs q ≡ (q == c || tells ws q)) → ((q : ℕ) → tells hs q ≡ (q == c / 512 || tells gs q)) → ((q : ℕ) → tells ws q ≡ true → tells gs (q / 512) ≡ true) → (q : ℕ) → tells vs q ≡ true → tells hs (q / 512) ≡ true
told_put ws vs gs hs c words groups kept q told = groups (q / 512) ∙ by (q == c) refl (sym (words q) ∙ told)
  where
    by : (b : Bool) → (q == c) ≡ b → (b || tells ws q) ≡ true → (q / 512 == c / 512 || tells gs (q / 512)) ≡ true
    by true e h =
        ap (λ k. k / 512 == c / 512 || tells gs (q / 512)) (eqb-true q c e) ∙ ap (λ b. b || tells gs (q / 512)) (eq_self (c / 512))
    by false e h = or-right (q / 512 == c / 512) (tells gs (q / 512)) (kept q h)

-- ---- words that share a bit

-- no two words at one place share a bit
abbrev Apart : List ℕ → List ℕ → Type 0
Apart xs ys = (i : ℕ) → bit_and (slice_index_or xs i 0) (slice_index_or ys i 0) ≡ 0

-- two do
abbrev Meet : List ℕ → List ℕ → Type 0
Meet xs ys = (i : ℕ) × (bit_and (slice_index_or xs i 0) (slice_index_or ys i 0) ≢ 0)

none_of : (a b n : ℕ) → a ≤ b → b ≡ n → n ≡ 0 → a ≡ 0
none_of a b n le same none = omega arith

or_none : (n : ℕ) (xs ys : List ℕ) → fold_l bit_or n (zip2 bit_and xs ys) ≡ 0 → (n ≡ 0) × Apart xs ys
or_none n [] ys h = (h, λ i. and_zero_l (slice_index_or ys i 0))
or_none n (x ∷ xs) [] h = (h, λ i. and_zero_r (slice_index_or (x ∷ xs) i 0))
or_none n (x ∷ xs) (y ∷ ys) h =
    let rest = or_none (bit_or n (bit_and x y)) xs ys h in
    (none_of n (bit_or n (bit_and x y)) 0 (le_or_l n (bit_and x y)) rest.0 refl, here (none_of (bit_and x y) (bit_or n (bit_and x y)) 0 (le_or_r n (bit_and x y)) rest.0 refl) rest.1)
  where
    here : bit_and x y ≡ 0 → Apart xs ys → Apart (x ∷ xs) (y ∷ ys)
    here none apart zero = none
    here none apart (suc i) = apart i

or_zeros : (n : ℕ) (xs ys : List ℕ) → n ≡ 0 → Apart xs ys → fold_l bit_or n (zip2 bit_and xs ys) ≡ 0
or_zeros n [] ys none apart = none
or_zeros n (x ∷ xs) [] none apart = none
or_zeros n (x ∷ xs) (y ∷ ys) none apart =
    or_zeros (bit_or n (bit_and x y)) xs ys (ap (λ m. bit_or m (bit_and x y)) none ∙ ap (bit_or 0) (apart 0)) (λ i. apart (suc i))

-- two of them share a bit, or none do
search_both : (xs ys : List ℕ) → Meet xs ys ⊎ Apart xs ys
search_both [] ys = inr (λ i. and_zero_l (slice_index_or ys i 0))
search_both (x ∷ xs) [] = inr (λ i. and_zero_r (slice_index_or (x ∷ xs) i 0))
search_both (x ∷ xs) (y ∷ ys) = by (bit_and x y == 0) refl (search_both xs ys)
  where
    apart_all : bit_and x y ≡ 0 → Apart xs ys → Apart (x ∷ xs) (y ∷ ys)
    apart_all none apart zero = none
    apart_all none apart (suc i) = apart i

    by : (b : Bool) → (bit_and x y == 0) ≡ b → Meet xs ys ⊎ Apart xs ys → Meet (x ∷ xs) (y ∷ ys) ⊎ Apart (x ∷ xs) (y ∷ ys)
    by false e rest = inl (0, λ none. true≢false (sym (ap (λ n. n == 0) none) ∙ e))
    by true e (inl both) = inl (suc both.0, both.1)
    by true e (inr apart) = inr (apart_all (eqb-true (bit_and x y) 0 e) apart)

pub eight_meet : (a b : List ℕ) (at : ℕ) → IsTrue (not (fold_l bit_or 0 (zip2 bit_and (chunk at 8 a) (chunk at 8 b)) == 0)) ↔ MeetIn a b at (at + 8)
eight_meet a b at = (there, back)
  where
    any : ℕ
    any = fold_l bit_or 0 (zip2 bit_and (chunk at 8 a) (chunk at 8 b))

    placed : (i : ℕ) → i < 8 → bit_and (slice_index_or (chunk at 8 a) i 0) (slice_index_or (chunk at 8 b) i 0) ≡ bit_and (word_at a (at + i)) (word_at b (at + i))
    placed i lt = λ j. bit_and (get_or-chunk at 8 a i 0 lt j) (get_or-chunk at 8 b i 0 lt j)

    short : length (chunk at 8 a) ≤ 8
    short = let e = length-take 8 (drop at a) in omega arith

    found : Meet (chunk at 8 a) (chunk at 8 b) → MeetIn a b at (at + 8)
    found meet = by (cases_lt meet.0 8)
      where
        by : (meet.0 < 8) ⊎ (8 ≤ meet.0) → MeetIn a b at (at + 8)
        by (inl lt) = (at + meet.0, (omega arith, (omega arith, λ none. meet.1 (placed meet.0 lt ∙ none))))
        by (inr past) =
            let beyond : length (chunk at 8 a) ≤ meet.0 = let s = short in omega arith in
            absurd (meet.1 (ap (λ w. bit_and w (slice_index_or (chunk at 8 b) meet.0 0)) (get_or_past (chunk at 8 a) meet.0 0 beyond) ∙ and_zero_l (slice_index_or (chunk at 8 b) meet.0 0)))

    there : IsTrue (not (any == 0)) → MeetIn a b at (at + 8)
    there told = by (search_both (chunk at 8 a) (chunk at 8 b))
      where
        by : Meet (chunk at 8 a) (chunk at 8 b) ⊎ Apart (chunk at 8 a) (chunk at 8 b) → MeetIn a b at (at + 8)
        by (inl meet) = found meet
        by (inr apart) =
            absurd (true≢false (sym told ∙ ap (λ n. not (n == 0)) (or_zeros 0 (chunk at 8 a) (chunk at 8 b) refl apart)))

    back : MeetIn a b at (at + 8) → IsTrue (not (any == 0))
    back meet = by (any == 0) refl
      where
        i : ℕ
        i = meet.0 - at

        lt : i < 8
        lt = let low = meet.1.0 in let high = meet.1.1.0 in omega arith

        same : at + i ≡ meet.0
        same = let low = meet.1.0 in omega arith

        by : (b' : Bool) → (any == 0) ≡ b' → IsTrue (not (any == 0))
        by false e = ap not e
        by true e =
            absurd (meet.1.1.1 (sym (λ j. bit_and (word_at a (same j)) (word_at b (same j))) ∙ sym (placed i lt) ∙ (or_none 0 (chunk at 8 a) (chunk at 8 b) (eqb-true any 0 e)).1 i))

-- ---- groups

meet_past : (a b : List ℕ) (k : ℕ) → (length a ≤ k) ⊎ (length b ≤ k) → bit_and (word_at a k) (word_at b k) ≡ 0
meet_past a b k (inl past) = ap (λ w. bit_and w (word_at b k)) (get_or_past a k 0 past) ∙ and_zero_l (word_at b k)
meet_past a b k (inr past) = ap (λ w. bit_and (word_at a k) w) (get_or_past b k 0 past) ∙ and_zero_r (word_at a k)

-- past the last word of one of them none share a bit
pub meet_short : (a b : List ℕ) (i j to : ℕ) → (length a ≤ to) ⊎ (length b ≤ to) → to ≤ j → MeetIn a b i to ↔ MeetIn a b i j
meet_short a b i j to end le = (there, back)
  where
    there : MeetIn a b i to → MeetIn a b i j
    there m = (m.0, (m.1.0, (let lt = m.1.1.0 in omega arith, m.1.1.1)))

    past : (k : ℕ) → to ≤ k → (length a ≤ to) ⊎ (length b ≤ to) → (length a ≤ k) ⊎ (length b ≤ k)
    past k over (inl e) = inl (omega arith)
    past k over (inr e) = inr (omega arith)

    back : MeetIn a b i j → MeetIn a b i to
    back m = by (cases_lt m.0 to)
      where
        by : (m.0 < to) ⊎ (to ≤ m.0) → MeetIn a b i to
        by (inl lt) = (m.0, (m.1.0, (lt, m.1.1.1)))
        by (inr over) = absurd (m.1.1.1 (meet_past a b m.0 (past m.0 over end)))

-- no word before a place, and not the one there
pub meet_more : (a b : List ℕ) (i at : ℕ) → (MeetIn a b i at → ⊥) → (MeetIn a b at (at + 1) → ⊥) → MeetIn a b i (at + 1) → ⊥
meet_more a b i at before here m = by (cases_lt m.0 at)
  where
    by : (m.0 < at) ⊎ (at ≤ m.0) → ⊥
    by (inl lt) = before (m.0, (m.1.0, (lt, m.1.1.1)))
    by (inr over) = here (m.0, (over, (m.1.1.0, m.1.1.1)))

pub meet_wider : (a b : List ℕ) (i at j : ℕ) → i ≤ at → at < j → MeetIn a b at (at + 1) → MeetIn a b i j
meet_wider a b i at j low high m =
    (m.0, (let l = m.1.0 in omega arith, (let h = m.1.1.0 in omega arith, m.1.1.1)))

-- ---- cells that two sets share

one_of : (n : ℕ) → n < 2 → (n ≡ 0 → ⊥) → n ≡ 1
one_of n lt some = by n lt some
  where
    by : (n : ℕ) → n < 2 → (n ≡ 0 → ⊥) → n ≡ 1
    by zero lt some = absurd (some refl)
    by (suc n) lt some = omega arith

both_one : (x y m : ℕ) → x < 2 → y < 2 → min x y ≡ m → m ≡ 1 → (x ≡ 1) × (y ≡ 1)
both_one x y m small less is one = (omega (arith, small, less, is, one), omega (arith, small, less, is, one))

-- words that share a bit
shared_bit : (x y : ℕ) → x < 2 ^ 64 → bit_and x y ≢ 0 → (i : ℕ) × ((i < 64) × ((bit_at x i ≡ 1) × (bit_at y i ≡ 1)))
shared_bit x y small some =
    let n = bit_and x y in
    let below : n < 2 ^ 64 = (let le = and_le_l x y in omega (arith, le, small)) in
    let positive : 0 < n = not_none n some in
    let found = bit_at-trailing_zeros w64 n positive below in
    let i = trailing_zeros w64 n in
    (i, (found.0, both_one (bit_at x i) (bit_at y i) (bit_at n i) (bit_at-lt x i) (bit_at-lt y i) (sym (bit_at_and x y i)) found.1))
  where
    not_none : (n : ℕ) → n ≢ 0 → 0 < n
    not_none zero some = absurd (some refl)
    not_none (suc n) some = omega arith

told_by_bit : (ws : List ℕ) (c k i : ℕ) → c / 64 ≡ k → c % 64 ≡ i → bit_at (word_at ws k) i ≡ 1 → tells ws c ≡ true
told_by_bit ws c k i at bit is =
    ap (λ n. bit_at (word_at ws n) (c % 64) == 1) at ∙ ap (λ n. bit_at (word_at ws k) n == 1) bit ∙ ap (λ n. n == 1) is

bit_by_told : (ws : List ℕ) (c : ℕ) → tells ws c ≡ true → bit_at (word_at ws (c / 64)) (c % 64) ≡ 1
bit_by_told ws c h = eqb-true (bit_at (word_at ws (c / 64)) (c % 64)) 1 h

-- a cell of both
pub cell_of_meet : (a b : List ℕ) (i j : ℕ) → ((k : ℕ) → word_at a k < 2 ^ 64) → MeetIn a b i j → (c : ℕ) × ((tells a c ≡ true) × (tells b c ≡ true))
cell_of_meet a b i j small m =
    let s = shared_bit (word_at a m.0) (word_at b m.0) (small m.0) m.1.1.1 in
    let bit = s.0 in
    let lt : bit < 64 = s.1.0 in
    let c = 64 * m.0 + bit in
    let at : c / 64 ≡ m.0 = quotient m.0 bit lt in
    let rest : c % 64 ≡ bit = remainder m.0 bit lt in
    (c, (told_by_bit a c m.0 bit at rest s.1.1.0, told_by_bit b c m.0 bit at rest s.1.1.1))
  where
    quotient : (k i : ℕ) → i < 64 → (64 * k + i) / 64 ≡ k
    quotient k i lt = omega (arith, lt)

    remainder : (k i : ℕ) → i < 64 → (64 * k + i) % 64 ≡ i
    remainder k i lt = omega (arith, lt)

-- the words of a cell of both share a bit
meet_of_cell : (a b : List ℕ) (c g : ℕ) → g ≡ c / 512 → tells a c ≡ true → tells b c ≡ true → MeetIn a b (8 * g) (8 * g + 8)
meet_of_cell a b c g is mine others =
    (c / 64, (omega (arith, is), (omega (arith, is), λ none. some (sym (ap (λ n. bit_at n (c % 64)) none) ∙ both))))
  where
    both : bit_at (bit_and (word_at a (c / 64)) (word_at b (c / 64))) (c % 64) ≡ 1
    both =
        bit_at_and (word_at a (c / 64)) (word_at b (c / 64)) (c % 64) ∙ (λ j. min (bit_by_told a c mine j) (bit_by_told b c others j))

    some : bit_at 0 (c % 64) ≡ 1 → ⊥
    some h = let z = bit_at-zero (c % 64) in absurd (omega (arith, h, z))

pub share_is : (a b mine others : List ℕ) → ((k : ℕ) → word_at a k < 2 ^ 64) → IsSummed a mine → IsSummed b others → (SomeMeet a b mine others → Share (set_of a) (set_of b)) × (Share (set_of a) (set_of b) → SomeMeet a b mine others)
share_is a b mine others small told_a told_b = (there, back)
  where
    there : SomeMeet a b mine others → Share (set_of a) (set_of b)
    there m =
        let c = cell_of_meet a b _ _ small m.1.1.1.1 in
        (c.0, (contains_is a c.0 ∙ c.1.0, contains_is b c.0 ∙ c.1.1))

    back : Share (set_of a) (set_of b) → SomeMeet a b mine others
    back s =
        let c = s.0 in
        let x : tells a c ≡ true = sym (contains_is a c) ∙ s.1.0 in
        let y : tells b c ≡ true = sym (contains_is b c) ∙ s.1.1 in
        let g = c / 512 in
        let k = g / 64 in
        let j = g % 64 in
        let whole : 64 * k + j ≡ g = parts g in
        let bits : bit_at (bit_and (word_at mine k) (word_at others k)) j ≡ 1 = bit_at_and (word_at mine k) (word_at others k) j ∙ (λ i. min (bit_by_told mine g (told_a.told c x) i) (bit_by_told others g (told_b.told c y) i)) in
        (k, (j, (less g, (bits, meet_of_cell a b c (64 * k + j) whole x y))))
      where
        parts : (g : ℕ) → 64 * (g / 64) + g % 64 ≡ g
        parts g = omega arith

        less : (g : ℕ) → g % 64 < 64
        less g = omega arith

-- ---- what loops over groups keep

pub one_ends : (a b to n : ℕ) → to ≡ min a b → to ≤ n → (a ≤ n) ⊎ (b ≤ n)
one_ends a b to n is le = by (cases_lt a b)
  where
    by : (a < b) ⊎ (b ≤ a) → (a ≤ n) ⊎ (b ≤ n)
    by (inl lt) = inl (omega (arith, lt, is, le))
    by (inr ge) = inr (omega (arith, ge, is, le))

-- a mask without a bit has no group
pub told_none : (a b : List ℕ) (mask first n : ℕ) → mask ≡ 0 → MeetTold a b mask first n → ⊥
told_none a b mask first n none m =
    let z = bit_at-zero m.0 in
    let one : bit_at 0 m.0 ≡ 1 = sym (ap (λ k. bit_at k m.0) none) ∙ m.1.1.0 in
    absurd (omega (arith, z, one))

module _ (a b mine others : List ℕ) where
  abbrev pub MeetAt : ℕ → Type 0
  MeetAt k = MeetTold a b (bit_and (word_at mine k) (word_at others k)) (64 * k) 64

  pub masks_more : (at : ℕ) → ((k : ℕ) → k < at → MeetAt k → ⊥) → (MeetAt at → ⊥) → (k : ℕ) → k < at + 1 → MeetAt k → ⊥
  masks_more at before here k lt m = by (cases_lt k at)
    where
      same : at ≤ k → k ≡ at
      same over = omega (arith, lt, over)

      by : (k < at) ⊎ (at ≤ k) → ⊥
      by (inl less) = before k less m
      by (inr over) = here (subst MeetAt (same over) m)

  pub no_more_masks : (n : ℕ) → (length mine ≤ n) ⊎ (length others ≤ n) → ((k : ℕ) → k < n → MeetAt k → ⊥) → SomeMeet a b mine others → ⊥
  no_more_masks n end none m = by (cases_lt m.0 n)
    where
      past : n ≤ m.0 → (length mine ≤ n) ⊎ (length others ≤ n) → (length mine ≤ m.0) ⊎ (length others ≤ m.0)
      past over (inl e) = inl (omega (arith, over, e))
      past over (inr e) = inr (omega (arith, over, e))

      by : (m.0 < n) ⊎ (n ≤ m.0) → ⊥
      by (inl less) = none m.0 less m.1
      by (inr over) =
          told_none a b (bit_and (word_at mine m.0) (word_at others m.0)) (64 * m.0) 64 (meet_past mine others m.0 (past over end)) m.1

-- ---- groups taken out

zero_tells : (ws : List ℕ) (c : ℕ) → word_at ws (c / 64) ≡ 0 → tells ws c ≡ true → ⊥
zero_tells ws c none told =
    true≢false (sym told ∙ ap (λ w. bit_at w (c % 64) == 1) none ∙ ap (λ b. b == 1) (bit_at-zero (c % 64)))

-- nothing is told behind all groups
pub none_left : (old new groups : List ℕ) → IsSummed old groups → AreBehind old new groups (length groups) → (c : ℕ) → tells new c ≡ true → ⊥
none_left old new groups summed behind c told =
    let was = behind c told in
    let t = summed.told c was.0 in
    zero_tells groups (c / 512) (get_or_past groups (c / 512 / 64) 0 (was.1 t)) t

pub set_of_none : (ws : List ℕ) → ((c : ℕ) → tells ws c ≡ true → ⊥) → set_of ws ≡ empty
set_of_none ws none =
    same_set nat_cmp_total nat_cmp-IsAntisymmetric (set_of ws) empty (λ q. contains_is ws q ∙ by q (tells ws q) refl ∙ sym (contains-empty nat_cmp q))
  where
    by : (q : ℕ) (b : Bool) → tells ws q ≡ b → tells ws q ≡ false
    by q true e = absurd (none q e)
    by q false e = e

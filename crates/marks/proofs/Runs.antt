-- Cells that follow one another, in mask words.
use Rattle.std.proofs.Common.{◌≡◌, ℕ, ◌+◌, ◌*◌, ◌/◌, ◌%◌, ◌-◌, ◌^◌, ◌<◌, ◌≤◌, ◌==◌, ◌||◌, Bool, true, false, List, refl, sym, ap, ◌∙◌, arith, inl, inr}
use Rattle.std.specs.Prelude.{◌⊎◌}
use Rattle.std.specs.Int.{bit_at}
use Rattle.std.proofs.lemmas.Bool.{true≢false, cases_lt, eqb-true}
use Rattle.std.proofs.lemmas.Bool.Decides.{nat_tests}
use Rattle.std.proofs.lemmas.Nat.Bits.{bit_at_ones}
use Rattle.marks.specs.Cells.{is_within}
use Rattle.std.specs.Ordering.{nat_cmp}
use Rattle.std.specs.FinSet.{FinSet, contains}
use Rattle.marks.specs.Words.{set_of, tells, word_at}
use Rattle.marks.proofs.Words.{contains_is, has_by}

-- ---- a cell within bounds

pub in_run : (from until c : ℕ) → from ≤ c → c < until → is_within from until c ≡ true
in_run from until c low high = grind (arith, nat_tests)

pub off_run : (from until c : ℕ) → (c < from) ⊎ (until ≤ c) → is_within from until c ≡ false
off_run from until c (inl low) = grind (arith, nat_tests)
off_run from until c (inr high) = grind (arith, nat_tests)

-- it is, or not
pub either_run : (from until c : ℕ) → ((from ≤ c) × (c < until)) ⊎ ((c < from) ⊎ (until ≤ c))
either_run from until c = by (cases_lt c from) (cases_lt c until)
  where
    by : (c < from) ⊎ (from ≤ c) → (c < until) ⊎ (until ≤ c) → ((from ≤ c) × (c < until)) ⊎ ((c < from) ⊎ (until ≤ c))
    by (inl low) other = inr (inl low)
    by (inr le) (inl lt) = inl (le, lt)
    by (inr le) (inr high) = inr (inr high)

pub run_of : (from until c : ℕ) → is_within from until c ≡ true → (from ≤ c) × (c < until)
run_of from until c told = by (either_run from until c)
  where
    by : ((from ≤ c) × (c < until)) ⊎ ((c < from) ⊎ (until ≤ c)) → (from ≤ c) × (c < until)
    by (inl both) = both
    by (inr out) = absurd (true≢false (sym told ∙ off_run from until c out))

-- ---- one more

pub run_more : (from at q : ℕ) (t : Bool) → from ≤ at → (q == at || (is_within from at q || t)) ≡ (is_within from (at + 1) q || t)
run_more from at q t low = by (q == at) refl
  where
    at_last : q ≡ at → is_within from (at + 1) q ≡ true
    at_last e = in_run from (at + 1) q (omega arith) (omega arith)

    by : (b : Bool) → (q == at) ≡ b → (b || (is_within from at q || t)) ≡ (is_within from (at + 1) q || t)
    by true e = ap (λ b. b || t) (sym (at_last (eqb-true q at e)))
    by false e = ap (λ b. b || t) (grind (arith, nat_tests))

-- ---- words with all their bits

pub filled : (old new : List ℕ) (from to : ℕ) → ((k : ℕ) → from ≤ k → k < to → word_at new k ≡ 2 ^ 64 - 1) → ((k : ℕ) → (k < from) ⊎ (to ≤ k) → word_at new k ≡ word_at old k) → (q : ℕ) → tells new q ≡ (is_within (64 * from) (64 * to) q || tells old q)
filled old new from to full others q = by (either_run from to (q / 64))
  where
    by : ((from ≤ q / 64) × (q / 64 < to)) ⊎ ((q / 64 < from) ⊎ (to ≤ q / 64)) → tells new q ≡ (is_within (64 * from) (64 * to) q || tells old q)
    by (inl both) =
        ap (λ w. bit_at w (q % 64) == 1) (full (q / 64) both.0 both.1) ∙ ap (λ b. b == 1) (bit_at_ones 64 (q % 64) (omega arith)) ∙ sym (ap (λ b. b || tells old q) (in_run (64 * from) (64 * to) q (let low = both.0 in omega (arith, low)) (let high = both.1 in omega (arith, high))))
    by (inr out) =
        ap (λ w. bit_at w (q % 64) == 1) (others (q / 64) out) ∙ sym (ap (λ b. b || tells old q) (off_run (64 * from) (64 * to) q (beyond out)))
      where
        beyond : (q / 64 < from) ⊎ (to ≤ q / 64) → (q < 64 * from) ⊎ (64 * to ≤ q)
        beyond (inl low) = inl (omega (arith, low))
        beyond (inr high) = inr (omega (arith, high))

-- ---- words and groups of whole groups

module _ (ws vs : List ℕ) (from to : ℕ) (words : (q : ℕ) → tells vs q ≡ (is_within (64 * (8 * from)) (64 * (8 * to)) q || tells ws q)) where
  -- each group has its cells
  pub told_run : (gs hs : List ℕ) → ((p : ℕ) → tells hs p ≡ (is_within from to p || tells gs p)) → ((q : ℕ) → tells ws q ≡ true → tells gs (q / 512) ≡ true) → (q : ℕ) → tells vs q ≡ true → tells hs (q / 512) ≡ true
  told_run gs hs groups kept q told = groups (q / 512) ∙ by (either_run from to (q / 512))
    where
      outside : (q < 64 * (8 * from)) ⊎ (64 * (8 * to) ≤ q) → tells ws q ≡ true
      outside out =
          sym (ap (λ b. b || tells ws q) (off_run (64 * (8 * from)) (64 * (8 * to)) q out)) ∙ sym (words q) ∙ told

      beyond : (q / 512 < from) ⊎ (to ≤ q / 512) → (q < 64 * (8 * from)) ⊎ (64 * (8 * to) ≤ q)
      beyond (inl low) = inl (omega (arith, low))
      beyond (inr high) = inr (omega (arith, high))

      by : ((from ≤ q / 512) × (q / 512 < to)) ⊎ ((q / 512 < from) ⊎ (to ≤ q / 512)) → (is_within from to (q / 512) || tells gs (q / 512)) ≡ true
      by (inl both) = ap (λ b. b || tells gs (q / 512)) (in_run from to (q / 512) both.0 both.1)
      by (inr out) =
          ap (λ b. b || tells gs (q / 512)) (off_run from to (q / 512) out) ∙ kept q (outside (beyond out))

  -- the set has these cells more
  pub more_by_run : (s : FinSet nat_cmp) (us : List ℕ) → ((q : ℕ) → tells ws q ≡ tells us q) → set_of us ≡ s → (q : ℕ) → contains (set_of vs) q ≡ (is_within (512 * from) (512 * to) q || contains s q)
  more_by_run s us same is q =
      contains_is vs q ∙ words q ∙ (λ i. is_within (cells from i) (cells to i) q || tells ws q) ∙ ap (λ b. is_within (512 * from) (512 * to) q || b) (same q ∙ sym (has_by us s is q))
    where
      cells : (n : ℕ) → 64 * (8 * n) ≡ 512 * n
      cells n = omega arith

-- The bits of a mask word, gone through from the lowest one on.
use Rattle.std.proofs.Common.{◌≡◌, ◌≢◌, ℕ, ◌/◌, ◌%◌, ◌^◌, ◌<◌, ◌≤◌, ◌==◌, Bool, true, false, List, refl, sym, ap, ◌∙◌, arith, inl, inr, subst, w64}
use Rattle.std.specs.Prelude.{◌⊎◌}
use Rattle.std.specs.Int.{bit_at, trailing_zeros}
use Rattle.std.proofs.lemmas.Nat.Bits.{bit_at-zero, bit_at-trailing_zeros}
use Rattle.std.proofs.lemmas.Bool.{true≢false, cases_lt, eqb-true, eqb-false}
use Rattle.marks.specs.Words.{tells, word_at}

-- the lowest one
pub some_bit : (word : ℕ) → word < 2 ^ 64 → word ≢ 0 → (trailing_zeros w64 word < 64) × (bit_at word (trailing_zeros w64 word) ≡ 1) × ((i : ℕ) → i < trailing_zeros w64 word → bit_at word i ≡ 0)
some_bit word small some = bit_at-trailing_zeros w64 word (positive word some) small
  where
    positive : (n : ℕ) → n ≢ 0 → 0 < n
    positive n some = omega arith

pub less_by_bit : (a b bit : ℕ) → a ≤ b → bit_at a bit ≡ 0 → bit_at b bit ≡ 1 → a < b
less_by_bit a b bit le none one = by (cases_lt a b)
  where
    by : (a < b) ⊎ (b ≤ a) → a < b
    by (inl lt) = lt
    by (inr ge) =
        let same : a ≡ b = omega arith in
        let bits : bit_at a bit ≡ bit_at b bit = ap (λ n. bit_at n bit) same in
        absurd (omega (arith, bits, none, one))

-- of each bit of a mask that isn't left this is so
abbrev pub Passed : ℕ → ℕ → (ℕ → Type 0) → Type 0
Passed mask left holds = (j : ℕ) → j < 64 → bit_at mask j ≡ 1 → (bit_at left j ≡ 1) ⊎ holds j

-- what is left is of the mask
abbrev pub IsOf : ℕ → ℕ → Type 0
IsOf mask left = (j : ℕ) → j < 64 → bit_at left j ≡ 1 → bit_at mask j ≡ 1

either : (a b : ℕ) → (a ≡ b) ⊎ (a ≢ b)
either a b = of (a == b) refl
  where
    of : (t : Bool) → (a == b) ≡ t → (a ≡ b) ⊎ (a ≢ b)
    of true e = inl (eqb-true a b e)
    of false e = inr (eqb-false a b e)

module _ (mask left less bit : ℕ) (gone : bit_at less bit ≡ 0) (others : (i : ℕ) → i < 64 → i ≢ bit → bit_at less i ≡ bit_at left i) where
  -- one bit more
  pub pass_one : (holds : ℕ → Type 0) → Passed mask left holds → holds bit → Passed mask less holds
  pass_one holds passed here j lt told = by (either j bit) (passed j lt told)
    where
      at : {a b : ℕ} → a ≡ b → holds b → holds a
      at e h = subst holds (sym e) h

      by : (j ≡ bit) ⊎ (j ≢ bit) → (bit_at left j ≡ 1) ⊎ holds j → (bit_at less j ≡ 1) ⊎ holds j
      by (inl same) before = inr (at same here)
      by (inr other) (inl still) = inl (others j lt other ∙ still)
      by (inr other) (inr h) = inr h

  pub of_one : IsOf mask left → IsOf mask less
  of_one of j lt told = by (either j bit)
    where
      by : (j ≡ bit) ⊎ (j ≢ bit) → bit_at mask j ≡ 1
      by (inl same) = let e = sym told ∙ ap (bit_at less) same ∙ gone in absurd (omega (arith, e))
      by (inr other) = of j lt (sym (others j lt other) ∙ told)

-- all of them
pub passed_all : (mask left : ℕ) (holds : ℕ → Type 0) → left ≡ 0 → Passed mask left holds → (j : ℕ) → j < 64 → bit_at mask j ≡ 1 → holds j
passed_all mask left holds none passed j lt told = by (passed j lt told)
  where
    by : (bit_at left j ≡ 1) ⊎ holds j → holds j
    by (inl still) =
        let z = ap (λ w. bit_at w j) none ∙ bit_at-zero j in
        absurd (omega (arith, z, still))
    by (inr h) = h

-- ---- the groups of a mask

-- a group whose words were made 0
pub cleared : (old new : List ℕ) (group : ℕ) → ((k : ℕ) → k / 8 ≡ group → word_at new k ≡ 0) → ((k : ℕ) → k / 8 ≢ group → word_at new k ≡ word_at old k) → (c : ℕ) → tells new c ≡ true → (tells old c ≡ true) × (c / 512 ≢ group)
cleared old new group none others c told = by (either (c / 64 / 8) group)
  where
    parts : c / 512 ≡ c / 64 / 8
    parts = omega arith

    by : (c / 64 / 8 ≡ group) ⊎ (c / 64 / 8 ≢ group) → (tells old c ≡ true) × (c / 512 ≢ group)
    by (inl here) =
        absurd (true≢false (sym told ∙ ap (λ w. bit_at w (c % 64) == 1) (none (c / 64) here) ∙ ap (λ o. o == 1) (bit_at-zero (c % 64))))
    by (inr other) =
        (sym (ap (λ w. bit_at w (c % 64) == 1) (others (c / 64) other)) ∙ told, λ e. other (sym parts ∙ e))

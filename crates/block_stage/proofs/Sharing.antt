-- Cells that two sets share, by the mask words that tell them, and by what two blocks exposed and wrote.
use Rattle.std.proofs.Common.{◌≡◌, ℕ, ◌+◌, ◌*◌, ◌/◌, ◌%◌, ◌<◌, ◌==◌, true, false, List, Option, Some, None, MatchOption, is_some, refl, ap, sym, subst, ◌∙◌, arith, below_more}
use Rattle.std.specs.Prelude.{bit_and}
use Rattle.std.specs.Int.{bit_at}
use Rattle.std.specs.Ordering.{nat_cmp}
use Rattle.std.specs.FinSet as set
use Rattle.std.specs.FinMap as map
use Rattle.std.proofs.lemmas.Bool.{false≢true, eqb-true}
use Rattle.std.proofs.lemmas.Nat.Bits.{bit_at-zero, bit_at_and, bit_at-lt}
use Rattle.marks.specs.Cells.{Share}
use Rattle.marks.specs.Words.{word_at, tells}
use Rattle.block_stage.specs.Causes.{Carries, CarriesLeast, IsLeastShared}
use Rattle.block_stage.specs.Cuts.{reads_of}
use Rattle.block_stage.specs.Faithful.{RunData}
use Rattle.block_stage.proofs.Meeting.{meets_is}

-- a bit of both words
pub both_told : (a b : List ℕ) (k bit : ℕ) → bit < 64 → bit_at (bit_and (word_at a k) (word_at b k)) bit ≡ 1 → (tells a (64 * k + bit) ≡ true) × (tells b (64 * k + bit) ≡ true)
both_told a b k bit small has =
    let word : (64 * k + bit) / 64 ≡ k = omega arith in
    let place : (64 * k + bit) % 64 ≡ bit = omega arith in
    let both = bit_at_and (word_at a k) (word_at b k) bit in
    let low_a = bit_at-lt (word_at a k) bit in
    let low_b = bit_at-lt (word_at b k) bit in
    let in_a : bit_at (word_at a k) bit ≡ 1 = omega (arith, both, has, low_a, low_b) in
    let in_b : bit_at (word_at b k) bit ≡ 1 = omega (arith, both, has, low_a, low_b) in (
      (λ i. bit_at (word_at a (word i)) (place i) == 1) ∙ ap (λ n. n == 1) in_a,
      (λ i. bit_at (word_at b (word i)) (place i) == 1) ∙ ap (λ n. n == 1) in_b,
    )

-- words that don't have a bit in common
none_at : (a b : List ℕ) (c : ℕ) → bit_at (bit_and (word_at a (c / 64)) (word_at b (c / 64))) (c % 64) ≡ 0 → tells a c ≡ true → tells b c ≡ true → ⊥
none_at a b c zero p q =
    let in_a : bit_at (word_at a (c / 64)) (c % 64) ≡ 1 = eqb-true _ 1 p in
    let in_b : bit_at (word_at b (c / 64)) (c % 64) ≡ 1 = eqb-true _ 1 q in
    let both = bit_at_and (word_at a (c / 64)) (word_at b (c / 64)) (c % 64) in
    absurd (omega (arith, in_a, in_b, both, zero))

-- or none
none_told : (a b : List ℕ) (c : ℕ) → bit_and (word_at a (c / 64)) (word_at b (c / 64)) ≡ 0 → tells a c ≡ true → tells b c ≡ true → ⊥
none_told a b c none p q = none_at a b c (ap (λ n. bit_at n (c % 64)) none ∙ bit_at-zero (c % 64)) p q

-- of one more word
pub none_more : (a b : List ℕ) (k : ℕ) → ((c : ℕ) → c / 64 < k → tells a c ≡ true → tells b c ≡ true → ⊥) → bit_and (word_at a k) (word_at b k) ≡ 0 → (c : ℕ) → c / 64 < k + 1 → tells a c ≡ true → tells b c ≡ true → ⊥
none_more a b k before none c within =
    below_more
    (λ j. (d : ℕ) → d / 64 ≡ j → tells a d ≡ true → tells b d ≡ true → ⊥)
    k
    (λ j small d e. before d (omega arith))
    (λ d e. none_told a b d (ap (λ j. bit_and (word_at a j) (word_at b j)) e ∙ none))
    (c / 64)
    within
    c
    refl

-- before the lowest bit that one of their words have in common, behind words that have none
pub least_told : (a b : List ℕ) (k bit : ℕ) → bit < 64 → ((c : ℕ) → c / 64 < k → tells a c ≡ true → tells b c ≡ true → ⊥) → ((i : ℕ) → i < bit → bit_at (bit_and (word_at a k) (word_at b k)) i ≡ 0) → (c : ℕ) → c < 64 * k + bit → tells a c ≡ true → tells b c ≡ true → ⊥
least_told a b k bit small before lowest c within =
    below_more
    (λ j. (d : ℕ) → d / 64 ≡ j → d < 64 * k + bit → tells a d ≡ true → tells b d ≡ true → ⊥)
    k
    (λ j less d e lt. before d (omega arith))
    (λ d e lt. none_at a b d (ap (λ j. bit_at (bit_and (word_at a j) (word_at b j)) (d % 64)) e ∙ lowest (d % 64) (omega arith)))
    (c / 64)
    (omega (arith, within, small))
    c
    refl
    within

-- what the marks of two blocks share
pub shared_is : (r s : RunData) (exposed marks : set.FinSet nat_cmp) (o : Option ℕ) → exposed ≡ s.seen.exposed → ((c : ℕ) → set.contains marks c ≡ is_some (map.get r.seen.written c)) → MatchOption o (Share exposed marks → ⊥) (IsLeastShared exposed marks) → MatchOption o (reads_of r s ≡ false) (CarriesLeast r s)
shared_is r s exposed marks None is same none =
    sym (meets_is s.seen.exposed marks r.seen.written false same (λ h. absurd (false≢true h), λ h. absurd (none (subst (λ e. Share e marks) (sym is) h))))
shared_is r s exposed marks (Some cell) is same both =
    record {
      carries = (sym (same cell) ∙ both.other, ap (λ e. set.contains e cell) (sym is) ∙ both.one);
      least = λ c lt k. both.least c lt (ap (λ e. set.contains e c) is ∙ k.1) (same c ∙ k.0);
    }

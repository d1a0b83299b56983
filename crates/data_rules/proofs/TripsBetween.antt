-- The trips of implied DOs, of which there is one at least.
use Rattle.std.proofs.Common.{◌≡◌, ◌≢◌, ℕ, zero, suc, Bool, true, false, ℤ, pos, ◌+ℤ◌, ◌*ℤ◌, map, Some, None, refl, sym, ap, ◌∙◌}
use Rattle.std.specs.Prelude.{if◌then◌else◌}
use Rattle.std.specs.List.{range_with_len}
use Rattle.std.specs.Ordering.{int_eq}
use Rattle.std.proofs.lemmas.Bool.Decides.{Decides-int_eq}
use Rattle.meaning.specs.Initial.{some_trips, trips_if}
use Rattle.meaning.specs.Trips.{trip_count, trips}

module _ (first last step : ℤ) where
  not_zero : step ≢ pos 0 → int_eq step (pos 0) ≡ false
  not_zero some = by_test (int_eq step (pos 0)) refl
    where
      by_test : (b : Bool) → int_eq step (pos 0) ≡ b → b ≡ false
      by_test false e = refl
      by_test true e = absurd (some ((Decides-int_eq step (pos 0)).0 e))

  some_there : (n : ℕ) → n ≢ 0 → Some (map (λ k. first +ℤ pos k *ℤ step) (range_with_len 0 n)) ≡ some_trips (map (λ k. first +ℤ pos k *ℤ step) (range_with_len 0 n))
  some_there zero some = absurd (some refl)
  some_there (suc n) some = refl

  pub trips_there : (n : ℕ) → n ≡ trip_count first last step → step ≢ pos 0 → n ≢ 0 → Some (map (λ k. first +ℤ pos k *ℤ step) (range_with_len 0 n)) ≡ trips_if first last step
  trips_there n is some more =
      some_there n more ∙ ap (λ k. some_trips (map (λ j. first +ℤ pos j *ℤ step) (range_with_len 0 k))) is
      ∙ sym (ap (λ b. if b then None else some_trips (trips first last step)) (not_zero some))

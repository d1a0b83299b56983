-- The values of a DO variable, from one trip to the next (ANSI X3.9-1978, 11.10).
use Rattle.std.proofs.Common.{◌≡◌, ◌≢◌, ℕ, zero, suc, ◌+◌, ◌*◌, ◌/◌, ◌<◌, ◌≤◌, ℤ, pos, negsuc, neg_ℤ, ◌+ℤ◌, ◌-ℤ◌, ◌*ℤ◌, int_div, FitsSigned, refl, sym, subst, arith, rules}
use Rattle.std.specs.Int.{w32}
use Rattle.std.proofs.lemmas.Int.{ints}
use Rattle.meaning.specs.Characters.{at_least_zero}
use Rattle.meaning.specs.Trips.{trip_count}

no_less : (n : ℕ) → at_least_zero (neg_ℤ (pos n)) ≡ 0
no_less zero = refl
no_less (suc n) = refl

-- so many whole steps are within the distance
within : (k a b : ℕ) → k < a / suc b → k * suc b + suc b ≤ a
within k a b lt = grind arith

up_fits : (first last : ℤ) (m a b : ℕ) → m + suc b ≤ a → pos a ≡ last -ℤ first +ℤ pos (suc b) → FitsSigned w32 first → FitsSigned w32 last → FitsSigned w32 (first +ℤ pos m)
up_fits first last m a b le is f g = omega (arith, ints)

down_fits : (first last : ℤ) (m a b : ℕ) → m + suc b ≤ suc a → negsuc a ≡ last -ℤ first +ℤ negsuc b → FitsSigned w32 first → FitsSigned w32 last → FitsSigned w32 (first -ℤ pos m)
down_fits first last m a b le is f g = omega (arith, ints)

times_up : (k b : ℕ) → pos k *ℤ pos (suc b) ≡ pos (k * suc b)
times_up k b = refl

times_down : (first : ℤ) (k b : ℕ) → first +ℤ pos k *ℤ negsuc b ≡ first -ℤ pos (k * suc b)
times_down first k b = search rules

fits_by : (first last step z : ℤ) → z ≡ last -ℤ first +ℤ step → (k : ℕ) → k < at_least_zero (int_div z step) → step ≢ pos 0 → FitsSigned w32 first → FitsSigned w32 last → FitsSigned w32 (first +ℤ pos k *ℤ step)
fits_by first last (pos zero) z is k lt some f g = absurd (some refl)
fits_by first last (pos (suc b)) (pos a) is k lt some f g = up_fits first last (k * suc b) a b (within k a b lt) is f g
fits_by first last (pos (suc b)) (negsuc a) is k lt some f g = absurd (let e = no_less (suc a / suc b) in omega arith)
fits_by first last (negsuc b) (pos a) is k lt some f g = absurd (let e = no_less (a / suc b) in omega arith)
fits_by first last (negsuc b) (negsuc a) is k lt some f g =
    subst (λ x. FitsSigned w32 x) (sym (times_down first k b)) (down_fits first last (k * suc b) a b (within k (suc a) b lt) is f g)

-- each trip's value is an INTEGER
pub each_fits : (first last step : ℤ) → step ≢ pos 0 → FitsSigned w32 first → FitsSigned w32 last → (k : ℕ) → k < trip_count first last step → FitsSigned w32 (first +ℤ pos k *ℤ step)
each_fits first last step some f g k lt = fits_by first last step (last -ℤ first +ℤ step) refl k lt some f g

-- Lists in which an element was set.
use Rattle.std.proofs.Common.{◌≡◌, ℕ, zero, suc, ◌<◌, List, [], ◌∷◌, length, Some, slice_get, slice_set, replicate, refl, sym, ap, arith}

pub get_same : {X : Type 0} (xs : List X) (i : ℕ) (v : X) → i < length xs → slice_get (slice_set xs i v) i ≡ Some v
get_same [] i v h = absurd (omega arith)
get_same (x ∷ xs) zero v h = refl
get_same (x ∷ xs) (suc i) v h = get_same xs i v (omega arith)

pub get_other : {X : Type 0} (xs : List X) (i : ℕ) (v : X) (j : ℕ) → (j ≡ i → ⊥) → slice_get (slice_set xs i v) j ≡ slice_get xs j
get_other [] i v j h = refl
get_other (x ∷ xs) zero v zero h = absurd (h refl)
get_other (x ∷ xs) zero v (suc j) h = refl
get_other (x ∷ xs) (suc i) v zero h = refl
get_other (x ∷ xs) (suc i) v (suc j) h = get_other xs i v j (λ e. h (ap suc e))

pub get_replicated : {X : Type 0} (n : ℕ) (v : X) (i : ℕ) → i < n → slice_get (replicate n v) i ≡ Some v
get_replicated zero v i h = absurd (omega arith)
get_replicated (suc n) v zero h = refl
get_replicated (suc n) v (suc i) h = get_replicated n v i (omega arith)

-- what an equal list has is the value
pub is_replicated : {X : Type 0} (n : ℕ) (v : X) (i : ℕ) (x : X) → slice_get (replicate n v) i ≡ Some x → Some x ≡ Some v
is_replicated zero v i x h = absurd cc
is_replicated (suc n) v zero x h = sym h
is_replicated (suc n) v (suc i) x h = is_replicated n v i x h

-- A store that holds the value of each cell, as a list and among stores.
use Rattle.std.proofs.Common.{◌≡◌, ℕ, zero, suc, ◌<◌, ◌==◌, ℤ, pos, true, false, List, [], ◌∷◌, length, if◌then◌else◌, Option, Some, unwrap_or, slice_get, slice_set, refl, sym, ap, ◌∙◌, inl, arith}
use Rattle.std.proofs.Math.Path.{fun_ext}
use Rattle.std.proofs.Math.Dec.{eqb-suc-zero, eqb-zero-suc, eqb-suc-suc}
use Rattle.std.proofs.lemmas.List.{length-set}
use Rattle.meaning.specs.Stores.{World, known, overlay, with_exposed, after_read, LeavesRead, after_write}
use Rattle.array_store.specs.Whole.{world_of}

-- what a list has in a place is known
pub known_is : (values : List ℤ) (c : ℕ) (v : ℤ) → slice_get values c ≡ Some v → v ≡ known (world_of values) c
unfolding known overlay
known_is values c v e = sym (ap (λ o. unwrap_or o (pos 0)) e)

-- nothing is exposed, since each cell is written
pub leaves_read : (values : List ℤ) (c : ℕ) (v : ℤ) → slice_get values c ≡ Some v → LeavesRead c (world_of values) (world_of values)
unfolding after_read
leaves_read values c v e =
    inl (sym (ap (λ o. record (world_of values) { exposed = with_exposed c o (λ d. false) }) e))

-- a list after a write, at each place
slice_get-slice_set : (values : List ℤ) (c : ℕ) (v : ℤ) (d : ℕ) → c < length values → slice_get (slice_set values c v) d ≡ (if d == c then Some v else slice_get values d)
slice_get-slice_set [] c v d h = absurd (omega arith)
slice_get-slice_set (x ∷ xs) zero v zero h = refl
slice_get-slice_set (x ∷ xs) zero v (suc d) h =
    sym (ap (λ b. if b then Some v else slice_get xs d) (eqb-suc-zero d))
slice_get-slice_set (x ∷ xs) (suc c) v zero h =
    sym (ap (λ b. if b then Some v else Some x) (eqb-zero-suc c))
slice_get-slice_set (x ∷ xs) (suc c) v (suc d) h =
    slice_get-slice_set xs c v d (omega arith) ∙ sym (ap (λ b. if b then Some v else slice_get xs d) (eqb-suc-suc d c))

abbrev world_with : ℕ → (ℕ → Option ℤ) → World
world_with cells written =
    record { cells = cells; base = λ c. pos 0; exposed = λ c. false; written = written; lost = false; sure = true }

-- a write to the list is a write to the store
pub written_is : (values : List ℤ) (c : ℕ) (v : ℤ) → c < length values → world_of (slice_set values c v) ≡ after_write c v (world_of values)
unfolding after_write
written_is values c v h =
    ap (λ n. world_with n (slice_get (slice_set values c v))) (length-set values c v) ∙ ap (λ f. world_with (length values) f) (fun_ext (λ d. slice_get-slice_set values c v d h))

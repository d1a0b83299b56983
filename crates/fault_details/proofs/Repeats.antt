-- Elements of lists one behind another, and of a list so many times.
use Rattle.std.proofs.Common.{◌≡◌, ℕ, zero, suc, ◌+◌, ◌-◌, ◌*◌, ◌%◌, ◌<◌, ◌≤◌, ◌⊎◌, inl, inr, min, List, [], ◌∷◌, ◌++◌, length, slice_get, refl, sym, ap, ◌∙◌, arith}
use Rattle.std.proofs.Math.Nat.{mod-eq_of_lt, add-mod_left, suc-mul, zero-mul}
use Rattle.std.proofs.lemmas.Bool.{cases_lt}
use Rattle.std.proofs.lemmas.List.{length-append}
use Rattle.meaning.specs.Formats.{Descriptor}
use Rattle.meaning.specs.Records.{times}

pub get_before : (xs ys : List Descriptor) (i : ℕ) → i < length xs → slice_get (xs ++ ys) i ≡ slice_get xs i
get_before [] ys i lt = absurd (omega arith)
get_before (x ∷ xs) ys zero lt = refl
get_before (x ∷ xs) ys (suc i) lt = get_before xs ys i (omega arith)

get_further : (xs ys : List Descriptor) (i : ℕ) → slice_get (xs ++ ys) (length xs + i) ≡ slice_get ys i
get_further [] ys i = let e : 0 + i ≡ i = omega arith in ap (slice_get ys) e
get_further (x ∷ xs) ys i =
    let e : suc (length xs) + i ≡ suc (length xs + i) = omega arith in
    ap (slice_get (x ∷ (xs ++ ys))) e ∙ get_further xs ys i

pub get_behind : (xs ys : List Descriptor) (i : ℕ) → length xs ≤ i → slice_get (xs ++ ys) i ≡ slice_get ys (i - length xs)
get_behind xs ys i le =
    let e : i ≡ length xs + (i - length xs) = omega arith in
    ap (slice_get (xs ++ ys)) e ∙ get_further xs ys (i - length xs)

none_of : (a : ℕ) → 0 * a ≡ 0
none_of a = zero-mul a

one_more : (n a : ℕ) → suc n * a ≡ a + n * a
one_more n a = let e = suc-mul n a in omega (arith, e)

pub times_length : (n : ℕ) (ds : List Descriptor) → length (times n ds) ≡ n * length ds
times_length zero ds = sym (none_of (length ds))
times_length (suc n) ds = length-append ds (times n ds) ∙ ap (λ k. length ds + k) (times_length n ds) ∙ sym (one_more n (length ds))

-- a place in repeats is one in what is repeated
pub get_times : (n : ℕ) (ds : List Descriptor) (i : ℕ) → i < n * length ds → slice_get (times n ds) i ≡ slice_get ds (i % length ds)
get_times zero ds i lt = let none = none_of (length ds) in absurd (omega arith)
get_times (suc n) ds i lt = by_place (get_times n ds (i - length ds)) (cases_lt i (length ds))
  where
    by_place : (i - length ds < n * length ds → slice_get (times n ds) (i - length ds) ≡ slice_get ds ((i - length ds) % length ds)) → ((i < length ds) ⊎ (length ds ≤ i)) → slice_get (times (suc n) ds) i ≡ slice_get ds (i % length ds)
    by_place later (inl first) = get_before ds (times n ds) i first ∙ ap (slice_get ds) (sym (mod-eq_of_lt first))
    by_place later (inr behind) =
        let e : length ds + (i - length ds) ≡ i = omega arith in
        let more = one_more n (length ds) in
        let same = sym (add-mod_left (length ds) (i - length ds)) ∙ ap (λ k. k % length ds) e in
        get_behind ds (times n ds) i behind ∙ later (omega arith) ∙ ap (slice_get ds) same

-- a count that goes as far as a number does leaves the same
pub same_rest : (most i k n : ℕ) → i < most → k ≡ min n most → i % k ≡ i % n
same_rest most i k n lt e = by_size (cases_lt most n)
  where
    by_size : ((most < n) ⊎ (n ≤ most)) → i % k ≡ i % n
    by_size (inl far) =
        let below : i < k = omega arith in
        let within : i < n = omega arith in
        mod-eq_of_lt below ∙ sym (mod-eq_of_lt within)
    by_size (inr near) = let same : k ≡ n = omega arith in ap (λ m. i % m) same

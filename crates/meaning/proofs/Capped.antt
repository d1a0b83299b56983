-- Sums and products that count no further than a bound.
use Rattle.std.proofs.Common.{◌≡◌, ℕ, ◌+◌, ◌*◌, ◌<◌, ◌≤◌, ◌⊎◌, inl, inr, min, ap, ◌∙◌, arith}
use Rattle.std.proofs.lemmas.Bool.{cases_lt}
use Rattle.std.proofs.Math.Nat.{mul-le-mul_right, mul-le-mul_left}

pub sum_more : (most sum x n rest all next : ℕ) → x ≡ min n most → next ≡ min (sum + x) most → min (sum + (n + rest)) most ≡ all → min (next + rest) most ≡ all
sum_more most sum x n rest all next e f so_far = omega arith

large : (most n a : ℕ) → most < a → 0 < n → (most ≤ n * most) × (most ≤ n * a)
large most n a far some =
    let once : 1 * most ≤ n * most = mul-le-mul_right most (omega arith) in
    let more : n * most ≤ n * a = mul-le-mul_left n (omega arith) in
    (omega arith, omega arith)

pub product_is : (most n a x r : ℕ) → x ≡ min a most → r ≡ min (n * x) most → r ≡ min (n * a) most
product_is most n a x r e f = by_size (cases_lt most a) (cases_lt 0 n)
  where
    by_size : ((most < a) ⊎ (a ≤ most)) → ((0 < n) ⊎ (n ≤ 0)) → r ≡ min (n * a) most
    by_size (inl far) (inl some) =
        let same : x ≡ most = omega arith in
        let k = large most n a far some in
        let g : r ≡ min (n * most) most = f ∙ ap (λ y. min (n * y) most) same in
        omega arith
    by_size (inl far) (inr none) =
        let same : n ≡ 0 = omega arith in
        let g : r ≡ min (0 * x) most = f ∙ ap (λ m. min (m * x) most) same in
        let h : min (n * a) most ≡ min (0 * a) most = ap (λ m. min (m * a) most) same in
        omega arith
    by_size (inr near) some = let same : x ≡ a = omega arith in f ∙ ap (λ y. min (n * y) most) same

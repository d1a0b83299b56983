-- Each element of an array has a place of its own, and each variable and element a cell of its own.
use Rattle.std.proofs.Common.{◌≡◌, ℕ, zero, suc, ℤ, pos, negsuc, ◌+ℤ◌, ◌-ℤ◌, ◌+◌, ◌*◌, ◌/◌, ◌%◌, ◌<◌, ◌≤◌, ltb, cond, Bool, true, false, List, [], ◌∷◌, Option, Some, None, refl, sym, ap, ◌∙◌, subst, arith}
use Rattle.std.specs.Prelude.{option_map}
use Rattle.std.specs.Str.{bytes_eq}
use Rattle.std.proofs.Math.Nat.{mul-le-mul, le_refl, div-eq_of_lt, add-mul-div_left, add-mul-mod_self_left, mod-eq_of_lt, mod-lt, div-add-mod, div-lt_iff_lt-mul}
use Rattle.std.proofs.lemmas.Bool.{lt-ltb, ltb-true}
use Rattle.std.proofs.lemmas.Slice.Eq.{bytes_eq-Decides}
use Rattle.std.proofs.lemmas.Int.{ints}
use Rattle.meaning.specs.Arrays.{Dimension, extent, size, within, above, combined, place, Named, cells_of, cell_of, AreOneToOne, HaveOwnCells}

-- ---- within a dimension

within-lt : (n k j : ℕ) (b : Bool) → ltb k n ≡ b → cond b (Some k) None ≡ Some j → (k ≡ j) × (j < n)
within-lt n k j true e h = let same : k ≡ j = cc in (same, subst (λ i. i < n) same (ltb-true k n e))
within-lt n k j false e h = absurd cc

within-is : (n : ℕ) (z : ℤ) (j : ℕ) → within n z ≡ Some j → (z ≡ pos j) × (j < n)
within-is n (pos k) j h = let r = within-lt n k j (ltb k n) refl h in (ap pos r.0, r.1)
within-is n (negsuc k) j h = absurd cc

within-pos : (n k : ℕ) → k < n → within n (pos k) ≡ Some k
within-pos n k lt = ap (λ b. cond b (Some k) None) (lt-ltb k n lt)

-- ---- above the lower bound

-- what stands equally far above a bound is the same
sub-same : (s t l : ℤ) (k : ℕ) → s -ℤ l ≡ pos k → t -ℤ l ≡ pos k → s ≡ t
sub-same s t l k p q = omega (arith, ints)

add-sub : (l : ℤ) (k : ℕ) → l +ℤ pos k -ℤ l ≡ pos k
add-sub l k = omega (arith, ints)

above-lt : (d : Dimension) (s : ℤ) (k : ℕ) → above d s ≡ Some k → k < extent d
above-lt d s k h = (within-is (extent d) (s -ℤ d.lower) k h).1

above-same : (d : Dimension) (s t : ℤ) (k : ℕ) → above d s ≡ Some k → above d t ≡ Some k → s ≡ t
above-same d s t k p q =
    sub-same s t d.lower k (within-is (extent d) (s -ℤ d.lower) k p).0 (within-is (extent d) (t -ℤ d.lower) k q).0

pub above-at : (d : Dimension) (k : ℕ) → k < extent d → above d (d.lower +ℤ pos k) ≡ Some k
above-at d k lt = ap (within (extent d)) (add-sub d.lower k) ∙ within-pos (extent d) k lt

-- ---- a place in the first dimension and one in the others

record Parts (n : ℕ) (o p : Option ℕ) (c : ℕ) : Type 0 where
  first : ℕ
  rest : ℕ
  is_first : o ≡ Some first
  is_rest : p ≡ Some rest
  is : first + n * rest ≡ c

parts_of : (n : ℕ) (o p : Option ℕ) (c : ℕ) → combined n o p ≡ Some c → Parts n o p c
parts_of n (Some k) (Some i) c h = record { first = k; rest = i; is_first = refl; is_rest = refl; is = let same : k + n * i ≡ c = cc in same }
parts_of n (Some k) None c h = absurd cc
parts_of n None p c h = absurd cc

-- digits of a number in base n
same-rest : (n k j i h : ℕ) → k < n → j < n → k + n * i ≡ j + n * h → i ≡ h
same-rest n k j i h p q e =
    let some : 0 < n = omega arith in
    zero-add i ∙ sym (add-mul-div_left k i some ∙ ap (λ x. x + i) (div-eq_of_lt p)) ∙ ap (λ x. x / n) e ∙ add-mul-div_left j h some ∙ ap (λ x. x + h) (div-eq_of_lt q) ∙ sym (zero-add h)
  where
    zero-add : (x : ℕ) → x ≡ 0 + x
    zero-add x = omega arith

same-first : (n k j i h : ℕ) → k < n → j < n → k + n * i ≡ j + n * h → k ≡ j
same-first n k j i h p q e =
    sym (add-mul-mod_self_left k n i ∙ mod-eq_of_lt p) ∙ ap (λ x. x % n) e ∙ add-mul-mod_self_left j n h ∙ mod-eq_of_lt q

below-product : (n m k i : ℕ) → k < n → i < m → k + n * i < n * m
below-product n zero k i p q = absurd (omega arith)
below-product n (suc m) k i p q = let h = mul-le-mul (le_refl n) (le-of-suc i m q) in omega (arith, h, mul-suc n m)
  where
    le-of-suc : (i m : ℕ) → i < suc m → i ≤ m
    le-of-suc i m q = omega arith

    mul-suc : (n m : ℕ) → n * suc m ≡ n * m + n
    mul-suc n m = omega arith

-- ---- places

pub place-lt : (ds : List Dimension) (ss : List ℤ) (i : ℕ) → place ds ss ≡ Some i → i < size ds
place-lt [] [] i h = let same : 0 ≡ i = cc in omega arith
place-lt [] (s ∷ ss) i h = absurd cc
place-lt (d ∷ ds) [] i h = absurd cc
place-lt (d ∷ ds) (s ∷ ss) i h =
    let p = parts_of (extent d) (above d s) (place ds ss) i h in
    subst (λ c. c < size (d ∷ ds)) p.is (below-product (extent d) (size ds) p.first p.rest (above-lt d s p.first p.is_first) (place-lt ds ss p.rest p.is_rest))

place-own : (ds : List Dimension) (ss ts : List ℤ) (i : ℕ) → place ds ss ≡ Some i → place ds ts ≡ Some i → ss ≡ ts
place-own [] [] [] i p q = refl
place-own [] [] (t ∷ ts) i p q = absurd cc
place-own [] (s ∷ ss) ts i p q = absurd cc
place-own (d ∷ ds) [] ts i p q = absurd cc
place-own (d ∷ ds) (s ∷ ss) [] i p q = absurd cc
place-own (d ∷ ds) (s ∷ ss) (t ∷ ts) i p q =
    let a = parts_of (extent d) (above d s) (place ds ss) i p in
    let b = parts_of (extent d) (above d t) (place ds ts) i q in
    let k = above-lt d s a.first a.is_first in
    let j = above-lt d t b.first b.is_first in
    let first = same-first (extent d) a.first b.first a.rest b.rest k j (a.is ∙ sym b.is) in
    let rest = same-rest (extent d) a.first b.first a.rest b.rest k j (a.is ∙ sym b.is) in
    ap (λ x. x ∷ ss) (above-same d s t a.first a.is_first (b.is_first ∙ ap Some (sym first))) ∙ ap (λ xs. t ∷ xs) (place-own ds ss ts a.rest a.is_rest (b.is_rest ∙ ap Some (sym rest)))

-- an element of a place
abbrev HasElement : List Dimension → ℕ → Type 0
HasElement ds i = (ss : List ℤ) × (place ds ss ≡ Some i)

module _ (d : Dimension) (ds : List Dimension) (i : ℕ) where
  first-lt : 0 < extent d → i % extent d < extent d
  first-lt some = mod-lt i some

  rest-lt : 0 < extent d → i < extent d * size ds → i / extent d < size ds
  rest-lt some lt = (div-lt_iff_lt-mul some).1 (subst (λ n. i < n) (commuted (extent d) (size ds)) lt)
    where
      commuted : (n m : ℕ) → n * m ≡ m * n
      commuted n m = omega arith

  combined-is : i % extent d + extent d * (i / extent d) ≡ i
  combined-is = swapped (i % extent d) (extent d * (i / extent d)) ∙ div-add-mod i (extent d)
    where
      swapped : (a b : ℕ) → a + b ≡ b + a
      swapped a b = omega arith

  element-more : 0 < extent d → HasElement ds (i / extent d) → HasElement (d ∷ ds) i
  element-more some x = (
    (d.lower +ℤ pos (i % extent d)) ∷ x.0,
    ap (λ o. combined (extent d) o (place ds x.0)) (above-at d (i % extent d) (first-lt some)) ∙ ap (combined (extent d) (Some (i % extent d))) x.1 ∙ ap Some combined-is,
  )

some-extent : (n m i : ℕ) → i < n * m → 0 < n
some-extent zero m i lt = absurd (omega arith)
some-extent (suc n) m i lt = omega arith

place-all : (ds : List Dimension) (i : ℕ) → i < size ds → HasElement ds i
place-all [] i lt = ([], ap Some (none_but i lt))
  where
    none_but : (i : ℕ) → i < 1 → 0 ≡ i
    none_but i lt = omega arith
place-all (d ∷ ds) i lt =
    let some = some-extent (extent d) (size ds) i lt in
    element-more d ds i some (place-all ds (i / extent d) (rest-lt d ds i some lt))

pub one_to_one : (ds : List Dimension) → AreOneToOne ds
one_to_one ds = record { small = place-lt ds; own = place-own ds; all = place-all ds }

-- ---- cells

record Behind (m : ℕ) (o : Option ℕ) (c : ℕ) : Type 0 where
  cell : ℕ
  is_cell : o ≡ Some cell
  is : m + cell ≡ c

behind : (m : ℕ) (o : Option ℕ) (c : ℕ) → option_map (λ x. m + x) o ≡ Some c → Behind m o c
behind m (Some x) c h = record { cell = x; is_cell = refl; is = let same : m + x ≡ c = cc in same }
behind m None c h = absurd cc

-- the cell of a name, once it is known whether the first name is that name
abbrev cell_by : Bool → Named → List Named → List ℕ → List ℤ → Option ℕ
cell_by b x xs n ss = cond b (place x.dimensions ss) (option_map (λ c. size x.dimensions + c) (cell_of xs n ss))

cell_by-lt : (x : Named) (xs : List Named) (n : List ℕ) (ss : List ℤ) (c : ℕ) (b : Bool) → ((e : ℕ) → cell_of xs n ss ≡ Some e → e < cells_of xs) → cell_by b x xs n ss ≡ Some c → c < size x.dimensions + cells_of xs
cell_by-lt x xs n ss c true later h = first-cell (size x.dimensions) (cells_of xs) c (place-lt x.dimensions ss c h)
  where
    first-cell : (a b c : ℕ) → c < a → c < a + b
    first-cell a b c lt = omega arith
cell_by-lt x xs n ss c false later h =
    let r = behind (size x.dimensions) (cell_of xs n ss) c h in
    later-cell (size x.dimensions) (cells_of xs) r.cell c r.is (later r.cell r.is_cell)
  where
    later-cell : (a b e c : ℕ) → a + e ≡ c → e < b → c < a + b
    later-cell a b e c is lt = omega arith

cell-lt : (xs : List Named) (n : List ℕ) (ss : List ℤ) (c : ℕ) → cell_of xs n ss ≡ Some c → c < cells_of xs
cell-lt [] n ss c h = absurd cc
cell-lt (x ∷ xs) n ss c h = cell_by-lt x xs n ss c (bytes_eq n x.name) (λ e k. cell-lt xs n ss e k) h

-- what two names have in one cell
abbrev IsSame : List ℕ → List ℕ → List ℤ → List ℤ → Type 0
IsSame n p ss ts = (n ≡ p) × (ss ≡ ts)

module _ (x : Named) (xs : List Named) (n p : List ℕ) (ss ts : List ℤ) (c : ℕ) (others : (e : ℕ) → cell_of xs n ss ≡ Some e → cell_of xs p ts ≡ Some e → IsSame n p ss ts) where
  apart : (e : ℕ) → size x.dimensions + e ≡ c → c < size x.dimensions → ⊥
  apart e is lt = omega arith

  equal-behind : (m e f : ℕ) → m + e ≡ c → m + f ≡ c → e ≡ f
  equal-behind m e f k l = omega arith

  cell_by-own : (a b : Bool) → bytes_eq n x.name ≡ a → bytes_eq p x.name ≡ b → cell_by a x xs n ss ≡ Some c → cell_by b x xs p ts ≡ Some c → IsSame n p ss ts
  cell_by-own true true e f h k =
      ((bytes_eq-Decides n x.name).0 e ∙ sym ((bytes_eq-Decides p x.name).0 f), place-own x.dimensions ss ts c h k)
  cell_by-own true false e f h k =
      let r = behind (size x.dimensions) (cell_of xs p ts) c k in
      absurd (apart r.cell r.is (place-lt x.dimensions ss c h))
  cell_by-own false true e f h k =
      let r = behind (size x.dimensions) (cell_of xs n ss) c h in
      absurd (apart r.cell r.is (place-lt x.dimensions ts c k))
  cell_by-own false false e f h k =
      let r = behind (size x.dimensions) (cell_of xs n ss) c h in
      let q = behind (size x.dimensions) (cell_of xs p ts) c k in
      others r.cell r.is_cell (q.is_cell ∙ ap Some (equal-behind (size x.dimensions) q.cell r.cell q.is r.is))

cell-own : (xs : List Named) (n p : List ℕ) (ss ts : List ℤ) (c : ℕ) → cell_of xs n ss ≡ Some c → cell_of xs p ts ≡ Some c → IsSame n p ss ts
cell-own [] n p ss ts c h k = absurd cc
cell-own (x ∷ xs) n p ss ts c h k =
    cell_by-own x xs n p ss ts c (λ e l m. cell-own xs n p ss ts e l m) (bytes_eq n x.name) (bytes_eq p x.name) refl refl h k

pub own_cells : (names : List Named) → HaveOwnCells names
own_cells names = record { small = cell-lt names; own = cell-own names }

-- Cells and the names that have them, and the places of elements and their subscripts.
use Rattle.std.proofs.Common.{◌≡◌, ℕ, zero, suc, ◌+◌, ◌-◌, ◌*◌, ◌/◌, ◌%◌, ◌<◌, ◌≤◌, ltb, ℤ, pos, negsuc, ◌+ℤ◌, ◌-ℤ◌, ◌≤ℤ◌, Bool, true, false, ◌||◌, List, [], ◌∷◌, ◌++◌, length, get_or, take, drop, map, append_assoc, add-one, Option, Some, None, refl, sym, ap, ap₂, subst, ◌∙◌, arith}
use Rattle.std.specs.Prelude.{if◌then◌else◌, option_map, IfSome}
use Rattle.std.specs.List.{list_any}
use Rattle.std.specs.Str.{bytes_eq}
use Rattle.std.proofs.Math.Nat.{div-add-mod, div-lt_iff_lt-mul, mod-lt, mul_assoc}
use Rattle.std.proofs.Math.Seq.{drop-cons}
use Rattle.std.proofs.lemmas.Bool.{true≢false, le-ltb, lt-ltb, ltb-false, ltb-true}
use Rattle.std.proofs.lemmas.Int.{ints}
use Rattle.std.proofs.lemmas.Slice.Eq.{bytes_eq-Decides}
use Rattle.expressions.specs.Dimensions.{dimension}
use Rattle.expressions.specs.declared.dimension.Dimension.{Dimension as Own}
use Rattle.meaning.specs.Arrays.{Dimension, Named, cell_of, cells_of, combined, extent, place, size}
use Rattle.meaning.specs.Characters.{at_least_zero}
use Rattle.meaning.proofs.Elements.{above-at}
use Rattle.symbols.proofs.Passes.{map_more}
use Rattle.cell_names.specs.declared.naming.CellName.{CellName}
use Rattle.cell_names.specs.declared.named.Named.{Named as Kept}
use Rattle.cell_names.specs.Cells.{AreApart, are_named, is_named}
use Rattle.cell_names.specs.Told.{Told, subscripts_at, told_at, told_by}

-- ---- a subscript within its bounds

pub within_bounds : (l u : ℤ) (k : ℕ) → k < at_least_zero (u -ℤ l +ℤ pos 1) → (l +ℤ pos k) ≤ℤ u
within_bounds l u k lt = by (u -ℤ l +ℤ pos 1) refl lt
  where
    by : (z : ℤ) → u -ℤ l +ℤ pos 1 ≡ z → k < at_least_zero z → (l +ℤ pos k) ≤ℤ u
    by (pos n) is h = omega (arith, ints)
    by (negsuc n) is h = absurd (omega arith)

-- ---- how many elements there are

size_push : (ds : List Dimension) (d : Dimension) → size (ds ++ d ∷ []) ≡ size ds * extent d
size_push [] d = one_last (extent d)
  where
    one_last : (n : ℕ) → n * 1 ≡ 1 * n
    one_last n = omega arith
size_push (x ∷ xs) d =
    ap (λ n. extent x * n) (size_push xs d) ∙ sym (mul_assoc (extent x) (size xs) (extent d))

pub size_more : (xs : List Own) (i : ℕ) (x : Own) (now next by : ℕ) → i < length xs → x ≡ get_or xs i x → now ≡ size (map dimension (take i xs)) → by ≡ extent (dimension x) → next ≡ now * by → next ≡ size (map dimension (take (i + 1) xs))
size_more xs i x now next by lt is so_far factor added =
    added ∙ ap₂ (λ a b. a * b) so_far factor ∙ sym (size_push (map dimension (take i xs)) (dimension x))
    ∙ ap size (sym (map_more dimension xs i x lt is))

-- ---- the subscripts of the element at a place

some_extent : (n m i : ℕ) → i < n * m → 0 < n
some_extent zero m i lt = absurd (omega arith)
some_extent (suc n) m i lt = omega arith

less_behind : (n m i : ℕ) → 0 < n → i < n * m → i / n < m
less_behind n m i some lt = (div-lt_iff_lt-mul some).1 (subst (λ k. i < k) (commuted n m) lt)
  where
    commuted : (n m : ℕ) → n * m ≡ m * n
    commuted n m = omega arith

-- they lead to that place
place_is : (ds : List Dimension) (i : ℕ) → i < size ds → place ds (subscripts_at ds i) ≡ Some i
place_is [] i lt = ap Some (none_but i lt)
  where
    none_but : (i : ℕ) → i < 1 → 0 ≡ i
    none_but i lt = omega arith
place_is (d ∷ ds) i lt =
    let some = some_extent (extent d) (size ds) i lt in
    ap (λ o. combined (extent d) o (place ds (subscripts_at ds (i / extent d)))) (above-at d (i % extent d) (mod-lt i some))
    ∙ ap (combined (extent d) (Some (i % extent d))) (place_is ds (i / extent d) (less_behind (extent d) (size ds) i some lt))
    ∙ ap Some (swapped (i % extent d) (extent d * (i / extent d)) ∙ div-add-mod i (extent d))
  where
    swapped : (a b : ℕ) → a + b ≡ b + a
    swapped a b = omega arith

-- from one member of a list on
from_here : {A : Type 0} (xs : List A) (i : ℕ) (x : A) → i < length xs → x ≡ get_or xs i x → drop i xs ≡ x ∷ drop (i + 1) xs
from_here xs i x lt is =
    drop-cons xs i x lt ∙ ap₂ (λ a k. a ∷ drop k xs) (sym is) (sym (add-one i))

module _ (ds : List Own) (i : ℕ) (x : Own) (lt : i < length ds) (is : x ≡ get_or ds i x) (left : ℕ) where
  here : drop i ds ≡ x ∷ drop (i + 1) ds
  here = from_here ds i x lt is

  pub has_extent : left < size (map dimension (drop i ds)) → 0 < extent (dimension x)
  has_extent h =
      some_extent (extent (dimension x)) (size (map dimension (drop (i + 1) ds))) left (subst (λ es. left < size (map dimension es)) here h)

  pub less_left : left < size (map dimension (drop i ds)) → left / extent (dimension x) < size (map dimension (drop (i + 1) ds))
  less_left h =
      less_behind (extent (dimension x)) (size (map dimension (drop (i + 1) ds))) left (has_extent h) (subst (λ es. left < size (map dimension es)) here h)

  pub one_subscript : (found : List ℤ) → (found ++ (x.lower +ℤ pos (left % extent (dimension x))) ∷ []) ++ subscripts_at (map dimension (drop (i + 1) ds)) (left / extent (dimension x)) ≡ found ++ subscripts_at (map dimension (drop i ds)) left
  one_subscript found =
      append_assoc found _ _ ∙ ap (λ es. found ++ subscripts_at (map dimension es) left) (sym here)

-- ---- the name that has a cell

abbrev element_of : Named → ℕ → Told
element_of x c = record { name = x.name; subscripts = subscripts_at x.dimensions c }

abbrev told_by_test : Bool → Named → List Named → ℕ → Option Told
told_by_test b x xs c = if b then Some (element_of x c) else told_at xs (c - size x.dimensions)

told_here : (x : Named) (xs : List Named) (c : ℕ) → c < size x.dimensions → told_at (x ∷ xs) c ≡ Some (element_of x c)
told_here x xs c lt = ap (λ b. told_by_test b x xs c) (lt-ltb c (size x.dimensions) lt)

told_behind : (x : Named) (xs : List Named) (c : ℕ) → size x.dimensions ≤ c → told_at (x ∷ xs) c ≡ told_at xs (c - size x.dimensions)
told_behind x xs c le = ap (λ b. told_by_test b x xs c) (le-ltb c (size x.dimensions) le)

module _ (names : List Kept) (i : ℕ) (x : Kept) (lt : i < length names) (is : x ≡ get_or names i x) (c : ℕ) where
  told_in : c < size (map dimension x.dimensions.items) → told_at (are_named (drop i names)) c ≡ Some (element_of (is_named x) c)
  told_in h =
      ap (λ ns. told_at (are_named ns) c) (from_here names i x lt is) ∙ told_here (is_named x) (are_named (drop (i + 1) names)) c h

  told_further : size (map dimension x.dimensions.items) ≤ c → told_at (are_named (drop i names)) c ≡ told_at (are_named (drop (i + 1) names)) (c - size (map dimension x.dimensions.items))
  told_further h =
      ap (λ ns. told_at (are_named ns) c) (from_here names i x lt is) ∙ told_behind (is_named x) (are_named (drop (i + 1) names)) c h

  pub told_named : (n : CellName) → n.name.items ≡ x.name.items → n.subscripts.items ≡ subscripts_at (map dimension x.dimensions.items) c → c < x.cells → told_at (are_named (drop i names)) c ≡ Some (told_by n)
  told_named n name subscripts h =
      told_in (subst (λ k. c < k) x.counted h)
      ∙ ap₂ (λ a b. Some (record { name = a; subscripts = b })) (sym name) (sym subscripts)

  pub told_next : x.cells ≤ c → told_at (are_named (drop i names)) c ≡ told_at (are_named (drop (i + 1) names)) (c - x.cells)
  told_next h =
      told_further (subst (λ k. k ≤ c) x.counted h)
      ∙ ap (λ k. told_at (are_named (drop (i + 1) names)) (c - k)) (sym x.counted)

-- ---- it has that cell, where no name stands twice

abbrev names_in : List Named → List (List ℕ)
names_in xs = map (λ (x : Named). x.name) xs

or_true : (b : Bool) → (b || true) ≡ true
or_true true = refl
or_true false = refl

same_name : (n m : List ℕ) → n ≡ m → bytes_eq n m ≡ true
same_name n m is = (bytes_eq-Decides n m).1 is

among : (xs : List Named) (c : ℕ) (t : Told) → told_at xs c ≡ Some t → list_any (bytes_eq t.name) (names_in xs) ≡ true
among [] c t is = absurd cc
among (x ∷ xs) c t is = by (among xs (c - size x.dimensions) t) (ltb c (size x.dimensions)) is
  where
    by : (told_at xs (c - size x.dimensions) ≡ Some t → list_any (bytes_eq t.name) (names_in xs) ≡ true) → (b : Bool) → told_by_test b x xs c ≡ Some t → list_any (bytes_eq t.name) (names_in (x ∷ xs)) ≡ true
    by later true h =
        let same : t ≡ element_of x c = cc in
        ap (λ b. b || list_any (bytes_eq t.name) (names_in xs)) (same_name t.name x.name (ap (λ (u : Told). u.name) same))
    by later false h = ap (λ b. bytes_eq t.name x.name || b) (later h) ∙ or_true (bytes_eq t.name x.name)

abbrev cell_by : Bool → Named → List Named → Told → Option ℕ
cell_by b x xs t = if b then place x.dimensions t.subscripts else option_map (λ k. size x.dimensions + k) (cell_of xs t.name t.subscripts)

other_name : (x : Named) (xs : List Named) (t : Told) → list_any (bytes_eq x.name) (names_in xs) ≡ false → list_any (bytes_eq t.name) (names_in xs) ≡ true → bytes_eq t.name x.name ≡ false
other_name x xs t apart there = by (bytes_eq t.name x.name) refl
  where
    by : (b : Bool) → bytes_eq t.name x.name ≡ b → b ≡ false
    by false e = refl
    by true e =
        absurd (true≢false (sym there ∙ ap (λ n. list_any (bytes_eq n) (names_in xs)) ((bytes_eq-Decides t.name x.name).0 e) ∙ apart))

own_cell : (xs : List Named) (c : ℕ) (t : Told) → AreApart xs → told_at xs c ≡ Some t → cell_of xs t.name t.subscripts ≡ Some c
own_cell [] c t apart is = absurd cc
own_cell (x ∷ xs) c t apart is =
    by (own_cell xs (c - size x.dimensions) t apart.1) (ltb c (size x.dimensions)) refl is
  where
    behind : (a c : ℕ) → a ≤ c → a + (c - a) ≡ c
    behind a c le = omega arith

    by : (told_at xs (c - size x.dimensions) ≡ Some t → cell_of xs t.name t.subscripts ≡ Some (c - size x.dimensions)) → (b : Bool) → ltb c (size x.dimensions) ≡ b → told_by_test b x xs c ≡ Some t → cell_of (x ∷ xs) t.name t.subscripts ≡ Some c
    by later true e h =
        let same : t ≡ element_of x c = cc in
        subst (λ (u : Told). cell_of (x ∷ xs) u.name u.subscripts ≡ Some c) (sym same)
        (ap (λ b. cell_by b x xs (element_of x c)) (same_name x.name x.name refl) ∙ place_is x.dimensions c (ltb-true c (size x.dimensions) e))
    by later false e h =
        ap (λ b. cell_by b x xs t) (other_name x xs t apart.0 (among xs (c - size x.dimensions) t h))
        ∙ ap (option_map (λ k. size x.dimensions + k)) (later h)
        ∙ ap Some (behind (size x.dimensions) c (ltb-false c (size x.dimensions) e))

pub owned : (xs : List Named) (c : ℕ) (o : Option CellName) → option_map told_by o ≡ told_at xs c → AreApart xs → IfSome o (λ n. cell_of xs n.name.items n.subscripts.items ≡ Some c)
owned xs c None is apart = tt
owned xs c (Some n) is apart = own_cell xs c (told_by n) apart (sym is)

-- where no name has a cell it stands behind them all
pub none_past : (xs : List Named) (c : ℕ) → told_at xs c ≡ None → cells_of xs ≤ c
none_past [] c is = omega arith
none_past (x ∷ xs) c is =
    by (none_past xs (c - size x.dimensions)) (ltb c (size x.dimensions)) refl is
  where
    behind : (a b c : ℕ) → a ≤ c → b ≤ c - a → a + b ≤ c
    behind a b c le rest = omega arith

    by : (told_at xs (c - size x.dimensions) ≡ None → cells_of xs ≤ c - size x.dimensions) → (b : Bool) → ltb c (size x.dimensions) ≡ b → told_by_test b x xs c ≡ None → size x.dimensions + cells_of xs ≤ c
    by later true e h = absurd cc
    by later false e h =
        behind (size x.dimensions) (cells_of xs) c (ltb-false c (size x.dimensions) e) (later h)

-- A view when the value of a cell is put in.
use Rattle.std.proofs.Common.{◌≡◌, ◌≢◌, ℕ, ℤ, pos, ◌+◌, ◌*◌, ◌/◌, ◌%◌, ◌<◌, ◌==◌, ◌||◌, Bool, true, false, cond, List, length, if◌then◌else◌, Some, None, refl, sym, ap, ◌∙◌, subst, arith, inl, inr}
use Rattle.std.specs.Prelude.{◌⊎◌, slice_get, slice_index_or, slice_set}
use Rattle.std.proofs.Math.Path.{fun_ext}
use Rattle.std.proofs.lemmas.Bool.{true≢false, eqb-true}
use Rattle.std.proofs.lemmas.List.{get_or-set_same, get_or-set_other}
use Rattle.std.proofs.Math.ListN.{length-set}
use Rattle.std.specs.Ordering.{nat_cmp, is_eq}
use Rattle.std.specs.Cmp.{nat_cmp_total, tied_itself, unsigned_tied}
use Rattle.std.specs.FinSet as set
use Rattle.std.specs.FinSet.{nat_cmp-IsAntisymmetric}
use Rattle.std.specs.FinMap as map
use Rattle.meaning.specs.Stores.{after_write, known}
use Rattle.private_view.specs.Views.{ArePlaced, IsCopied, IsKept, Seen, slot_at, value_at, world_seen, written_by}
use Rattle.private_view.proofs.Looking.{written_is, has_value, has_none, known_written, known_base}

pub itself : (n : ℕ) → (n == n) ≡ true
itself n = sym (unsigned_tied n n) ∙ ap is_eq (tied_itself nat_cmp_total n)

pub differs : (a b : ℕ) → (a == b) ≡ false → a ≢ b
differs a b e is = true≢false (sym (itself b) ∙ sym (ap (λ n. n == b) is) ∙ e)

-- ---- what was written

-- values that are the same where cells are marked
pub written_same : (s : set.FinSet nat_cmp) (f g : ℕ → ℤ) → ((q : ℕ) → set.contains s q ≡ true → g q ≡ f q) → written_by s g ≡ written_by s f
written_same s f g same =
    map.same_map nat_cmp_total nat_cmp-IsAntisymmetric (written_by s g) (written_by s f) (λ q. written_is s g q ∙ by q (set.contains s q) refl ∙ sym (written_is s f q))
  where
    by : (q : ℕ) (b : Bool) → set.contains s q ≡ b → cond (set.contains s q) (Some (g q)) None ≡ cond (set.contains s q) (Some (f q)) None
    by q true e = ap (λ b. cond b (Some (g q)) None) e ∙ ap Some (same q e) ∙ sym (ap (λ b. cond b (Some (f q)) None) e)
    by q false e = ap (λ b. cond b (Some (g q)) None) e ∙ sym (ap (λ b. cond b (Some (f q)) None) e)

module _ (s t : set.FinSet nat_cmp) (f g : ℕ → ℤ) (k : ℕ) (v : ℤ) (marks : (q : ℕ) → set.contains t q ≡ (q == k || set.contains s q)) (here : g k ≡ v) (others : (q : ℕ) → q ≢ k → set.contains s q ≡ true → g q ≡ f q) where
  written_more : (q : ℕ) → map.get (written_by t g) q ≡ (if q == k then Some v else map.get (written_by s f) q)
  written_more q = written_is t g q ∙ ap (λ b. cond b (Some (g q)) None) (marks q) ∙ by (q == k) refl
    where
      by : (b : Bool) → (q == k) ≡ b → cond (b || set.contains s q) (Some (g q)) None ≡ (if b then Some v else map.get (written_by s f) q)
      by true e = ap Some (ap g (eqb-true q k e) ∙ here)
      by false e = marked (set.contains s q) refl ∙ sym (written_is s f q)
        where
          marked : (c : Bool) → set.contains s q ≡ c → cond (set.contains s q) (Some (g q)) None ≡ cond (set.contains s q) (Some (f q)) None
          marked true m = ap (λ b. cond b (Some (g q)) None) m ∙ ap Some (others q (differs q k e) m) ∙ sym (ap (λ b. cond b (Some (f q)) None) m)
          marked false m = ap (λ b. cond b (Some (g q)) None) m ∙ sym (ap (λ b. cond b (Some (f q)) None) m)

  -- the view among stores
  pub writes_more : (seen : Seen) → written_by s f ≡ seen.written → world_seen (record seen { written = written_by t g }) ≡ after_write k v (world_seen seen)
  unfolding after_write
  writes_more seen is =
      ap (λ w. record (world_seen seen) { written = w }) (fun_ext (λ q. written_more q ∙ ap (λ m. if q == k then Some v else map.get m q) is))

-- marks, when one is added
pub marks_more : (s t : set.FinSet nat_cmp) (k : ℕ) → t ≡ set.insert s k → (q : ℕ) → set.contains t q ≡ (q == k || set.contains s q)
marks_more s t k is q =
    ap (λ r. set.contains r q) is ∙ set.contains-insert nat_cmp_total s k q ∙ ap (λ b. b || set.contains s q) (unsigned_tied q k)

-- ---- cells of pages that were copied

module _ (slots numbers : List ℕ) where
  abbrev pub index : ℕ → ℕ
  index c = 64 * slot_at slots (c / 64) + c % 64

  same_slot : (s t a b : ℕ) → 64 * s + a % 64 ≡ 64 * t + b % 64 → (s ≡ t) × (a % 64 ≡ b % 64)
  same_slot s t a b e = (omega (arith, e), omega (arith, e))

  same_cell : (a b : ℕ) → a / 64 ≡ b / 64 → a % 64 ≡ b % 64 → a ≡ b
  same_cell a b e f = omega (arith, e, f)

  -- two cells have two places
  pub apart : (a b : ℕ) → IsCopied slots numbers (a / 64) → IsCopied slots numbers (b / 64) → a ≢ b → index a ≢ index b
  apart a b x y other e =
      let parts = same_slot (slot_at slots (a / 64)) (slot_at slots (b / 64)) a b e in
      other (same_cell a b (sym x.there ∙ ap (λ i. slice_index_or numbers i 0) parts.0 ∙ y.there) parts.1)

  pub put_other : (values : List ℤ) (k q : ℕ) (v : ℤ) → IsCopied slots numbers (k / 64) → IsCopied slots numbers (q / 64) → q ≢ k → value_at slots (slice_set values (index k) v) q ≡ value_at slots values q
  put_other values k q v here there other = get_or-set_other values (index k) (index q) v (pos 0) (apart q k there here other)

  index_within : (values : List ℤ) (k : ℕ) → IsCopied slots numbers (k / 64) → length values ≡ 64 * length numbers → index k < length values
  index_within values k here long = let w = here.within in bound (slot_at slots (k / 64)) (length numbers) k (length values) w long
    where
      bound : (s n k len : ℕ) → s < n → len ≡ 64 * n → 64 * s + k % 64 < len
      bound s n k len lt is = omega (arith, lt, is)

  pub put_same : (values : List ℤ) (k : ℕ) (v : ℤ) → IsCopied slots numbers (k / 64) → length values ≡ 64 * length numbers → value_at slots (slice_set values (index k) v) k ≡ v
  put_same values k v here long = get_or-set_same values (index k) v (pos 0) (index_within values k here long)

-- ---- how the view is kept

-- when pages were held
module _ (base : List ℤ) (s : set.FinSet nat_cmp) (slots numbers : List ℕ) (values : List ℤ) (kept : IsKept base s slots numbers values) where
  module _ (slots' numbers' : List ℕ) (values' : List ℤ) (copied : (k : ℕ) → IsCopied slots numbers k → IsCopied slots' numbers' k) (same : (c : ℕ) → IsCopied slots numbers (c / 64) → value_at slots' values' c ≡ value_at slots values c) (based : (c : ℕ) → c < length base → IsCopied slots' numbers' (c / 64) → IsCopied slots numbers (c / 64) ⊎ (Some (value_at slots' values' c) ≡ slice_get base c)) (placed : ArePlaced slots' numbers') (long : length values' ≡ 64 * length numbers') where
    pub kept_held : IsKept base s slots' numbers' values'
    kept_held = record {
      paged = record { within = kept.paged.within; copied = λ c m. copied (c / 64) (kept.paged.copied c m); placed = placed; long = long };
      based = λ c lt there m. by c lt m (based c lt there);
    }
      where
        by : (c : ℕ) → c < length base → set.contains s c ≡ false → IsCopied slots numbers (c / 64) ⊎ (Some (value_at slots' values' c) ≡ slice_get base c) → Some (value_at slots' values' c) ≡ slice_get base c
        by c lt m (inl old) = ap Some (same c old) ∙ kept.based c lt old m
        by c lt m (inr e) = e

    pub written_held : written_by s (value_at slots' values') ≡ written_by s (value_at slots values)
    written_held = written_same s (value_at slots values) (value_at slots' values') (λ q m. same q (kept.paged.copied q m))

  -- when a cell of a page that was copied gets a value
  module _ (k : ℕ) (v : ℤ) (lt : k < length base) (here : IsCopied slots numbers (k / 64)) (t : set.FinSet nat_cmp) (marks : (q : ℕ) → set.contains t q ≡ (q == k || set.contains s q)) where
    abbrev pub put : List ℤ
    put = slice_set values (index slots numbers k) v

    is_or : (q : ℕ) (b c : Bool) → (b || c) ≡ true → (b ≡ true) ⊎ (c ≡ true)
    is_or q true c h = inl refl
    is_or q false c h = inr h

    neither : (b c : Bool) → (b || c) ≡ false → (b ≡ false) × (c ≡ false)
    neither true c h = absurd (true≢false h)
    neither false c h = (refl, h)

    pub kept_put : IsKept base t slots numbers put
    kept_put = record {
      paged = record {
        within = λ c m. inside c (is_or c (c == k) (set.contains s c) (sym (marks c) ∙ m));
        copied = λ c m. there c (is_or c (c == k) (set.contains s c) (sym (marks c) ∙ m));
        placed = kept.paged.placed;
        long = length-set values (index slots numbers k) v ∙ kept.paged.long;
      };
      based = λ c less copied m. (let none = neither (c == k) (set.contains s c) (sym (marks c) ∙ m) in ap Some (put_other slots numbers values k c v here copied (differs c k none.0)) ∙ kept.based c less copied none.1);
    }
      where
        inside : (c : ℕ) → ((c == k) ≡ true) ⊎ (set.contains s c ≡ true) → c < length base
        inside c (inl e) = subst (λ n. n < length base) (sym (eqb-true c k e)) lt
        inside c (inr m) = kept.paged.within c m

        there : (c : ℕ) → ((c == k) ≡ true) ⊎ (set.contains s c ≡ true) → IsCopied slots numbers (c / 64)
        there c (inl e) = subst (λ n. IsCopied slots numbers (n / 64)) (sym (eqb-true c k e)) here
        there c (inr m) = kept.paged.copied c m

    pub puts_more : (seen : Seen) → written_by s (value_at slots values) ≡ seen.written → world_seen (record seen { written = written_by t (value_at slots put) }) ≡ after_write k v (world_seen seen)
    puts_more seen is =
        writes_more s t (value_at slots values) (value_at slots put) k v marks (put_same slots numbers values k v here kept.paged.long) (λ q other m. put_other slots numbers values k q v here (kept.paged.copied q m) other) seen is

-- ---- what is known of a page that was copied

module _ (base : List ℤ) (m : set.FinSet nat_cmp) (slots numbers : List ℕ) (values : List ℤ) (kept : IsKept base m slots numbers values) (s : Seen) (base_is : base ≡ s.base) (written : written_by m (value_at slots values) ≡ s.written) where
  pub value_known : (q : ℕ) → IsCopied slots numbers (q / 64) → q < length base → value_at slots values q ≡ known (world_seen s) q
  value_known q copied lt = by (set.contains m q) refl
    where
      v : ℤ
      v = value_at slots values q

      by : (b : Bool) → set.contains m q ≡ b → v ≡ known (world_seen s) q
      by true e = known_written (world_seen s) q v (has_value m (value_at slots values) s.written written q e)
      by false e =
          known_base s q v (has_none m (value_at slots values) s.written written q e) (ap (λ l. slice_get l q) (sym base_is) ∙ sym (kept.based q lt copied e))

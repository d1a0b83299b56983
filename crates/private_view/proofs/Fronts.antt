-- The first cells, at hand.
use Rattle.std.proofs.Common.{◌≡◌, ◌≢◌, ℕ, ℤ, zero, suc, pos, ◌<◌, ◌≤◌, ◌%◌, ◌==◌, ◌&&◌, ◌||◌, Bool, true, false, cond, nat_lt, List, length, if◌then◌else◌, Option, Some, None, is_some, unwrap_or, refl, sym, ap, ◌∙◌, subst, arith, inl, inr}
use Rattle.std.specs.Prelude.{◌⊎◌, slice_get, slice_index_or, slice_set}
use Rattle.std.specs.Int.{bit_at}
use Rattle.std.specs.Ordering.{nat_cmp}
use Rattle.std.specs.Cmp.{nat_cmp_total, unsigned_tied}
use Rattle.std.specs.FinMap as map
use Rattle.std.proofs.Math.ListN.{replicate}
use Rattle.std.proofs.Math.Path.{fun_ext}
use Rattle.std.proofs.lemmas.Bool.{true≢false, eqb-true, eqb-false, lt-ltb, le-ltb, cases_lt}
use Rattle.std.proofs.lemmas.List.{get_or-replicate, get_or-set_other}
use Rattle.std.proofs.lemmas.Nat.Bits.{bit_at-zero}
use Rattle.meaning.specs.Stores.{World, LeavesRead, after_read, after_write, known, lose, overlay, with_exposed}
use Rattle.std.specs.FinSet.{nat_cmp-IsAntisymmetric}
use Rattle.private_view.specs.Views.{Seen, Written, new_view, world_seen}
use Rattle.private_view.specs.Fronts.{AreFirst, IsFront, given_first, is_first, is_shown, with_first, world_with_first}
use Rattle.private_view.proofs.Looking.{known_written, leaves_written}
use Rattle.private_view.proofs.Marked.{both_true}
use Rattle.private_view.proofs.Pages.{either_page}

-- ---- the cells of a mask

pub beyond : (mask c : ℕ) → 64 ≤ c → is_first mask c ≡ false
beyond mask c le = ap (λ b. b && (bit_at mask c == 1)) (le-ltb c 64 le)

pub within_first : (mask c : ℕ) → c < 64 → is_first mask c ≡ (bit_at mask c == 1)
within_first mask c lt = ap (λ b. b && (bit_at mask c == 1)) (lt-ltb c 64 lt)

-- a cell that is in a mask is one of the first 64, and has its bit
pub first_lt : (mask c : ℕ) → is_first mask c ≡ true → c < 64
first_lt mask c h = by (cases_lt c 64)
  where
    by : (c < 64) ⊎ (64 ≤ c) → c < 64
    by (inl lt) = lt
    by (inr le) = absurd (true≢false (sym h ∙ beyond mask c le))

pub first_bit : (mask c : ℕ) → is_first mask c ≡ true → bit_at mask c ≡ 1
first_bit mask c h = eqb-true (bit_at mask c) 1 (both_true (nat_lt c 64) (bit_at mask c == 1) h).1

-- the same of a list of them
pub beyond_shown : (shown : List ℕ) (c : ℕ) → 64 ≤ c → is_shown shown c ≡ false
beyond_shown shown c le = ap (λ b. b && (slice_index_or shown c 0 == c)) (le-ltb c 64 le)

within_shown : (shown : List ℕ) (c : ℕ) → c < 64 → is_shown shown c ≡ (slice_index_or shown c 0 == c)
within_shown shown c lt = ap (λ b. b && (slice_index_or shown c 0 == c)) (lt-ltb c 64 lt)

pub shown_lt : (shown : List ℕ) (c : ℕ) → is_shown shown c ≡ true → c < 64
shown_lt shown c h = by (cases_lt c 64)
  where
    by : (c < 64) ⊎ (64 ≤ c) → c < 64
    by (inl lt) = lt
    by (inr le) = absurd (true≢false (sym h ∙ beyond_shown shown c le))

shown_there : (shown : List ℕ) (c : ℕ) → is_shown shown c ≡ true → slice_index_or shown c 0 ≡ c
shown_there shown c h = eqb-true (slice_index_or shown c 0) c (both_true (nat_lt c 64) (slice_index_or shown c 0 == c) h).1

-- no cell is in its place
abbrev elsewhere : ℕ → ℕ
elsewhere zero = 1
elsewhere (suc b) = 0

no_places : List ℕ
no_places = slice_set (replicate 64 0) 0 1

place_is : (b : ℕ) → b < 64 → slice_index_or no_places b 0 ≡ elsewhere b
unfolding no_places
place_is zero lt = refl
place_is (suc b) lt =
    get_or-set_other (replicate 64 0) 0 (suc b) 1 0 (λ e. absurd (omega (arith, e))) ∙ get_or-replicate 64 (suc b) 0 0 lt

pub none_there : (b : ℕ) → b < 64 → slice_index_or (slice_set (replicate 64 0) 0 1) b 0 ≢ b
unfolding no_places
none_there zero lt there = let is = place_is zero lt in absurd (omega (arith, there, is))
none_there (suc b) lt there = let is = place_is (suc b) lt in absurd (omega (arith, is, there))

pub places_first : AreFirst (slice_set (replicate 64 0) 0 1)
unfolding no_places
places_first zero lt = subst (λ k. k < 64) (sym (place_is zero lt)) (omega arith)
places_first (suc b) lt = subst (λ k. k < 64) (sym (place_is (suc b) lt)) (omega arith)

-- a cell in the place of those that leave the same rest is that one
pub shown_by : (shown : List ℕ) (c place : ℕ) → place ≡ c % 64 → AreFirst shown → place < 64 → (slice_index_or shown place 0 == c) ≡ is_shown shown c
shown_by shown c place is first small = of (cases_lt c 64)
  where
    of : (c < 64) ⊎ (64 ≤ c) → (slice_index_or shown place 0 == c) ≡ is_shown shown c
    of (inl lt) =
        let same : place ≡ c = omega (arith, is, lt) in
        ap (λ k. slice_index_or shown k 0 == c) same ∙ sym (within_shown shown c lt)
    of (inr le) = no (slice_index_or shown place 0 == c) refl ∙ sym (beyond_shown shown c le)
      where
        no : (b : Bool) → (slice_index_or shown place 0 == c) ≡ b → b ≡ false
        no true e = (let lt = first place small in let same = eqb-true (slice_index_or shown place 0) c e in absurd (omega (arith, lt, same, le)))
        no false e = refl

pub not_less : (c : ℕ) → 64 ≤ c → c < 64 → ⊥
not_less c le lt = absurd (omega arith)

pub is_one : (n : ℕ) → n ≡ 1 → (n == 1) ≡ true
is_one n e = ap (λ m. m == 1) e

is_same : (n c : ℕ) → n ≡ c → (n == c) ≡ true
is_same n c e = of (n == c) refl
  where
    of : (b : Bool) → (n == c) ≡ b → b ≡ true
    of true s = refl
    of false s = absurd (eqb-false n c s e)

-- ---- what the first cells were given

lt_next : (c n : ℕ) → nat_lt c (suc n) ≡ (c == n || nat_lt c n)
lt_next c n = by (c == n) refl
  where
    less : c ≢ n → nat_lt c (suc n) ≡ nat_lt c n
    less other = of (cases_lt c n)
      where
        of : (c < n) ⊎ (n ≤ c) → nat_lt c (suc n) ≡ nat_lt c n
        of (inl lt) = lt-ltb c (suc n) (omega arith) ∙ sym (lt-ltb c n lt)
        of (inr le) = le-ltb c (suc n) (omega (arith, le, other)) ∙ sym (le-ltb c n le)

    by : (b : Bool) → (c == n) ≡ b → nat_lt c (suc n) ≡ (b || nat_lt c n)
    by true e = let same = eqb-true c n e in lt-ltb c (suc n) (omega (arith, same))
    by false e = less (eqb-false c n e)

module _ (mask : ℕ) (values : List ℤ) where
  abbrev value : ℕ → ℤ
  value c = slice_index_or values c (pos 0)

  abbrev has : ℕ → Bool
  has c = bit_at mask c == 1

  pub got_first : (n : ℕ) (w : Written) (c : ℕ) → map.get (given_first n mask values w) c ≡ (if nat_lt c n && has c then Some (value c) else map.get w c)
  unfolding given_first
  got_first zero w c = sym (ap (λ b. if b && has c then Some (value c) else map.get w c) (le-ltb c 0 (omega arith)))
  got_first (suc n) w c =
      by (got_first n w c) (has n) refl ∙ sym (ap (λ b. if b && has c then Some (value c) else map.get w c) (lt_next c n))
    where
      rest : Option ℤ
      rest = if nat_lt c n && has c then Some (value c) else map.get w c

      by : map.get (given_first n mask values w) c ≡ rest → (b : Bool) → has n ≡ b → map.get (if b then map.insert (given_first n mask values w) n (value n) else given_first n mask values w) c ≡ (if (c == n || nat_lt c n) && has c then Some (value c) else map.get w c)
      by got true e =
          map.get-insert nat_cmp_total (given_first n mask values w) n (value n) c ∙ ap (λ b. cond b (Some (value n)) (map.get (given_first n mask values w) c)) (unsigned_tied c n) ∙ here (c == n) refl
        where
          here : (b : Bool) → (c == n) ≡ b → cond b (Some (value n)) (map.get (given_first n mask values w) c) ≡ (if (b || nat_lt c n) && has c then Some (value c) else map.get w c)
          here true s =
              let same = eqb-true c n s in
              ap (λ k. Some (value k)) (sym same) ∙ sym (ap (λ b. if b then Some (value c) else map.get w c) (ap has same ∙ e))
          here false s = got
      by got false e = got ∙ here (c == n) refl
        where
          none : (b : Bool) → (b && false) ≡ false
          none true = refl
          none false = refl

          here : (b : Bool) → (c == n) ≡ b → rest ≡ (if (b || nat_lt c n) && has c then Some (value c) else map.get w c)
          here true s =
              let off = ap has (eqb-true c n s) ∙ e in
              ap (λ h. if nat_lt c n && h then Some (value c) else map.get w c) off ∙ ap (λ h. if h then Some (value c) else map.get w c) (none (nat_lt c n)) ∙ sym (ap (λ h. if h then Some (value c) else map.get w c) off)
          here false s = refl

  pub world_first : (s : Seen) → world_seen (with_first mask values s) ≡ world_with_first mask values (world_seen s)
  unfolding world_with_first
  world_first s = ap (λ f. record (world_seen s) { written = f }) (fun_ext (got_first 64 s.written))

-- no cell is
pub none_first : (values : List ℤ) (mask n : ℕ) (w : Written) → mask ≡ 0 → given_first n mask values w ≡ w
unfolding given_first
none_first values mask zero w none = refl
none_first values mask (suc n) w none =
    ap (λ b. if b then map.insert (given_first n mask values w) n (slice_index_or values n (pos 0)) else given_first n mask values w) (ap (λ m. bit_at m n == 1) none ∙ ap (λ o. o == 1) (bit_at-zero n)) ∙ none_first values mask n w none

-- ---- a write

-- what is known of the cells when one gets a value, where others keep theirs
module _ (mask next : ℕ) (values after : List ℤ) (c : ℕ) (x : ℤ) (others : (d : ℕ) → d ≢ c → is_first next d ≡ is_first mask d) (kept : (d : ℕ) → d ≢ c → slice_index_or after d (pos 0) ≡ slice_index_or values d (pos 0)) where
  gives : (f g : ℕ → Option ℤ) → ((d : ℕ) → d ≢ c → g d ≡ f d) → (if is_first next c then Some (slice_index_or after c (pos 0)) else g c) ≡ Some x → (d : ℕ) → (if is_first next d then Some (slice_index_or after d (pos 0)) else g d) ≡ (if d == c then Some x else if is_first mask d then Some (slice_index_or values d (pos 0)) else f d)
  gives f g same here d = by (d == c) refl
    where
      by : (b : Bool) → (d == c) ≡ b → (if is_first next d then Some (slice_index_or after d (pos 0)) else g d) ≡ (if b then Some x else if is_first mask d then Some (slice_index_or values d (pos 0)) else f d)
      by true e =
          ap (λ k. if is_first next k then Some (slice_index_or after k (pos 0)) else g k) (eqb-true d c e) ∙ here
      by false e =
          let other = eqb-false d c e in
          ap (λ b. if b then Some (slice_index_or after d (pos 0)) else g d) (others d other) ∙ ap (λ v. if is_first mask d then Some v else g d) (kept d other) ∙ ap (λ o. if is_first mask d then Some (slice_index_or values d (pos 0)) else o) (same d other)

  pub world_put : (w : World) → is_first next c ≡ true → slice_index_or after c (pos 0) ≡ x → world_with_first next after w ≡ after_write c x (world_with_first mask values w)
  unfolding world_with_first after_write
  world_put w there is =
      ap (λ f. record w { written = f }) (fun_ext (gives w.written w.written (λ d other. refl) (ap (λ b. if b then Some (slice_index_or after c (pos 0)) else w.written c) there ∙ ap Some is)))

  pub world_noted : (w : World) → (is_first next c ≡ true → slice_index_or after c (pos 0) ≡ x) → world_with_first next after (after_write c x w) ≡ after_write c x (world_with_first mask values w)
  unfolding world_with_first after_write
  world_noted w is = ap (λ f. record w { written = f }) (fun_ext (gives w.written g elsewhere (here (is_first next c) refl)))
    where
      g : ℕ → Option ℤ
      g d = if d == c then Some x else w.written d

      elsewhere : (d : ℕ) → d ≢ c → g d ≡ w.written d
      elsewhere d other = of (d == c) refl
        where
          of : (b : Bool) → (d == c) ≡ b → (if b then Some x else w.written d) ≡ w.written d
          of true e = absurd (other (eqb-true d c e))
          of false e = refl

      itself : (c == c) ≡ true
      itself = of (c == c) refl
        where
          of : (b : Bool) → (c == c) ≡ b → b ≡ true
          of true e = refl
          of false e = absurd (eqb-false c c e refl)

      here : (b : Bool) → is_first next c ≡ b → (if b then Some (slice_index_or after c (pos 0)) else g c) ≡ Some x
      here true e = ap Some (is e)
      here false e = ap (λ b. if b then Some x else w.written c) itself

-- ---- what is at hand, when a cell gets a value

write_other : (c : ℕ) (x : ℤ) (w : World) (b : ℕ) → b ≢ c → (after_write c x w).written b ≡ w.written b
unfolding after_write
write_other c x w b other = of (b == c) refl
  where
    of : (t : Bool) → (b == c) ≡ t → (if t then Some x else w.written b) ≡ w.written b
    of true e = absurd (other (eqb-true b c e))
    of false e = refl

write_here : (c : ℕ) (x : ℤ) (w : World) (b : ℕ) → b ≡ c → (after_write c x w).written b ≡ Some x
unfolding after_write
write_here c x w b same = of (b == c) refl
  where
    of : (t : Bool) → (b == c) ≡ t → (if t then Some x else w.written b) ≡ Some x
    of true e = refl
    of false e = absurd (eqb-false b c e same)

some_not_none : (v : ℤ) (o : Option ℤ) → o ≡ Some v → o ≡ None → ⊥
some_not_none v o s n = true≢false (sym (ap is_some s) ∙ ap is_some n)

module _ (shown : List ℕ) (written : ℕ) (values : List ℤ) (w : World) (front : IsFront shown written values w) where
  -- a cell that is in its place, and whichever is in another one
  shown_at : (shows : List ℕ) (c b : ℕ) → b ≡ c → b < 64 → (c < 64 → slice_index_or shows c 0 ≡ c) → slice_index_or shows b 0 ≡ b
  shown_at shows c b e lt has = ap (λ k. slice_index_or shows k 0) e ∙ has (subst (λ k. k < 64) e lt) ∙ sym e

  still_first : (c : ℕ) (shows : List ℕ) → ((d : ℕ) → d < 64 → d ≢ c → slice_index_or shows d 0 ≡ slice_index_or shown d 0) → (c < 64 → slice_index_or shows c 0 ≡ c) → (b : ℕ) → b < 64 → (b ≡ c) ⊎ (b ≢ c) → slice_index_or shows b 0 < 64
  still_first c shows same has b lt (inl e) = subst (λ k. k < 64) (sym (shown_at shows c b e lt has)) lt
  still_first c shows same has b lt (inr other) = subst (λ k. k < 64) (sym (same b lt other)) (front.first b lt)

  -- of any cell, which is shown and in the mask from then on if it is one of the first 64
  module _ (c : ℕ) (x : ℤ) (shows : List ℕ) (next : ℕ) (after : List ℤ) (kept : (d : ℕ) → d ≢ c → slice_index_or after d (pos 0) ≡ slice_index_or values d (pos 0)) (shown_same : (d : ℕ) → d < 64 → d ≢ c → slice_index_or shows d 0 ≡ slice_index_or shown d 0) (same : (d : ℕ) → d < 64 → d ≢ c → bit_at next d ≡ bit_at written d) (shown_has : c < 64 → slice_index_or shows c 0 ≡ c) (has : c < 64 → bit_at next c ≡ 1) where
    own : (b : ℕ) → b < 64 → (b ≡ c) ⊎ (b ≢ c) → is_some ((after_write c x w).written b) ≡ (bit_at next b == 1)
    own b lt (inl e) =
        ap is_some (write_here c x w b e) ∙ sym (is_one (bit_at next b) (ap (bit_at next) e ∙ has (subst (λ k. k < 64) e lt)))
    own b lt (inr other) =
        ap is_some (write_other c x w b other) ∙ front.own b lt ∙ ap (λ o. o == 1) (sym (same b lt other))

    based : (b : ℕ) → b < 64 → b < w.cells → (after_write c x w).written b ≡ None → (b ≡ c) ⊎ (b ≢ c) → w.base b ≡ slice_index_or after b (pos 0)
    based b lt cells none (inl e) = absurd (some_not_none x ((after_write c x w).written b) (write_here c x w b e) none)
    based b lt cells none (inr other) =
        front.based b lt cells (sym (write_other c x w b other) ∙ none) ∙ sym (kept b other)

    marked : (b : ℕ) → b < 64 → slice_index_or shows b 0 ≡ b → (after_write c x w).written b ≡ None → (b ≡ c) ⊎ (b ≢ c) → (w.exposed b ≡ true) ⊎ (w.lost ≡ true)
    marked b lt bit none (inl e) = absurd (some_not_none x ((after_write c x w).written b) (write_here c x w b e) none)
    marked b lt bit none (inr other) =
        front.marked b lt (sym (shown_same b lt other) ∙ bit) (sym (write_other c x w b other) ∙ none)

    both : (b : ℕ) → b < 64 → bit_at next b ≡ 1 → (b ≡ c) ⊎ (b ≢ c) → slice_index_or shows b 0 ≡ b
    both b lt bit (inl e) = shown_at shows c b e lt shown_has
    both b lt bit (inr other) = shown_same b lt other ∙ front.both b lt (sym (same b lt other) ∙ bit)

    pub front_noted : IsFront shows next after (after_write c x w)
    unfolding after_write
    front_noted = record {
      own = λ b lt. own b lt (either_page b c);
      based = λ b lt cells none. based b lt cells none (either_page b c);
      marked = λ b lt bit none. marked b lt bit none (either_page b c);
      both = λ b lt bit. both b lt bit (either_page b c);
      first = λ b lt. still_first c shows shown_same shown_has b lt (either_page b c);
    }

  -- ---- when a cell is read

  stays : (c : ℕ) (o : Option ℤ) (b : ℕ) → w.exposed b ≡ true → with_exposed c o w.exposed b ≡ true
  stays c (Some v) b h = h
  stays c None b h = of (b == c)
    where
      of : (t : Bool) → (t || w.exposed b) ≡ true
      of true = refl
      of false = h

  is_exposed : (c : ℕ) (o : Option ℤ) (b : ℕ) → o ≡ None → b ≡ c → with_exposed c o w.exposed b ≡ true
  is_exposed c (Some v) b none e = absurd (some_not_none v (Some v) refl none)
  is_exposed c None b none e = of (b == c) refl
    where
      of : (t : Bool) → (b == c) ≡ t → (t || w.exposed b) ≡ true
      of true s = refl
      of false s = absurd (eqb-false b c s e)

  pub front_shown : (c : ℕ) (shows : List ℕ) (next : World) → ((d : ℕ) → d < 64 → d ≢ c → slice_index_or shows d 0 ≡ slice_index_or shown d 0) → (c < 64 → slice_index_or shows c 0 ≡ c) → LeavesRead c w next → IsFront shows written values next
  unfolding after_read lose
  front_shown c shows next same has leaves = by leaves
    where
      both_still : (b : ℕ) → b < 64 → bit_at written b ≡ 1 → (b ≡ c) ⊎ (b ≢ c) → slice_index_or shows b 0 ≡ b
      both_still b lt bit (inl e) = shown_at shows c b e lt has
      both_still b lt bit (inr other) = same b lt other ∙ front.both b lt bit

      mark : (b : ℕ) → b < 64 → slice_index_or shows b 0 ≡ b → w.written b ≡ None → (b ≡ c) ⊎ (b ≢ c) → ((after_read c w).exposed b ≡ true) ⊎ (w.lost ≡ true)
      mark b lt bit none (inl e) = inl (is_exposed c (w.written c) b (ap w.written (sym e) ∙ none) e)
      mark b lt bit none (inr other) = of (front.marked b lt (sym (same b lt other) ∙ bit) none)
        where
          of : (w.exposed b ≡ true) ⊎ (w.lost ≡ true) → ((after_read c w).exposed b ≡ true) ⊎ (w.lost ≡ true)
          of (inl h) = inl (stays c (w.written c) b h)
          of (inr h) = inr h

      read : IsFront shows written values (after_read c w)
      read = record {
        own = front.own;
        based = front.based;
        marked = λ b lt bit none. mark b lt bit none (either_page b c);
        both = λ b lt bit. both_still b lt bit (either_page b c);
        first = λ b lt. still_first c shows same has b lt (either_page b c);
      }

      lost : IsFront shows written values (lose w)
      lost = record {
        own = front.own;
        based = front.based;
        marked = λ b lt bit none. inr refl;
        both = λ b lt bit. both_still b lt bit (either_page b c);
        first = λ b lt. still_first c shows same has b lt (either_page b c);
      }

      by : LeavesRead c w next → IsFront shows written values next
      by (inl e) = subst (IsFront shows written values) (sym e) read
      by (inr e) = subst (IsFront shows written values) (sym e.1) lost

  -- a cell that isn't shown wasn't written
  pub not_own : (c : ℕ) → is_shown shown c ≡ false → is_first written c ≡ false
  not_own c off = of (is_first written c) refl
    where
      of : (b : Bool) → is_first written c ≡ b → b ≡ false
      of true h =
          absurd (true≢false (sym (within_shown shown c (first_lt written c h) ∙ is_same (slice_index_or shown c 0) c (front.both c (first_lt written c h) (first_bit written c h))) ∙ off))
      of false h = refl

  pub unwritten : (c : ℕ) → c < 64 → is_first written c ≡ false → w.written c ≡ None
  unwritten c lt off = of (w.written c) refl
    where
      of : (o : Option ℤ) → w.written c ≡ o → o ≡ None
      of (Some v) e =
          absurd (true≢false (sym (ap is_some e) ∙ front.own c lt ∙ sym (within_first written c lt) ∙ off))
      of None e = refl

  written_is : (c : ℕ) (b : Bool) → is_first written c ≡ b → (world_with_first written values w).written c ≡ (if b then Some (slice_index_or values c (pos 0)) else w.written c)
  unfolding world_with_first
  written_is c b e = ap (λ t. if t then Some (slice_index_or values c (pos 0)) else w.written c) e

  -- what was written is as many cells as before
  pub same_cells : (c : ℕ) → is_some ((world_with_first written values w).written c) ≡ is_some (w.written c)
  same_cells c = of (is_first written c) refl
    where
      of : (b : Bool) → is_first written c ≡ b → is_some ((world_with_first written values w).written c) ≡ is_some (w.written c)
      of true h =
          ap is_some (written_is c true h) ∙ sym (front.own c (first_lt written c h) ∙ is_one (bit_at written c) (first_bit written c h))
      of false h = ap is_some (written_is c false h)

  -- what is at hand is known
  pub front_known : (c : ℕ) → c < 64 → c < w.cells → slice_index_or values c (pos 0) ≡ known (world_with_first written values w) c
  unfolding known overlay world_with_first
  front_known c lt cells = of (is_first written c) refl
    where
      of : (b : Bool) → is_first written c ≡ b → slice_index_or values c (pos 0) ≡ known (world_with_first written values w) c
      of true h =
          known_written (world_with_first written values w) c (slice_index_or values c (pos 0)) (written_is c true h)
      of false h =
          let none = unwritten c lt h in
          sym (front.based c lt cells none) ∙ sym (base_known (written_is c false h ∙ none))
        where
          base_known : (world_with_first written values w).written c ≡ None → known (world_with_first written values w) c ≡ w.base c
          base_known e = ap (λ o. unwrap_or o (w.base c)) e

  -- and may be shown
  pub front_leaves : (c : ℕ) → is_shown shown c ≡ true → LeavesRead c (world_with_first written values w) (world_with_first written values w)
  unfolding after_read lose world_with_first
  front_leaves c on = of (is_first written c) refl
    where
      f : World
      f = world_with_first written values w

      of : (b : Bool) → is_first written c ≡ b → LeavesRead c f f
      of true h = leaves_written f c (slice_index_or values c (pos 0)) (written_is c true h)
      of false h =
          let none = unwritten c (shown_lt shown c on) h in
          by none (written_is c false h ∙ none) (front.marked c (shown_lt shown c on) (shown_there shown c on) none)
        where
          again : w.exposed c ≡ true → (d : ℕ) → (d == c || w.exposed d) ≡ w.exposed d
          again h d = at (d == c) refl
            where
              at : (b : Bool) → (d == c) ≡ b → (b || w.exposed d) ≡ w.exposed d
              at true e = sym (ap w.exposed (eqb-true d c e) ∙ h)
              at false e = refl

          by : w.written c ≡ None → f.written c ≡ None → (w.exposed c ≡ true) ⊎ (w.lost ≡ true) → LeavesRead c f f
          by none fnone (inl h) =
              inl (sym (ap (λ o. record f { exposed = with_exposed c o w.exposed }) fnone ∙ ap (λ e. record f { exposed = e }) (fun_ext (again h))))
          by none fnone (inr h) = inr (fnone, ap (λ l. record f { lost = l }) h)

  -- any other cell is read as from what stands behind
  pub other_written : (c : ℕ) → is_shown shown c ≡ false → (world_with_first written values w).written c ≡ w.written c
  other_written c off = written_is c false (not_own c off)

  pub other_known : (c : ℕ) → is_shown shown c ≡ false → known (world_with_first written values w) c ≡ known w c
  unfolding known overlay world_with_first
  other_known c off = ap (λ b. unwrap c b) (not_own c off)
    where
      unwrap : ℕ → Bool → ℤ
      unwrap c b = known (record w { written = λ d. if b then Some (slice_index_or values c (pos 0)) else w.written c }) c

  pub other_leaves : (c : ℕ) (next : World) → is_shown shown c ≡ false → LeavesRead c w next → LeavesRead c (world_with_first written values w) (world_with_first written values next)
  unfolding after_read lose world_with_first
  other_leaves c next off (inl e) =
      inl (ap (world_with_first written values) e ∙ ap (λ o. record (world_with_first written values w) { exposed = with_exposed c o w.exposed }) (sym (other_written c off)))
  other_leaves c next off (inr e) = inr (other_written c off ∙ e.0, ap (world_with_first written values) e.1)

-- ---- the view that a front stands beside

module _ (written : ℕ) (values : List ℤ) (p now : Seen) (see : with_first written values p ≡ now) where
  pub world_now : world_seen now ≡ world_with_first written values (world_seen p)
  world_now = ap world_seen (sym see) ∙ world_first written values p

  -- a cell got a value, by what the first cells show of it
  pub put_now : (c : ℕ) (y : ℤ) (mask : ℕ) (after : List ℤ) → ((w : World) → world_with_first mask after w ≡ after_write c y (world_with_first written values w)) → world_seen (with_first mask after p) ≡ after_write c y (world_seen now)
  put_now c y mask after is = world_first mask after p ∙ is (world_seen p) ∙ ap (after_write c y) (sym world_now)

  -- nothing was written, and the first cells are as they were
  pub same_now : (mask : ℕ) (after : List ℤ) (next : Seen) → mask ≡ written → after ≡ values → world_seen next ≡ world_seen p → world_seen (with_first mask after next) ≡ world_seen now
  same_now mask after next masks list same =
      world_first mask after next ∙ ap (λ m. world_with_first m after (world_seen next)) masks ∙ ap (λ l. world_with_first written l (world_seen next)) list ∙ ap (world_with_first written values) same ∙ sym world_now

  -- what is known of a cell of it, and how it is left when one is read
  module _ (shown : List ℕ) (front : IsFront shown written values (world_seen p)) (c : ℕ) where
    pub shown_known : is_shown shown c ≡ true → c < length now.base → slice_index_or values c (pos 0) ≡ known (world_seen now) c
    shown_known on cells =
        front_known shown written values (world_seen p) front c (shown_lt shown c on) (subst (λ (t : Seen). c < length t.base) (sym see) cells) ∙ ap (λ u. known u c) (sym world_now)

    pub shown_leaves : is_shown shown c ≡ true → LeavesRead c (world_seen now) (world_seen now)
    shown_leaves on = subst (λ u. LeavesRead c u u) (sym world_now) (front_leaves shown written values (world_seen p) front c on)

    pub behind_known : is_shown shown c ≡ false → known (world_seen p) c ≡ known (world_seen now) c
    behind_known off = sym (other_known shown written values (world_seen p) front c off) ∙ ap (λ u. known u c) (sym world_now)

    pub behind_leaves : (next : Seen) → is_shown shown c ≡ false → LeavesRead c (world_seen p) (world_seen next) → LeavesRead c (world_seen now) (world_seen (with_first written values next))
    behind_leaves next off leaves =
        subst (λ u. LeavesRead c u (world_seen (with_first written values next))) (sym world_now) (subst (λ u. LeavesRead c (world_with_first written values (world_seen p)) u) (sym (world_first written values next)) (other_leaves shown written values (world_seen p) front c (world_seen next) off leaves))

    -- one behind the first was read
    pub behind_front : (next : Seen) → 64 ≤ c → LeavesRead c (world_seen p) (world_seen next) → IsFront shown written values (world_seen next)
    behind_front next far leaves =
        front_shown shown written values (world_seen p) front c shown (world_seen next) (λ d lt other. refl) (λ lt. absurd (not_less c far lt)) leaves

-- nothing was written
pub new_first : (mask : ℕ) (values base : List ℤ) → mask ≡ 0 → with_first mask values (new_view base) ≡ new_view base
new_first mask values base none = ap (λ w. record (new_view base) { written = w }) (none_first values mask 64 map.empty none)

pub nothing_shown : (none : List ℕ) (values base : List ℤ) → ((b : ℕ) → b < 64 → slice_index_or none b 0 ≢ b) → AreFirst none → ((b : ℕ) → b < 64 → b < length base → slice_get base b ≡ Some (slice_index_or values b (pos 0))) → IsFront none 0 values (world_seen (new_view base))
unfolding known overlay
nothing_shown none values base off first is = record {
  own = λ b lt. ap is_some (map.get-empty nat_cmp b) ∙ sym (ap (λ o. o == 1) (bit_at-zero b));
  based = λ b lt cells none. ap (λ o. unwrap_or o (pos 0)) (is b lt cells);
  marked = λ b lt there none. absurd (off b lt there);
  both = λ b lt bit. (let z = bit_at-zero b in absurd (omega (arith, z, bit)));
  first = first;
}

-- ---- what is at hand put back into the view

inserted : (w n : Written) (k : ℕ) (v : ℤ) → ((q : ℕ) → map.get n q ≡ (if q == k then Some v else map.get w q)) → n ≡ map.insert w k v
inserted w n k v is =
    map.same_map nat_cmp_total nat_cmp-IsAntisymmetric n (map.insert w k v) (λ q. is q ∙ sym (map.get-insert nat_cmp_total w k v q ∙ ap (λ b. cond b (Some v) (map.get w q)) (unsigned_tied q k)))

pub given_one : (s t : Seen) (k : ℕ) (v : ℤ) → world_seen t ≡ after_write k v (world_seen s) → t.written ≡ map.insert s.written k v
unfolding after_write
given_one s t k v is = inserted s.written t.written k v (λ q. ap (λ (u : World). u.written q) is)

-- what is put back, with those cells that are left, makes up all of it
abbrev pub ArePutBack : ℕ → ℕ → List ℤ → Written → Written → Type 0
ArePutBack mask left values w now =
    (c : ℕ) → map.get now c ≡ (if is_first left c then map.get w c else map.get (given_first 64 mask values w) c)

module _ (mask : ℕ) (values : List ℤ) (w : Written) where
  pub none_back : ArePutBack mask mask values w w
  none_back c = by (is_first mask c) refl
    where
      by : (b : Bool) → is_first mask c ≡ b → map.get w c ≡ (if b then map.get w c else map.get (given_first 64 mask values w) c)
      by true e = refl
      by false e =
          sym (got_first mask values 64 w c ∙ ap (λ b. if b then Some (slice_index_or values c (pos 0)) else map.get w c) e)

  pub all_back : (left : ℕ) (now : Written) → left ≡ 0 → ArePutBack mask left values w now → now ≡ given_first 64 mask values w
  all_back left now none back =
      map.same_map nat_cmp_total nat_cmp-IsAntisymmetric now (given_first 64 mask values w) (λ c. back c ∙ ap (λ b. if b then map.get w c else map.get (given_first 64 mask values w) c) (off c))
    where
      no_end : (b : Bool) → (b && false) ≡ false
      no_end true = refl
      no_end false = refl

      off : (c : ℕ) → is_first left c ≡ false
      off c =
          ap (λ m. is_first m c) none ∙ ap (λ o. nat_lt c 64 && (o == 1)) (bit_at-zero c) ∙ no_end (nat_lt c 64)

  module _ (left less at : ℕ) (now : Written) (small : at < 64) (has : bit_at mask at ≡ 1) (gone : bit_at less at ≡ 0) (others : (i : ℕ) → i < 64 → i ≢ at → bit_at less i ≡ bit_at left i) (back : ArePutBack mask left values w now) where
    pub one_back : ArePutBack mask less values w (map.insert now at (slice_index_or values at (pos 0)))
    one_back c =
        map.get-insert nat_cmp_total now at (slice_index_or values at (pos 0)) c ∙ ap (λ b. cond b (Some (slice_index_or values at (pos 0))) (map.get now c)) (unsigned_tied c at) ∙ by (c == at) refl
      where
        given : Option ℤ
        given = map.get (given_first 64 mask values w) c

        there : c ≡ at → given ≡ Some (slice_index_or values at (pos 0))
        there same =
            ap (map.get (given_first 64 mask values w)) same ∙ got_first mask values 64 w at ∙ ap (λ b. if b then Some (slice_index_or values at (pos 0)) else map.get w at) (within_first mask at small ∙ is_one (bit_at mask at) has)

        off : c ≡ at → is_first less c ≡ false
        off same =
            ap (is_first less) same ∙ within_first less at small ∙ ap (λ o. o == 1) gone

        as_before : c ≢ at → is_first less c ≡ is_first left c
        as_before other = of (cases_lt c 64)
          where
            of : (c < 64) ⊎ (64 ≤ c) → is_first less c ≡ is_first left c
            of (inl lt) = ap (λ o. nat_lt c 64 && (o == 1)) (others c lt other)
            of (inr le) = beyond less c le ∙ sym (beyond left c le)

        by : (b : Bool) → (c == at) ≡ b → cond b (Some (slice_index_or values at (pos 0))) (map.get now c) ≡ (if is_first less c then map.get w c else given)
        by true e =
            let same = eqb-true c at e in
            sym (there same) ∙ sym (ap (λ b. if b then map.get w c else given) (off same))
        by false e =
            back c ∙ sym (ap (λ b. if b then map.get w c else given) (as_before (eqb-false c at e)))

  -- a cell that is left was written
  pub left_some : (left at : ℕ) (now : Written) → at < 64 → bit_at left at ≡ 1 → ArePutBack mask left values w now → is_some (map.get w at) ≡ true → is_some (map.get now at) ≡ true
  left_some left at now small has back some =
      ap is_some (back at ∙ ap (λ b. if b then map.get w at else map.get (given_first 64 mask values w) at) (within_first left at small ∙ is_one (bit_at left at) has)) ∙ some

-- a cell behind the first 64 gets a value
pub far_noted : (shown : List ℕ) (written : ℕ) (values : List ℤ) (w : World) → IsFront shown written values w → (c : ℕ) (x : ℤ) → 64 ≤ c → IsFront shown written values (after_write c x w)
far_noted shown written values w front c x far =
    front_noted shown written values w front c x shown written values (λ d other. refl) (λ d lt other. refl) (λ d lt other. refl) (λ lt. absurd (not_less c far lt)) (λ lt. absurd (not_less c far lt))

pub far_world : (written : ℕ) (values : List ℤ) (c : ℕ) (x : ℤ) (w : World) → 64 ≤ c → world_with_first written values (after_write c x w) ≡ after_write c x (world_with_first written values w)
far_world written values c x w far =
    world_noted written written values values c x (λ d other. refl) (λ d other. refl) w (λ there. absurd (not_less c far (first_lt written c there)))

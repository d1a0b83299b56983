-- Cells that mask words tell, gone over page by page and bit by bit.
use Rattle.std.proofs.Common.{◌≡◌, ◌≢◌, ℕ, ℤ, ◌+◌, ◌*◌, ◌/◌, ◌%◌, ◌^◌, ◌<◌, ◌≤◌, ◌==◌, ◌||◌, ◌&&◌, Bool, true, false, IsTrue, nat_lt, cond, List, length, if◌then◌else◌, Option, Some, None, refl, sym, ap, ◌∙◌, arith}
use Rattle.std.specs.Prelude.{not, nat_eq, slice_get, slice_set}
use Rattle.std.specs.Int.{bit_at, trailing_zeros}
use Rattle.std.proofs.Common.{w64}
use Rattle.std.proofs.lemmas.Nat.Bits.{bit_at-zero}
use Rattle.std.proofs.lemmas.Bool.{true≢false, eqb-true, lt-ltb, le-ltb}
use Rattle.marks.specs.Words.{tells, word_at}
use Rattle.marks.proofs.Bits.{some_bit}
use Rattle.std.proofs.Common.{unwrap_or, pos}
use Rattle.std.proofs.Math.Path.{fun_ext}
use Rattle.std.specs.FinMap as map
use Rattle.meaning.specs.Stores.{World, known, overlay, after_write}
use Rattle.array_store.specs.Whole.{world_of}
use Rattle.array_store.proofs.Wholes.{written_is}
use Rattle.std.proofs.Common.{◌-◌}
use Rattle.std.specs.Prelude.{nat_le, slice_index_or}
use Rattle.std.proofs.lemmas.Bool.Decides.{nat_tests}
use Rattle.std.proofs.lemmas.Nat.Bits.{bit_at_ones}
use Rattle.std.proofs.lemmas.Option.{slice_get-get_or, get_or_from_slice_get}
use Rattle.array_store.specs.Whole.{ArePut, put_at}
use Rattle.private_view.specs.Views.{HasSome, IsCopied, TakesAll, TakesPage, Written, is_in, of_page, slot_at}
use Rattle.private_view.proofs.Putting.{itself, differs}

-- ---- tests

no_end : (b : Bool) → (b && false) ≡ false
no_end true = refl
no_end false = refl

or_none : (b : Bool) → (b || false) ≡ b
or_none true = refl
or_none false = refl

pub both_true : (a b : Bool) → (a && b) ≡ true → (a ≡ true) × (b ≡ true)
both_true true b h = (refl, h)
both_true false b h = absurd (true≢false (sym h))

apart : (a b : ℕ) → a ≢ b → (a == b) ≡ false
apart a b other = of (a == b) refl
  where
    of : (t : Bool) → (a == b) ≡ t → (a == b) ≡ false
    of true e = absurd (other (eqb-true a b e))
    of false e = e

-- ---- the cells of a page

pub page_of_cell : (page b : ℕ) → b < 64 → (64 * page + b) / 64 ≡ page
page_of_cell page b lt = omega (arith, lt)

elsewhere : (word page c : ℕ) → c / 64 ≢ page → is_in word page c ≡ false
elsewhere word page c other = ap (λ b. b && (bit_at word (c % 64) == 1)) (apart (c / 64) page other)

in_its_page : (word page c : ℕ) → c / 64 ≡ page → is_in word page c ≡ (bit_at word (c % 64) == 1)
in_its_page word page c here =
    ap (λ q. (q == page) && (bit_at word (c % 64) == 1)) here ∙ ap (λ b. b && (bit_at word (c % 64) == 1)) (itself page)

-- a word without a bit has no cell
pub in_nothing : (word page c : ℕ) → word ≡ 0 → is_in word page c ≡ false
in_nothing word page c none =
    ap (λ w. (c / 64 == page) && (bit_at w (c % 64) == 1)) none ∙ ap (λ o. (c / 64 == page) && (o == 1)) (bit_at-zero (c % 64)) ∙ no_end (c / 64 == page)

-- ---- words with a bit

cell_bit : (words : List ℕ) (page b : ℕ) → b < 64 → tells words (64 * page + b) ≡ (bit_at (word_at words page) b == 1)
cell_bit words page b small =
    ap (λ q. bit_at (word_at words q) ((64 * page + b) % 64) == 1) quotient ∙ ap (λ r. bit_at (word_at words page) r == 1) rest
  where
    rest : (64 * page + b) % 64 ≡ b
    rest = omega (arith, small)

    quotient : (64 * page + b) / 64 ≡ page
    quotient = omega (arith, small)

pub some_marked : (words : List ℕ) (page word : ℕ) → word_at words page ≡ word → word < 2 ^ 64 → word ≢ 0 → HasSome words page
some_marked words page word is small some =
    let found = some_bit word small some in
    let b = trailing_zeros w64 word in
    (b, (found.0, cell_bit words page b found.0 ∙ ap (λ w. bit_at w b == 1) is ∙ ap (λ o. o == 1) found.1))

pub none_marked : (words : List ℕ) (page : ℕ) → word_at words page ≡ 0 → HasSome words page → ⊥
none_marked words page none h =
    true≢false (sym h.1.1 ∙ cell_bit words page h.0 h.1.0 ∙ ap (λ w. bit_at w h.0 == 1) none ∙ ap (λ o. o == 1) (bit_at-zero h.0))

pub not_zero : (n : ℕ) → IsTrue (not (nat_eq n 0)) → n ≢ 0
not_zero n t e = true≢false (sym t ∙ ap (λ k. not (nat_eq k 0)) e)

pub is_zero : (n : ℕ) → (n ≡ 0 → ⊥) → IsTrue (not (nat_eq n 0))
is_zero n some = by (nat_eq n 0) refl
  where
    by : (b : Bool) → nat_eq n 0 ≡ b → not (nat_eq n 0) ≡ true
    by true e = absurd (some (eqb-true n 0 e))
    by false e = ap not e

-- ---- values put in

get_set : (values : List ℤ) (k d : ℕ) (v : ℤ) → k < length values → slice_get (slice_set values k v) d ≡ (if d == k then Some v else slice_get values d)
unfolding after_write
get_set values k d v lt = ap (λ (w : World). w.written d) (written_is values k v lt)

-- ---- a page, bit by bit

-- what was put in, with those cells that are left, makes up the cells of the page's mask word
abbrev pub Remains : List ℤ → List ℤ → ℕ → ℕ → ℕ → (ℕ → ℤ) → Type 0
Remains old now word left page f =
    (c : ℕ) → (if is_in left page c then Some (f c) else slice_get now c) ≡ (if is_in word page c then Some (f c) else slice_get old c)

module _ (page bit : ℕ) (small : bit < 64) where
  rest : (64 * page + bit) % 64 ≡ bit
  rest = omega (arith, small)

  pub its_value : (part : List ℤ) → slice_index_or part bit (pos 0) ≡ of_page part (64 * page + bit)
  its_value part = ap (λ r. slice_index_or part r (pos 0)) (sym rest)

  -- a bit of a word is a cell of its page
  pub has_cell : (word : ℕ) → bit_at word bit ≡ 1 → is_in word page (64 * page + bit) ≡ true
  has_cell word one =
      in_its_page word page (64 * page + bit) (page_of_cell page bit small) ∙ ap (λ r. bit_at word r == 1) rest ∙ ap (λ o. o == 1) one

  lost_cell : (word : ℕ) → bit_at word bit ≡ 0 → is_in word page (64 * page + bit) ≡ false
  lost_cell word none =
      in_its_page word page (64 * page + bit) (page_of_cell page bit small) ∙ ap (λ r. bit_at word r == 1) rest ∙ ap (λ o. o == 1) none

  -- without that bit
  module _ (word less : ℕ) (gone : bit_at less bit ≡ 0) (others : (i : ℕ) → i < 64 → i ≢ bit → bit_at less i ≡ bit_at word i) where
    same_beside : (c : ℕ) → c ≢ 64 * page + bit → is_in less page c ≡ is_in word page c
    same_beside c other = by (c / 64 == page) refl
      where
        whole : (c page bit : ℕ) → c / 64 ≡ page → c % 64 ≡ bit → c ≡ 64 * page + bit
        whole c page bit e f = omega (arith, e, f)

        by : (b : Bool) → (c / 64 == page) ≡ b → is_in less page c ≡ is_in word page c
        by true e =
            ap (λ o. (c / 64 == page) && (o == 1)) (others (c % 64) (omega arith) (λ f. other (whole c page bit (eqb-true (c / 64) page e) f)))
        by false e =
            ap (λ b. b && (bit_at less (c % 64) == 1)) e ∙ sym (ap (λ b. b && (bit_at word (c % 64) == 1)) e)

    pub in_more : (c : ℕ) → is_in less page c ≡ true → is_in word page c ≡ true
    in_more c h = by (c == 64 * page + bit) refl
      where
        by : (b : Bool) → (c == 64 * page + bit) ≡ b → is_in word page c ≡ true
        by true e =
            absurd (true≢false (sym h ∙ ap (is_in less page) (eqb-true c (64 * page + bit) e) ∙ lost_cell less gone))
        by false e = sym (same_beside c (differs c (64 * page + bit) e)) ∙ h

    -- once the value of its cell is put in
    pub put_one : (old now next : List ℤ) (f : ℕ → ℤ) (all : ℕ) (v : ℤ) → bit_at word bit ≡ 1 → v ≡ f (64 * page + bit) → 64 * page + bit < length now → next ≡ slice_set now (64 * page + bit) v → Remains old now all word page f → Remains old next all less page f
    put_one old now next f all v one is within set before c = by (c == 64 * page + bit) refl
      where
        k : ℕ
        k = 64 * page + bit

        got : slice_get next c ≡ (if c == 64 * page + bit then Some v else slice_get now c)
        got = ap (λ l. slice_get l c) set ∙ get_set now (64 * page + bit) c v within

        by : (b : Bool) → (c == 64 * page + bit) ≡ b → (if is_in less page c then Some (f c) else slice_get next c) ≡ (if is_in all page c then Some (f c) else slice_get old c)
        by true e =
            let here = eqb-true c (64 * page + bit) e in
            let lost : is_in less page c ≡ false = ap (is_in less page) here ∙ lost_cell less gone in
            let had : is_in word page c ≡ true = ap (is_in word page) here ∙ has_cell word one in
            ap (λ b. if b then Some (f c) else slice_get next c) lost
            ∙ got
            ∙ ap (λ b. if b then Some v else slice_get now c) e
            ∙ ap Some (is ∙ ap f (sym here))
            ∙ sym (ap (λ b. if b then Some (f c) else slice_get now c) had)
            ∙ before c
        by false e =
            ap (λ b. if b then Some (f c) else slice_get next c) (same_beside c (differs c (64 * page + bit) e)) ∙ ap (λ o. if is_in word page c then Some (f c) else o) (got ∙ ap (λ b. if b then Some v else slice_get now c) e) ∙ before c

-- ---- all cells of a page

pub put_whole : (old new part : List ℤ) (word page : ℕ) → word ≡ 2 ^ 64 - 1 → length part ≡ 64 → ArePut (64 * page) part old new → TakesPage old new word page (of_page part)
put_whole old new part word page full long put c = put c ∙ by (c / 64 == page) refl
  where
    rest_of : (c page : ℕ) → c / 64 ≡ page → c - 64 * page ≡ c % 64
    rest_of c page e = omega (arith, e)

    inside : c / 64 ≡ page → (nat_le (64 * page) c && nat_lt c (64 * page + length part)) ≡ true
    inside e = grind (arith, nat_tests)

    outside : c / 64 ≢ page → (nat_le (64 * page) c && nat_lt c (64 * page + length part)) ≡ false
    outside other = grind (arith, nat_tests)

    one : bit_at word (c % 64) ≡ 1
    one = ap (λ w. bit_at w (c % 64)) full ∙ bit_at_ones 64 (c % 64) (omega arith)

    by : (b : Bool) → (c / 64 == page) ≡ b → put_at (64 * page) part old c ≡ (if is_in word page c then Some (of_page part c) else slice_get old c)
    by true e =
        let here = eqb-true (c / 64) page e in
        ap (λ b. if b then slice_get part (c - 64 * page) else slice_get old c) (inside here) ∙ ap (slice_get part) (rest_of c page here) ∙ slice_get-get_or part (c % 64) (pos 0) (omega (arith, long)) ∙ sym (ap (λ b. if b then Some (of_page part c) else slice_get old c) (in_its_page word page c here ∙ ap (λ o. o == 1) one))
    by false e =
        let other = differs (c / 64) page e in
        ap (λ b. if b then slice_get part (c - 64 * page) else slice_get old c) (outside other) ∙ sym (ap (λ b. if b then Some (of_page part c) else slice_get old c) (elsewhere word page c other))

pub whole_within : (word page n : ℕ) → word ≡ 2 ^ 64 - 1 → ((c : ℕ) → is_in word page c ≡ true → c < n) → 64 * page + 64 ≤ n
whole_within word page n full within =
    let small : 63 < 64 = omega arith in
    let one : bit_at word 63 ≡ 1 = ap (λ w. bit_at w 63) full ∙ bit_at_ones 64 63 small in
    let last = within (64 * page + 63) (has_cell page 63 small word one) in
    omega (arith, last)

-- ---- page by page

-- cells of the first so many pages that were copied
abbrev pub told_first : List ℕ → List ℕ → ℕ → ℕ → Bool
told_first words slots at c = nat_lt (slot_at slots (c / 64)) at && tells words c

-- their values are put in
abbrev pub TakesFirst : List ℤ → List ℤ → List ℕ → List ℕ → ℕ → (ℕ → ℤ) → Type 0
TakesFirst old now words slots at f =
    (c : ℕ) → slice_get now c ≡ (if told_first words slots at c then Some (f c) else slice_get old c)

module _ (words slots numbers : List ℕ) (copied : (c : ℕ) → tells words c ≡ true → IsCopied slots numbers (c / 64)) where
  module _ (at page : ℕ) (number : slice_index_or numbers at 0 ≡ page) (place : slot_at slots page ≡ at) where
    one_page_more : (c : ℕ) → told_first words slots (at + 1) c ≡ (is_in (word_at words page) page c || told_first words slots at c)
    one_page_more c = by (c / 64 == page) refl
      where
        word : ℕ
        word = word_at words page

        by : (b : Bool) → (c / 64 == page) ≡ b → told_first words slots (at + 1) c ≡ (is_in (word_at words page) page c || told_first words slots at c)
        by true e =
            let here = eqb-true (c / 64) page e in
            let slot : slot_at slots (c / 64) ≡ at = ap (slot_at slots) here ∙ place in
            ap (λ b. b && tells words c) (lt-ltb (slot_at slots (c / 64)) (at + 1) (omega arith))
            ∙ ap (λ q. bit_at (word_at words q) (c % 64) == 1) here
            ∙ sym (in_its_page (word_at words page) page c here)
            ∙ sym (or_none (is_in (word_at words page) page c))
            ∙ sym (ap (λ b. is_in (word_at words page) page c || (b && tells words c)) (le-ltb (slot_at slots (c / 64)) at (omega arith)))
        by false e =
            let other = differs (c / 64) page e in
            told (tells words c) refl other ∙ sym (ap (λ b. b || told_first words slots at c) (elsewhere (word_at words page) page c other))
          where
            told : (t : Bool) → tells words c ≡ t → c / 64 ≢ page → told_first words slots (at + 1) c ≡ told_first words slots at c
            told true t other = ap (λ b. b && tells words c) (same (slot_at slots (c / 64)) (λ is. other (sym (copied c t).there ∙ ap (λ i. slice_index_or numbers i 0) is ∙ number)))
              where
                same : (s : ℕ) → s ≢ at → nat_lt s (at + 1) ≡ nat_lt s at
                same s beside = grind (arith, nat_tests)
            told false t other =
                ap (λ b. nat_lt (slot_at slots (c / 64)) (at + 1) && b) t ∙ no_end (nat_lt (slot_at slots (c / 64)) (at + 1)) ∙ sym (ap (λ b. nat_lt (slot_at slots (c / 64)) at && b) t ∙ no_end (nat_lt (slot_at slots (c / 64)) at))

    pub takes_more : (old now next part : List ℤ) (f : ℕ → ℤ) → ((b : ℕ) → b < 64 → slice_get part b ≡ Some (f (64 * page + b))) → TakesPage now next (word_at words page) page (of_page part) → TakesFirst old now words slots at f → TakesFirst old next words slots (at + 1) f
    takes_more old now next part f values takes before c =
        takes c ∙ by (is_in (word_at words page) page c) refl ∙ sym (ap (λ b. if b then Some (f c) else slice_get old c) (one_page_more c))
      where
        whole : (c page : ℕ) → c / 64 ≡ page → 64 * page + c % 64 ≡ c
        whole c page e = omega (arith, e)

        here : is_in (word_at words page) page c ≡ true → c / 64 ≡ page
        here e = eqb-true (c / 64) page (both_true (c / 64 == page) (bit_at (word_at words page) (c % 64) == 1) e).0

        value : is_in (word_at words page) page c ≡ true → of_page part c ≡ f c
        value e =
            get_or_from_slice_get part (c % 64) (f (64 * page + c % 64)) (pos 0) (values (c % 64) (omega arith)) ∙ ap f (whole c page (here e))

        by : (b : Bool) → is_in (word_at words page) page c ≡ b → (if is_in (word_at words page) page c then Some (of_page part c) else slice_get now c) ≡ (if is_in (word_at words page) page c || told_first words slots at c then Some (f c) else slice_get old c)
        by true e =
            ap (λ b. if b then Some (of_page part c) else slice_get now c) e ∙ ap Some (value e) ∙ sym (ap (λ b. if b || told_first words slots at c then Some (f c) else slice_get old c) e)
        by false e =
            ap (λ b. if b then Some (of_page part c) else slice_get now c) e ∙ before c ∙ sym (ap (λ b. if b || told_first words slots at c then Some (f c) else slice_get old c) e)

pub known_taken : (old new : List ℤ) (words : List ℕ) (f : ℕ → ℤ) (w : Written) → TakesAll old new words f → ((c : ℕ) → map.get w c ≡ cond (tells words c) (Some (f c)) None) → known (world_of new) ≡ overlay (known (world_of old)) (map.get w)
unfolding known overlay
known_taken old new words f w takes is = fun_ext point
  where
    same : (t : Bool) (v : ℤ) (o : Option ℤ) → unwrap_or (if t then Some v else o) (pos 0) ≡ unwrap_or (cond t (Some v) None) (unwrap_or o (pos 0))
    same true v o = refl
    same false v o = refl

    point : (c : ℕ) → unwrap_or (slice_get new c) (pos 0) ≡ unwrap_or (map.get w c) (unwrap_or (slice_get old c) (pos 0))
    point c =
        ap (λ o. unwrap_or o (pos 0)) (takes c) ∙ same (tells words c) (f c) (slice_get old c) ∙ ap (λ o. unwrap_or o (unwrap_or (slice_get old c) (pos 0))) (sym (is c))

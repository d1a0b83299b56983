-- Mask words, and the set of cells that they tell (own): bit b of word k is cell 64*k+b.
use Rattle.std.specs.Prelude.{◌≡◌, ℕ, true, ◌+◌, ◌*◌, ◌/◌, ◌%◌, ◌<◌, ◌≤◌, ◌^◌, ◌≢◌, ◌==◌, Bool}
use Rattle.std.specs.Prelude.{List, length, slice_index_or, bit_and}
use Rattle.std.specs.Int.{bit_at}
use Rattle.std.specs.List.{filter, range_with_len}
use Rattle.std.specs.Ordering.{nat_cmp}
use Rattle.std.specs.FinSet as set

-- the word at a place, 0 past the last one
abbrev pub word_at : List ℕ → ℕ → ℕ
word_at words k = slice_index_or words k 0

-- whether words tell a cell
abbrev pub tells : List ℕ → ℕ → Bool
tells words c = bit_at (word_at words (c / 64)) (c % 64) == 1

abbrev pub set_of : List ℕ → set.FinSet nat_cmp
set_of words = set.from_list (filter (tells words) (range_with_len 0 (64 * length words)))

-- two words at one place, from i on and below j, share a bit
abbrev pub MeetIn : List ℕ → List ℕ → ℕ → ℕ → Type 0
MeetIn a b i j = (k : ℕ) × ((i ≤ k) × ((k < j) × (bit_and (word_at a k) (word_at b k) ≢ 0)))

-- the eight words of one of so many groups, from the first one on, share a bit, and a mask has that
-- group
abbrev pub MeetTold : List ℕ → List ℕ → ℕ → ℕ → ℕ → Type 0
MeetTold a b mask first n =
    (j : ℕ) × ((j < n) × ((bit_at mask j ≡ 1) × MeetIn a b (8 * (first + j)) (8 * (first + j) + 8)))

-- those of a group that two masks both have
abbrev pub SomeMeet : List ℕ → List ℕ → List ℕ → List ℕ → Type 0
SomeMeet a b mine others =
    (k : ℕ) × MeetTold a b (bit_and (word_at mine k) (word_at others k)) (64 * k) 64

-- of the cells that words told, those are left that are in none of the first n groups of a mask,
-- from the first one on
abbrev pub AreLeft : List ℕ → List ℕ → ℕ → ℕ → ℕ → Type 0
AreLeft old new mask first n =
    (c : ℕ) → tells new c ≡ true → (tells old c ≡ true)
    × ((j : ℕ) → j < n → bit_at mask j ≡ 1 → c / 512 ≢ first + j)

-- those are left whose group isn't one of those that the first n masks have
abbrev pub AreBehind : List ℕ → List ℕ → List ℕ → ℕ → Type 0
AreBehind old new groups n =
    (c : ℕ) → tells new c ≡ true → (tells old c ≡ true)
    × (tells groups (c / 512) ≡ true → n ≤ c / 512 / 64)

-- a mask of groups of eight words has each group in which a cell is told, and no words of its own
-- past them
pub record IsSummed (words groups : List ℕ) : Type 0 where
  pub told : (c : ℕ) → tells words c ≡ true → tells groups (c / 512) ≡ true
  pub short : length groups ≤ length words / 512 + 1
  pub few : length words ≤ 2 ^ 58

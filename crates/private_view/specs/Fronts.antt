-- The cells of the first page, at hand without a look-up (own).
use Rattle.std.specs.Prelude.{◌≡◌, ◌<◌, ◌==◌, ◌&&◌, ◌⊎◌, zero, suc, pos, nat_lt, slice_index_or}
use Rattle.std.specs.Prelude.{if◌then◌else◌, Some, None, is_some, Bool, true, List, ℕ, ℤ}
use Rattle.std.specs.Int.{bit_at}
use Rattle.std.specs.FinMap as map
use Rattle.meaning.specs.Stores.{World}
use Rattle.private_view.specs.Views.{Seen, Written}

-- a mask has a cell, of the first 64
abbrev pub is_first : ℕ → ℕ → Bool
is_first mask c = nat_lt c 64 && (bit_at mask c == 1)

-- so has a list that keeps each of its cells in its place, and others elsewhere
abbrev pub is_shown : List ℕ → ℕ → Bool
is_shown shown c = nat_lt c 64 && (slice_index_or shown c 0 == c)

-- those of the first 64 only
abbrev pub AreFirst : List ℕ → Type 0
AreFirst shown = (b : ℕ) → b < 64 → slice_index_or shown b 0 < 64

-- the cells of a mask are given their values, of the first so many
unfoldable pub given_first : ℕ → ℕ → List ℤ → Written → Written
given_first zero mask values w = w
given_first (suc n) mask values w =
    if bit_at mask n == 1
    then map.insert (given_first n mask values w) n (slice_index_or values n (pos 0))
    else given_first n mask values w

-- a view whose first cells have their newest values at hand
abbrev pub with_first : ℕ → List ℤ → Seen → Seen
with_first mask values s = record s { written = given_first 64 mask values s.written }

-- the same among stores
unfoldable pub world_with_first : ℕ → List ℤ → World → World
world_with_first mask values w = record w {
  written = λ c. if is_first mask c then Some (slice_index_or values c (pos 0)) else w.written c;
}

-- what is at hand of the first 64 cells beside a store: which may be shown, which were written, and
-- the value of each
pub record IsFront (shown : List ℕ) (written : ℕ) (values : List ℤ) (w : World) : Type 0 where
  -- those that were written
  pub own : (b : ℕ) → b < 64 → is_some (w.written b) ≡ (bit_at written b == 1)
  -- each other one has the value that the store stands on
  pub based : (b : ℕ) → b < 64 → b < w.cells → w.written b ≡ None → w.base b
      ≡ slice_index_or values b (pos 0)
  -- to show one marks nothing that isn't marked
  pub marked : (b : ℕ) → b < 64 → slice_index_or shown b 0 ≡ b → w.written b ≡ None →
      (w.exposed b ≡ true) ⊎ (w.lost ≡ true)
  -- what was written may be shown
  pub both : (b : ℕ) → b < 64 → bit_at written b ≡ 1 → slice_index_or shown b 0 ≡ b
  pub first : AreFirst shown

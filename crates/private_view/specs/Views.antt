-- What a view of a whole store is among stores (own).
use Rattle.std.specs.Prelude.{◌≡◌, true, pos, Some, map as list_map, slice_get, slice_index_or, ◌*◌}
use Rattle.std.specs.Prelude.{◌/◌, ◌%◌, ◌+◌, ◌-◌, min, ℕ, ℤ, ◌<◌, ◌==◌, ◌&&◌, if◌then◌else◌, Bool}
use Rattle.std.specs.Prelude.{false, List, length, IsSome, refl, ◌≤◌, ◌||◌}
use Rattle.std.specs.Ordering.{nat_cmp}
use Rattle.std.specs.FinSet as set
use Rattle.std.specs.FinMap as map
use Rattle.std.specs.Coded.{Coded, code_by, coded×, coded_list, coded_ℕ, coded_ℤ, coded_bool}
use Rattle.std.specs.Int.{bit_at}
use Rattle.marks.specs.Cells.{is_within}
use Rattle.marks.specs.Words.{tells}
use Rattle.meaning.specs.Stores.{World, known}
use Rattle.array_store.specs.Whole.{world_of}

-- what was written, by the cells' numbers
abbrev pub Written : Type 0
Written = map.FinMap nat_cmp ℤ

-- what contracts see of a view
pub record Seen : Type 0 where
  -- the values of the whole store that it stands on
  pub base : List ℤ
  -- the cells that were read before they were written
  pub exposed : set.FinSet nat_cmp
  pub written : Written
  -- a cell was read that couldn't be marked as exposed
  pub lost : Bool

-- nothing was read or written
abbrev pub new_view : List ℤ → Seen
new_view base = record { base = base; exposed = set.empty; written = map.empty; lost = false }

-- it stands on the whole store's values, and may refuse a write
abbrev pub world_seen : Seen → World
world_seen s = record {
  cells = length s.base;
  base = known (world_of s.base);
  exposed = set.contains s.exposed;
  written = map.get s.written;
  lost = s.lost;
  sure = false;
}

-- the cells of some run within bounds are exposed beside others, or none of them
abbrev pub ExposesRun : ℕ → ℕ → set.FinSet nat_cmp → set.FinSet nat_cmp → Type 0
ExposesRun from until old new =
    (a : ℕ) × ((b : ℕ) × ((from ≤ a) × ((b ≤ until)
    × ((c : ℕ) → set.contains new c ≡ (is_within a b c || set.contains old c)))))

-- what contracts see of what a view wrote, without the whole store
pub record Wrote : Type 0 where
  -- how many cells the whole store had
  pub cells : ℕ
  pub written : Written

-- ---- how a view is kept

-- the cells of a set, each with its value
abbrev pub written_by : set.FinSet nat_cmp → (ℕ → ℤ) → Written
written_by marks values = map.from_entries (list_map (λ c. (c, values c)) (set.items marks))

-- the place of a page among those that were copied
abbrev pub slot_at : List ℕ → ℕ → ℕ
slot_at slots k = slice_index_or slots k 0

-- the value of a cell whose page was copied
abbrev pub value_at : List ℕ → List ℤ → ℕ → ℤ
value_at slots values c = slice_index_or values (64 * slot_at slots (c / 64) + c % 64) (pos 0)

-- a page was copied: its number stands at its place
pub record IsCopied (slots numbers : List ℕ) (k : ℕ) : Type 0 where
  pub within : slot_at slots k < length numbers
  pub there : slice_index_or numbers (slot_at slots k) 0 ≡ k

-- each of the pages that were copied has its place noted
abbrev pub ArePlaced : List ℕ → List ℕ → Type 0
ArePlaced slots numbers =
    (i : ℕ) → i < length numbers → slot_at slots (slice_index_or numbers i 0) ≡ i

-- each cell that was written is in a page that was copied; 64 values for each page
pub record ArePaged (cells : ℕ) (marks : set.FinSet nat_cmp) (slots numbers : List ℕ)
    (values : List ℤ) : Type 0 where
  pub within : (c : ℕ) → set.contains marks c ≡ true → c < cells
  pub copied : (c : ℕ) → set.contains marks c ≡ true → IsCopied slots numbers (c / 64)
  pub placed : ArePlaced slots numbers
  pub long : length values ≡ 64 * length numbers

-- and each other cell of these pages has the base's value
pub record IsKept (base : List ℤ) (marks : set.FinSet nat_cmp) (slots numbers : List ℕ)
    (values : List ℤ) : Type 0 where
  pub paged : ArePaged (length base) marks slots numbers values
  pub based : (c : ℕ) → c < length base → IsCopied slots numbers (c / 64) → set.contains marks c
      ≡ false → Some (value_at slots values c) ≡ slice_get base c

-- a run of cells, from one on up to another, none of which is one of the first 64: each is exposed,
-- and none was written
pub record IsRun (from until : ℕ) (exposed marks : set.FinSet nat_cmp) : Type 0 where
  pub far : 64 ≤ from
  pub shown : (c : ℕ) → from ≤ c → c < until → set.contains exposed c ≡ true
  pub unwritten : (c : ℕ) → from ≤ c → c < until → set.contains marks c ≡ false

-- a cell of a page was written
abbrev pub WroteIn : Seen → ℕ → Type 0
WroteIn s k = (b : ℕ) × ((b < 64) × IsSome (map.get s.written (64 * k + b)))

-- the values of a page's cells, fewer in the last page
abbrev pub ShowsPage : Seen → ℕ → List ℤ → Type 0
ShowsPage s k p =
    (length p ≡ min 64 (length s.base - 64 * k))
    × ((b : ℕ) → b < length p → slice_get p b ≡ Some (known (world_seen s) (64 * k + b)))

-- a cell of a page is marked
abbrev pub HasSome : List ℕ → ℕ → Type 0
HasSome words k = (b : ℕ) × ((b < 64) × (tells words (64 * k + b) ≡ true))

-- the mask word of a page has a cell
abbrev pub is_in : ℕ → ℕ → ℕ → Bool
is_in word page c = (c / 64 == page) && (bit_at word (c % 64) == 1)

-- the value of a cell among those of its page
abbrev pub of_page : List ℤ → ℕ → ℤ
of_page part c = slice_index_or part (c % 64) (pos 0)

-- cells that are in it have their values there, and all others what they had
abbrev pub TakesPage : List ℤ → List ℤ → ℕ → ℕ → (ℕ → ℤ) → Type 0
TakesPage old new word page values =
    (c : ℕ) → slice_get new c ≡ (if is_in word page c then Some (values c) else slice_get old c)

-- those that mask words tell
abbrev pub TakesAll : List ℤ → List ℤ → List ℕ → (ℕ → ℤ) → Type 0
TakesAll old new words values =
    (c : ℕ) → slice_get new c ≡ (if tells words c then Some (values c) else slice_get old c)

-- ---- its code

abbrev pub Parts : Type 0
Parts = List ℤ × (set.FinSet nat_cmp × (Written × Bool))

abbrev pub coded_parts : Coded Parts
coded_parts =
    coded× (coded_list coded_ℤ)
    (coded× (set.code coded_ℕ) (coded× (map.code coded_ℕ coded_ℤ) coded_bool))

abbrev pub parts_of : Seen → Parts
parts_of s = (s.base, (s.exposed, (s.written, s.lost)))

abbrev pub of_parts : Parts → Seen
of_parts p = record { base = p.0; exposed = p.1.0; written = p.1.1.0; lost = p.1.1.1 }

abbrev pub coded_seen : Coded Seen
coded_seen = code_by Parts coded_parts parts_of of_parts (λ _. refl)

abbrev pub coded_wrote : Coded Wrote
coded_wrote =
    code_by (ℕ × Written)
    (coded× coded_ℕ (map.code coded_ℕ coded_ℤ)) (λ w. (w.cells, w.written)) (λ p.
    record { cells = p.0; written = p.1 }) (λ _. refl)

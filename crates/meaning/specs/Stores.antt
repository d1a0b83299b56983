-- What a store of cells holds, and what reading and writing it does. A cell has the value of a
-- variable or of an array element (ANSI X3.9-1978, chapters 5 and 17); a LOGICAL is kept as 0 or 1.
-- A store may stand on the values of another one, and then keeps what was written to itself, and
-- which of the other's values it has shown (own).
use Rattle.std.specs.Prelude.{◌≡◌, ℕ, ℤ, ◌==◌, ◌||◌, ◌⊎◌, Bool, true, false, IsTrue, if◌then◌else◌}
use Rattle.std.specs.Prelude.{Option, Some, None, IsSome, unwrap_or}

-- the values of cells by their numbers
abbrev pub Cells : Type 0
Cells = ℕ → ℤ

-- what a store holds
pub record World : Type 0 where
  -- how many cells there are
  pub cells : ℕ
  -- the values that the store stands on
  pub base : Cells
  -- of which cells the base's value was shown
  pub exposed : ℕ → Bool
  -- what was written
  pub written : ℕ → Option ℤ
  -- a cell was shown that couldn't be marked as exposed
  pub lost : Bool
  -- a write is never refused
  pub sure : Bool

-- values, with what was written put in
unfoldable pub overlay : Cells → (ℕ → Option ℤ) → Cells
overlay m written = λ c. unwrap_or (written c) (m c)

-- the value of each cell: what was written, else the base's
unfoldable pub known : World → Cells
known w = overlay w.base w.written

-- ---- reading and writing

-- a cell is exposed where nothing is written
abbrev pub with_exposed : ℕ → Option ℤ → (ℕ → Bool) → ℕ → Bool
with_exposed c (Some v) exposed = exposed
with_exposed c None exposed = λ d. d == c || exposed d

unfoldable pub after_read : ℕ → World → World
after_read c w = record w { exposed = with_exposed c (w.written c) w.exposed }

-- from then on it is known that a cell couldn't be marked
unfoldable pub lose : World → World
lose w = record w { lost = true }

-- what a read of a cell leaves: it is marked as exposed if need be, or it couldn't be marked
abbrev pub LeavesRead : ℕ → World → World → Type 0
LeavesRead c before after =
    (after ≡ after_read c before) ⊎ ((before.written c ≡ None) × (after ≡ lose before))

unfoldable pub after_write : ℕ → ℤ → World → World
after_write c v w = record w { written = λ d. if d == c then Some v else w.written d }

-- ---- what is kept, whatever is read and written

pub record IsLater (before after : World) : Type 0 where
  pub cells : after.cells ≡ before.cells
  pub base : after.base ≡ before.base
  pub exposed : (c : ℕ) → IsTrue (before.exposed c) → IsTrue (after.exposed c)
  pub written : (c : ℕ) → IsSome (before.written c) → IsSome (after.written c)
  pub lost : IsTrue before.lost → IsTrue after.lost
  pub sure : after.sure ≡ before.sure

-- values that are the base's in each exposed cell
abbrev pub Agrees : Cells → World → Type 0
Agrees m w = (c : ℕ) → IsTrue (w.exposed c) → m c ≡ w.base c

-- ---- what an evaluation means, whatever values the store stands on

-- it reads only: where no mark was lost, this is so for all values that agree with the base
pub record Reads (before after : World) (holds : Cells → Type 0) : Type 0 where
  pub grows : IsLater before after
  pub unwritten : after.written ≡ before.written
  pub means : after.lost ≡ false → (m : Cells) → Agrees m after → holds (overlay m before.written)

-- it reads and writes: this is so of the values before and behind it
pub record Does (before after : World) (holds : Cells → Cells → Type 0) : Type 0 where
  pub grows : IsLater before after
  pub means : after.lost ≡ false → (m : Cells) → Agrees m after →
      holds (overlay m before.written) (overlay m after.written)

-- values, with one of them set
abbrev pub with_value : Cells → ℕ → ℤ → Cells
with_value m c v = λ d. if d == c then v else m d

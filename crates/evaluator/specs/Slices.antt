-- Consecutive members of a list of a program, as a list by themselves (ANSI X3.9-1978, 11.1 to
-- 11.4).
use Rattle.std.specs.Prelude.{◌≡◌, ℕ, Option, Some}
use Rattle.meaning.specs.declared.syntax.Tree.{Tree}
use Rattle.meaning.specs.Trees.{Members}
use Rattle.label_targets.specs.Kept.{AreKept}
use Rattle.label_targets.specs.Lists.{IsListIn}
use Rattle.label_targets.specs.Output.{has_output_in}
use Rattle.label_targets.specs.Places.{own_place, place_in}

-- each label of members, the first of which has this place in its list, leads to its place in that
-- list
abbrev pub HasPlacesFrom : ℕ → (ℕ → Option ℕ) → Members → Type 0
HasPlacesFrom first places ms = (s n : ℕ) → own_place s first ms ≡ Some n → places s ≡ Some n

-- members of a list of the program, from a place on
pub record IsSliceFrom (t : Tree) (first : ℕ) (ms : Members) : Type 0 where
  pub own : HasPlacesFrom first (place_in t) ms
  pub inner : AreKept (place_in t) (has_output_in t) (IsListIn t) ms

-- the same, wherever they stand in it
pub record IsSlice (t : Tree) (ms : Members) : Type 0 where
  pub first : ℕ
  pub is : IsSliceFrom t first ms

-- What holds of the lists of a program unit whose labels and DO statements are kept, so that
-- nothing has to be looked for in them.
use Rattle.std.specs.Prelude.{◌≡◌, ℕ, Bool, false, IsTrue, Option, Some}
use Rattle.meaning.specs.declared.syntax.Tree.{Tree}
use Rattle.meaning.specs.Trees.{Members, none, plain, loop, block, Arms, no_arms, arm}
use Rattle.label_targets.specs.Quiet.{is_quiet}
use Rattle.label_targets.specs.Places.{own_place, place_in}
use Rattle.label_targets.specs.Output.{has_output_in}
use Rattle.label_targets.specs.Lists.{IsListIn}

-- each label of a list leads to its place
abbrev pub HasPlaces : (ℕ → Option ℕ) → Members → Type 0
HasPlaces places ms = (s n : ℕ) → own_place s 0 ms ≡ Some n → places s ≡ Some n

-- the lists further in have their places and are of those listed, and a range writes nothing where
-- its DO statement isn't loud
abbrev mutual
  pub AreKept : (ℕ → Option ℕ) → (ℕ → Bool) → (Members → Type 0) → Members → Type 0
  AreKept places output listed none = Unit {0}
  AreKept places output listed (plain x ms) = AreKept places output listed ms
  AreKept places output listed (loop x range ms) =
      (output x.line ≡ false → IsTrue (is_quiet range))
      × ((HasPlaces places range × listed range × AreKept places output listed range)
      × AreKept places output listed ms)
  AreKept places output listed (block arms x ms) =
      AreKeptInArms places output listed arms × AreKept places output listed ms

  pub AreKeptInArms : (ℕ → Option ℕ) → (ℕ → Bool) → (Members → Type 0) → Arms → Type 0
  AreKeptInArms places output listed no_arms = Unit {0}
  AreKeptInArms places output listed (arm x body arms) =
      (HasPlaces places body × listed body × AreKept places output listed body)
      × AreKeptInArms places output listed arms

-- ---- in a program unit

-- a list of it
pub record IsKept (t : Tree) (ms : Members) : Type 0 where
  pub list : IsListIn t ms
  pub own : HasPlaces (place_in t) ms
  pub inner : AreKept (place_in t) (has_output_in t) (IsListIn t) ms

-- a part of one of its lists
pub record IsPartKept (t : Tree) (ms : Members) : Type 0 where
  pub inner : AreKept (place_in t) (has_output_in t) (IsListIn t) ms

-- arms of one of its block IFs
pub record AreArmsKept (t : Tree) (arms : Arms) : Type 0 where
  pub inner : AreKeptInArms (place_in t) (has_output_in t) (IsListIn t) arms

-- Initial lines that ascend, and the statements of the lists in a list (ANSI X3.9-1978, 3.2 and
-- 11.2).
use Rattle.std.specs.Prelude.{◌≤◌, ℕ, suc, List, [], ◌∷◌, ◌++◌, length, map}
use Rattle.meaning.specs.Syntax.{ItemTree}
use Rattle.meaning.specs.Trees.{Members, none, plain, loop, block, Arms, no_arms, arm, flat}
use Rattle.program.specs.declared.lists.Lists.{Lists}

-- numbers ascend, from a least one on and below a greatest one
abbrev pub Climb : ℕ → ℕ → List ℕ → Type 0
Climb least greatest [] = least ≤ greatest
Climb least greatest (n ∷ ns) = (least ≤ n) × Climb (suc n) greatest ns

abbrev pub lines_of : List ItemTree → List ℕ
lines_of xs = map (λ x. x.line) xs

-- the statements in ranges and arms, which are lists of their own
abbrev pub within_arms : Arms → List ItemTree
within_arms no_arms = []
within_arms (arm x ms arms) = flat ms ++ within_arms arms

abbrev pub within : Members → List ItemTree
within none = []
within (plain x ms) = within ms
within (loop x range ms) = flat range ++ within ms
within (block arms x ms) = within_arms arms ++ within ms

-- ---- what is kept by lines

-- there is room for these statements behind all that is kept, and no more is kept than there are
-- lines
pub record IsFilled (l : Lists) (greatest : ℕ) (xs : List ItemTree) : Type 0 where
  pub lines : Climb (length l.places.items) greatest (lines_of xs)
  pub few : length l.lists.items ≤ length l.places.items

-- what is kept of these statements is kept below the lines behind them
pub record HasFilled (old new : Lists) (xs : List ItemTree) : Type 0 where
  pub below : (greatest : ℕ) → Climb (length old.places.items) greatest (lines_of xs) →
      length new.places.items ≤ greatest
  pub few : length new.lists.items ≤ length new.places.items

-- behind what is kept of a list's first statement there is room for the lists in it
pub record BeginsFilled (old new : Lists) (ms : Members) : Type 0 where
  pub lines : (greatest : ℕ) → Climb (length old.places.items) greatest (lines_of (flat ms)) →
      Climb (length new.places.items) greatest (lines_of (within ms))
  pub few : length new.lists.items ≤ length new.places.items

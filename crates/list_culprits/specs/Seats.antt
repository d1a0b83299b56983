-- Where the statements of a program unit stand: in which ranges and blocks, and with which
-- statements in the lists around them (ANSI X3.9-1978, 3.5 and 11.6 to 11.10).
use Rattle.std.specs.Prelude.{◌≡◌, ℕ, Bool, List, [], ◌∷◌, ◌++◌, flat_map, map, if◌then◌else◌}
use Rattle.std.specs.Prelude.{Option, Some, None, option_map}
use Rattle.std.specs.List.{find}
use Rattle.meaning.specs.declared.refusal.Rule.{Rule}
use Rattle.meaning.specs.declared.syntax.Arm.{Arm}
use Rattle.meaning.specs.Statements.{broken_if}
use Rattle.meaning.specs.Surroundings.{Around, counted_by, in_body, own_items, told_in}
use Rattle.meaning.specs.Syntax.{ItemTree}
use Rattle.meaning.specs.Trees.{Members, none, plain, loop, block, Arms, no_arms, arm, Nested}
use Rattle.meaning.specs.Trees.{flatten, item_tree, members_tree}
use Rattle.symbols.specs.Listed.{tree_at, trees_at}
use Rattle.list_culprits.specs.declared.seats.Opener.{Opener as Beginning}
use Rattle.list_culprits.specs.declared.seats.Opener.TheVariants as beginnings
use Rattle.list_culprits.specs.declared.seats.Seat.{Seat as Place}

-- the statement with which a range begins, or a block of a block IF
pub data Opener : Type 0 where
  range_of : ItemTree → Opener
  block_of : ItemTree → Opener

abbrev pub head_in : Opener → ItemTree
head_in (range_of x) = x
head_in (block_of x) = x

-- the variable that it counts with
abbrev pub counted_in : Opener → List (List ℕ)
counted_in (range_of x) = counted_by x.shape
counted_in (block_of x) = []

-- a statement, what it stands in, innermost first, and the statements of its list and of those
-- around it
pub record Seat : Type 0 where
  pub openers : List Opener
  pub reach : List ItemTree
  pub item : ItemTree

abbrev pub seat : List Opener → List ItemTree → ItemTree → Seat
seat os reach x = record { openers = os; reach = reach; item = x }

-- what the rules on lists know of it
abbrev pub around_by : List Opener → List ItemTree → Around
around_by os reach = record { variables = flat_map counted_in os; items = reach }

abbrev pub around_at : Seat → Around
around_at z = around_by z.openers z.reach

-- the statements of a list in order, each with what it stands in
abbrev mutual
  pub seats_in : List Opener → List ItemTree → Members → List Seat
  seats_in os reach none = []
  seats_in os reach (plain x ms) = seat os reach x ∷ seats_in os reach ms
  seats_in os reach (loop x range ms) =
      seat os reach x ∷
      (seats_in (range_of x ∷ os) (own_items range ++ reach) range ++ seats_in os reach ms)
  seats_in os reach (block arms x ms) =
      seats_in_arms os reach arms ++ (seat os reach x ∷ seats_in os reach ms)

  pub seats_in_arms : List Opener → List ItemTree → Arms → List Seat
  seats_in_arms os reach no_arms = []
  seats_in_arms os reach (arm x ms arms) =
      seat os reach x ∷
      (seats_in (block_of x ∷ os) (own_items ms ++ reach) ms ++ seats_in_arms os reach arms)

abbrev pub seats_of : Nested → List Seat
seats_of t = seats_in [] (own_items t.body) t.body

-- they are the program unit's statements, and a rule on lists is told of each by what it stands in
pub record SeatsTell (t : Nested) : Type 0 where
  pub items : map (λ z. z.item) (seats_of t) ≡ flatten t
  pub told : (breaks : Around → ItemTree → Bool) (rule : Rule) →
      told_in breaks rule (in_body t.body) t.body
      ≡ flat_map (λ z. broken_if (breaks (around_at z) z.item) z.item.line rule) (seats_of t)

-- ---- what the Rust values stand for

abbrev pub opener_at : Beginning → Opener
opener_at (beginnings.Range x) = range_of (tree_at x)
opener_at (beginnings.Block x) = block_of (tree_at x)

-- a seat that was found in a list that stands in these
abbrev pub seat_under : List Opener → List ItemTree → Place → Seat
seat_under os reach z =
    seat (map opener_at z.openers.items ++ os) (trees_at z.reach.items ++ reach) (tree_at z.item)

abbrev pub seat_at : Place → Seat
seat_at z = seat (map opener_at z.openers.items) (trees_at z.reach.items) (tree_at z.item)

-- the first seat whose statement passes a test
abbrev pub seat_passing : (ItemTree → Bool) → List Seat → Option Seat
seat_passing test zs = find (λ z. test z.item) zs

abbrev pub seat_if : Bool → Seat → Option Seat
seat_if test z = if test then Some z else None

-- one that was found at a statement, in a list, in arms, or nowhere there
abbrev pub IsSeatHere : (ItemTree → Bool) → ItemTree → Option Place → Type 0
IsSeatHere test x found =
    (os : List Opener) (reach : List ItemTree) → option_map (seat_under os reach) found
    ≡ seat_if (test x) (seat os reach x)

abbrev pub IsSeatIn : (ItemTree → Bool) → Members → Option Place → Type 0
IsSeatIn test ms found =
    (os : List Opener) (reach : List ItemTree) → option_map (seat_under os reach) found
    ≡ seat_passing test (seats_in os reach ms)

abbrev pub IsSeatInside : (ItemTree → Bool) → Opener → Members → Option Place → Type 0
IsSeatInside test o ms found =
    (os : List Opener) (reach : List ItemTree) → option_map (seat_under os reach) found
    ≡ seat_passing test (seats_in (o ∷ os) (own_items ms ++ reach) ms)

abbrev pub arm_alone : Arm → Arms
arm_alone a = arm (item_tree a.head) (members_tree a.body.items) no_arms

abbrev pub IsSeatInArms : (ItemTree → Bool) → Arms → Option Place → Type 0
IsSeatInArms test arms found =
    (os : List Opener) (reach : List ItemTree) → option_map (seat_under os reach) found
    ≡ seat_passing test (seats_in_arms os reach arms)

-- a seat that was found in a list, found in what holds the list
abbrev pub Enters : Opener → Members → Place → Place → Type 0
Enters o ms old new =
    (os : List Opener) (reach : List ItemTree) → seat_under os reach new
    ≡ seat_under (o ∷ os) (own_items ms ++ reach) old

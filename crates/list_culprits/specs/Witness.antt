-- What is told is a witness: by it a statement breaks a rule on lists in what it stands in.
use Rattle.std.specs.Prelude.{◌≡◌, ℕ, ◌==◌, Bool, false, List, [], ◌∷◌, Some, IsTrue, ◌⊎◌}
use Rattle.std.specs.List.{Contains, list_any}
use Rattle.meaning.specs.Characters.{number_of}
use Rattle.meaning.specs.LabelRules.{breaks_transfers, has_label, misses, not_executable}
use Rattle.meaning.specs.LoopRules.{breaks_loops, is_no_counter, variables_set}
use Rattle.meaning.specs.Surroundings.{controlled_by, loop_variables}
use Rattle.meaning.specs.Syntax.{DataSetTree, ItemTree, ListItemsTree, no_items, more_items}
use Rattle.meaning.specs.Syntax.{value_item, loop_item, ShapeTree, writing, printing, initializing}
use Rattle.meaning.specs.Syntax.{logical_if}
use Rattle.meaning.specs.Trees.{Nested, flatten}
use Rattle.meaning.specs.Uses.{Symbols, is_one_of, symbols_of}
use Rattle.finding.specs.Answers.{IsAnswer}
use Rattle.list_culprits.specs.declared.culprit.Kind.{Kind}
use Rattle.list_culprits.specs.Seats.{Opener, range_of, block_of, Seat, around_at, counted_in}
use Rattle.list_culprits.specs.Seats.{head_in, seats_of}
use Rattle.list_culprits.specs.Told.{Told, nowhere, closed, in_range, in_block, apart, shared}
use Rattle.list_culprits.specs.Told.{uncounted, counting, implied}
use Rattle.list_culprits.specs.Transfers.{ProgramUnit, branch_kind, closed_kind, missed_in}
use Rattle.list_culprits.specs.Transfers.{targets_of, times}
use Rattle.list_culprits.specs.Loops.{looped_in}

abbrev pub unit_of : Nested → ProgramUnit
unit_of t = record { symbols = symbols_of (flatten t); seats = seats_of t; all = flatten t }

-- ---- K2

-- the statement transfers to the label, and misses it
pub record Misses (u : ProgramUnit) (z : Seat) (label : List ℕ) : Type 0 where
  pub stands : Contains (targets_of z.item.shape) label
  pub is_missed : IsTrue (misses u.symbols u.all z.reach (number_of label))

-- no statement has it
abbrev pub IsNowhere : ProgramUnit → List ℕ → Type 0
IsNowhere u label = list_any (has_label (number_of label)) u.all ≡ false

-- a statement that has it is ELSE IF or ELSE, or isn't executable
pub record IsClosed (u : ProgramUnit) (label : List ℕ) (kind : Kind) : Type 0 where
  pub statement : ItemTree
  pub stands : Contains u.all statement
  pub has : IsTrue (has_label (number_of label) statement)
  pub kind_is : (branch_kind statement.shape ≡ Some kind) ⊎ (closed_kind statement.shape ≡ kind)

-- none around has it, and one that has it stands in such a range or block
pub record IsInside (u : ProgramUnit) (z : Seat) (label : List ℕ) (o : Opener) : Type 0 where
  pub place : Seat
  pub stands : Contains u.seats place
  pub has : IsTrue (has_label (number_of label) place.item)
  pub outer : List Opener
  pub opened : place.openers ≡ o ∷ outer
  pub absent : IsTrue (times label z.reach == 0)

abbrev pub IsMissedBy : ProgramUnit → Seat → Told → Type 0
IsMissedBy u z (nowhere label) = Misses u z label × IsNowhere u label
IsMissedBy u z (closed label kind) = Misses u z label × IsClosed u label kind
IsMissedBy u z (in_range label line) =
    Misses u z label × ((x : ItemTree) × (x.line ≡ line) × IsInside u z label (range_of x))
IsMissedBy u z (in_block label line) =
    Misses u z label × ((x : ItemTree) × (x.line ≡ line) × IsInside u z label (block_of x))
IsMissedBy u z (apart label) = Misses u z label × IsTrue (times label z.reach == 0)
IsMissedBy u z (shared label) =
    Misses u z label × ((times label z.reach == times label u.all) ≡ false)
IsMissedBy u z k = ⊥

-- ---- K9

-- a DO statement around counts with the name
pub record IsCounting (z : Seat) (name : List ℕ) (line : ℕ) : Type 0 where
  pub opener : Opener
  pub around : Contains z.openers opener
  pub counts : IsTrue (is_one_of (counted_in opener) name)
  pub line_is : (head_in opener).line ≡ line

-- an implied DO has the variable, and one inside it has it too
abbrev pub IsImpliedIn : ListItemsTree → List ℕ → Type 0
IsImpliedIn no_items name = ⊥
IsImpliedIn (more_items (value_item e) xs) name = IsImpliedIn xs name
IsImpliedIn (more_items (loop_item ys variable limits) xs) name =
    ((variable ≡ name) × IsTrue (is_one_of (loop_variables ys) variable))
    ⊎ (IsImpliedIn ys name ⊎ IsImpliedIn xs name)

abbrev pub IsImpliedInSets : List DataSetTree → List ℕ → Type 0
IsImpliedInSets [] name = ⊥
IsImpliedInSets (s ∷ ss) name = IsImpliedIn s.list name ⊎ IsImpliedInSets ss name

abbrev pub IsImpliedBy : ShapeTree → List ℕ → Type 0
IsImpliedBy (writing control list) name = IsImpliedIn list name
IsImpliedBy (printing source list) name = IsImpliedIn list name
IsImpliedBy (initializing sets) name = IsImpliedInSets sets name
IsImpliedBy (logical_if e statement) name = IsImpliedBy statement name
IsImpliedBy s name = ⊥

abbrev pub IsLoopedBy : Symbols → Seat → Told → Type 0
IsLoopedBy r z (uncounted name) =
    Contains (controlled_by z.item.shape) name × IsTrue (is_no_counter r name)
IsLoopedBy r z (counting name line) =
    Contains (variables_set z.item.shape) name × IsCounting z name line
IsLoopedBy r z (implied name) = IsImpliedBy z.item.shape name
IsLoopedBy r z k = ⊥

-- ---- of a statement in its seat: it breaks the rule by what is told, or keeps it where nothing is

abbrev pub is_transfer_broken : Nested → Seat → Bool
is_transfer_broken t z = breaks_transfers (symbols_of (flatten t)) (flatten t) (around_at z) z.item

abbrev pub is_loop_broken : Nested → Seat → Bool
is_loop_broken t z = breaks_loops (symbols_of (flatten t)) (around_at z) z.item

pub record TellsWitnesses (t : Nested) (z : Seat) : Type 0 where
  pub missed : IsAnswer (IsMissedBy (unit_of t) z) (is_transfer_broken t z)
      (missed_in (unit_of t) z)
  pub looped : IsAnswer (IsLoopedBy (symbols_of (flatten t)) z) (is_loop_broken t z)
      (looped_in (symbols_of (flatten t)) z)

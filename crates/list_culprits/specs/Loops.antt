-- The first name by which a statement breaks the rule on the variables of loops (ANSI X3.9-1978,
-- 9.3, 11.10 and 12.8.2.3).
use Rattle.std.specs.Prelude.{ℕ, Bool, List, [], ◌∷◌, is_some, if◌then◌else◌, Option, Some, None}
use Rattle.std.specs.Prelude.{option_map}
use Rattle.std.specs.List.{find}
use Rattle.std.specs.Option.{option_or}
use Rattle.meaning.specs.LoopRules.{is_no_counter, variables_set}
use Rattle.meaning.specs.Surroundings.{controlled_by, loop_variables}
use Rattle.meaning.specs.Syntax.{DataSetTree, ItemTree, ListItemsTree, no_items, more_items}
use Rattle.meaning.specs.Syntax.{value_item, loop_item, ShapeTree, writing, printing, initializing}
use Rattle.meaning.specs.Syntax.{logical_if}
use Rattle.meaning.specs.Uses.{Symbols, is_one_of}
use Rattle.list_culprits.specs.Seats.{Opener, Seat, counted_in, head_in}
use Rattle.list_culprits.specs.Told.{Told, uncounted, counting, implied}

-- the innermost DO statement that counts with a name
abbrev pub counter_of : List Opener → List ℕ → Option ItemTree
counter_of os n = option_map head_in (find (λ o. is_one_of (counted_in o) n) os)

abbrev pub is_counter : List Opener → List ℕ → Bool
is_counter os n = is_some (counter_of os n)

-- an implied DO whose variable one inside it has
abbrev pub implied_in : ListItemsTree → Option (List ℕ)
implied_in no_items = None
implied_in (more_items (value_item e) xs) = implied_in xs
implied_in (more_items (loop_item ys variable limits) xs) =
    if is_one_of (loop_variables ys) variable then Some variable
    else option_or (implied_in ys) (implied_in xs)

abbrev pub implied_in_sets : List DataSetTree → Option (List ℕ)
implied_in_sets [] = None
implied_in_sets (s ∷ ss) = option_or (implied_in s.list) (implied_in_sets ss)

abbrev pub implied_by : ShapeTree → Option (List ℕ)
implied_by (writing control list) = implied_in list
implied_by (printing source list) = implied_in list
implied_by (initializing sets) = implied_in_sets sets
implied_by (logical_if e statement) = implied_by statement
implied_by s = None

-- a name that a statement sets, if a DO statement around counts with it
abbrev pub told_counting : List Opener → Option (List ℕ) → Option Told
told_counting os None = None
told_counting os (Some n) = option_map (λ x. counting n x.line) (counter_of os n)

abbrev pub counting_in : Seat → Option Told
counting_in z = told_counting z.openers (find (is_counter z.openers) (variables_set z.item.shape))

abbrev pub uncounted_in : Symbols → ShapeTree → Option Told
uncounted_in r s = option_map uncounted (find (is_no_counter r) (controlled_by s))

-- K9: a variable of a DO or an implied DO that is none, else one that is set though a DO statement
-- around counts with it, else one of an implied DO that one inside it has
abbrev pub looped_in : Symbols → Seat → Option Told
looped_in r z =
    option_or (uncounted_in r z.item.shape)
    (option_or (counting_in z) (option_map implied (implied_by z.item.shape)))

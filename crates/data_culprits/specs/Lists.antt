-- What comes of giving values to the lists of DATA statements, one variable or element after
-- another (ANSI X3.9-1978, 9.1 and 9.3).
use Rattle.std.specs.Prelude.{ℕ, ℤ, Bool, true, false, List, [], ◌∷◌, is_some}
use Rattle.std.specs.Prelude.{if◌then◌else◌, Option, Some, None}
use Rattle.std.specs.List.{range_with_len}
use Rattle.meaning.specs.declared.ending.Value.{Value}
use Rattle.meaning.specs.Arrays.{Dimension, size}
use Rattle.meaning.specs.Initial.{is_counter, known_trips, value_type, with_value}
use Rattle.meaning.specs.Syntax.{ExprTree, name, element, ExprsTree, LimitsTree, ListItemTree}
use Rattle.meaning.specs.Syntax.{ListItemsTree, no_items, more_items, value_item, loop_item}
use Rattle.meaning.specs.Types.{Types}
use Rattle.meaning.specs.Typing.{clash}
use Rattle.meaning.specs.Uses.{Symbols, is_other}
use Rattle.meaning.specs.Values.{Known}
use Rattle.type_culprits.specs.Words.{word_in}
use Rattle.data_rules.specs.DataPlaces.{place_known}
use Rattle.data_rules.specs.DataStages.{Stage, first_of, is_empty_list, stops, with_given}
use Rattle.data_rules.specs.DataSets.{with_values}
use Rattle.data_culprits.specs.Faults.{limits_fault, subscripts_fault}
use Rattle.data_culprits.specs.Outcomes.{Outcome, went, stopped, then_go}
use Rattle.data_culprits.specs.Told.{Told, no_item, no_counter, mistyped, unserved, given_again}
use Rattle.data_culprits.specs.Told.{left_over}

-- the next value, for a place of a name
abbrev pub value_to : Types → List ℕ → ℕ → Stage → Option Value → Outcome
value_to types n i s None = stopped (unserved n)
value_to types n i s (Some v) =
    if clash (types n) (value_type v) then stopped (mistyped n v)
    else (if stops s.way (is_some (s.given n i)) then stopped (given_again n)
    else went (with_given n i v s))

abbrev pub next_to : Types → List ℕ → ℕ → Stage → Outcome
next_to types n i s = value_to types n i s (first_of s.values)

abbrev pub next_to_each : Types → List ℕ → List ℕ → Stage → Outcome
next_to_each types n [] s = went s
next_to_each types n (i ∷ is) s = then_go (next_to types n i s) (next_to_each types n is)

-- a variable or a whole array
abbrev pub to_name : Types → Option (List Dimension) → Bool → List ℕ → Stage → Outcome
to_name types (Some ds) other n s = next_to_each types n (range_with_len 0 (size ds)) s
to_name types None true n s = next_to types n 0 s
to_name types None false n s = stopped (no_item n)

-- an element
abbrev pub to_place : Types → List ℕ → Told → Option ℕ → Stage → Outcome
to_place types n fault None s = stopped fault
to_place types n fault (Some i) s = next_to types n i s

abbrev pub to_element : Types → Known → Option (List Dimension) → List ℕ → ExprsTree → Stage →
    Outcome
to_element types known None n es s = stopped (no_item n)
to_element types known (Some ds) n es s =
    to_place types n (subscripts_fault types known n ds es) (place_known types known ds es) s

abbrev pub to_value : Symbols → Known → ExprTree → Stage → Outcome
to_value r known (name n) s = to_name r.names.types (r.names.arrays n) (is_other r n) n s
to_value r known (element n es) s = to_element r.names.types known (r.names.arrays n) n es s
to_value r known e s = stopped (no_item (word_in e))

-- the items of an implied DO, trip after trip
abbrev pub each_trip : (ℤ → Stage → Outcome) → List ℤ → Stage → Outcome
each_trip f [] s = went s
each_trip f (i ∷ is) s = then_go (f i s) (each_trip f is)

abbrev pub in_trips : Told → (ℤ → Stage → Outcome) → Option (List ℤ) → Stage → Outcome
in_trips fault f None s = stopped fault
in_trips fault f (Some is) s = each_trip f is s

abbrev pub to_loop : Symbols → Known → List ℕ → LimitsTree → (ℤ → Stage → Outcome) → Stage → Outcome
to_loop r known n l f s =
    if is_counter r n
    then in_trips (limits_fault r.names.types known n l) f (known_trips r.names.types known l) s
    else stopped (no_counter n)

unfoldable pub to_items : Symbols → ListItemsTree → Known → Stage → Outcome
to_items r no_items known s = went s
to_items r (more_items (value_item e) xs) known s =
    then_go (to_value r known e s) (to_items r xs known)
to_items r (more_items (loop_item ys variable limits) xs) known s =
    then_go (to_loop r known variable limits (λ i. to_items r ys (with_value variable i known)) s)
    (to_items r xs known)

abbrev pub to_item : Symbols → ListItemTree → Known → Stage → Outcome
to_item r (value_item e) known s = to_value r known e s
to_item r (loop_item ys variable limits) known s =
    to_loop r known variable limits (λ i. to_items r ys (with_value variable i known)) s

-- a whole list, which uses up the values that are left
abbrev pub ended : Stage → Outcome
ended s = if is_empty_list s.values then went (with_values [] s) else stopped left_over

abbrev pub to_list : Symbols → Known → ListItemsTree → Stage → Outcome
to_list r known xs s = then_go (to_items r xs known s) ended

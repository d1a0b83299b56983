-- The rule on the variables of DO statements and implied DOs: K9 (ANSI X3.9-1978, 9.3, 11.10 and
-- 12.8.2.3).
use Rattle.std.specs.Prelude.{ℕ, Bool, false, not, ◌&&◌, ◌||◌, List, [], ◌∷◌}
use Rattle.std.specs.List.{list_any}
use Rattle.meaning.specs.Syntax.{ExprsTree, no_exprs, exprs, ListItemsTree, no_items, more_items}
use Rattle.meaning.specs.Syntax.{value_item, loop_item, ShapeTree, assignment, writing, printing}
use Rattle.meaning.specs.Syntax.{initializing, logical_if, ItemTree}
use Rattle.meaning.specs.Surroundings.{Around, controlled_by}
use Rattle.meaning.specs.Typing.{clash, logical_type}
use Rattle.meaning.specs.Uses.{Symbols, is_one_of, is_other}

-- the variables that statements set while they stand in a range: by an assignment, a DO or an
-- implied DO
abbrev pub set_by : List ℕ → ExprsTree → List (List ℕ)
set_by n no_exprs = n ∷ []
set_by n (exprs e es) = []

abbrev pub variables_set : ShapeTree → List (List ℕ)
variables_set (assignment n es e) = set_by n es
variables_set (logical_if e statement) = variables_set statement
variables_set s = controlled_by s

-- an implied DO sets the variable of one around it
abbrev pub resets_in : List (List ℕ) → ListItemsTree → Bool
resets_in around no_items = false
resets_in around (more_items (value_item e) xs) = resets_in around xs
resets_in around (more_items (loop_item ys variable limits) xs) =
    is_one_of around variable || (resets_in (variable ∷ around) ys || resets_in around xs)

abbrev pub has_nested_variable : ShapeTree → Bool
has_nested_variable (writing control list) = resets_in [] list
has_nested_variable (printing source list) = resets_in [] list
has_nested_variable (initializing sets) = list_any (λ s. resets_in [] s.list) sets
has_nested_variable (logical_if e statement) = has_nested_variable statement
has_nested_variable s = false

-- no INTEGER variable
abbrev pub is_no_counter : Symbols → List ℕ → Bool
is_no_counter r n = not (is_other r n && clash logical_type (r.names.types n))

abbrev pub breaks_loops : Symbols → Around → ItemTree → Bool
breaks_loops r around x =
    list_any (is_no_counter r) (controlled_by x.shape)
    || (list_any (is_one_of around.variables) (variables_set x.shape)
    || has_nested_variable x.shape)

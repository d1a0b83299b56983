-- Implied DOs inside others, and the variables that control loops (ANSI X3.9-1978, 11.10.5 and
-- 12.8.2.3).
use Rattle.std.specs.Prelude.{ℕ, Bool, List, false, ◌||◌}
use Rattle.std.specs.List.{list_any}
use Rattle.meaning.specs.LoopRules.{has_nested_variable, is_no_counter, variables_set}
use Rattle.meaning.specs.declared.syntax.Shape.{Shape}
use Rattle.meaning.specs.Syntax.{ListItemsTree, no_items, more_items, value_item, loop_item}
use Rattle.meaning.specs.Syntax.{ShapeTree, shape_tree}
use Rattle.meaning.specs.Surroundings.{controlled_by, loop_variables}
use Rattle.meaning.specs.Uses.{Symbols, is_one_of}
use Rattle.std.specs.Global.{Vec}
use Rattle.symbols.specs.declared.names.Symbols.{Symbols as Kept}
use Rattle.symbols.specs.SymbolsAt.{symbols_at}
use Rattle.statement_rules.specs.Counters.{counters}

-- an implied DO stands in one that has its variable
abbrev pub stands_in_own : ListItemsTree → Bool
stands_in_own no_items = false
stands_in_own (more_items (value_item e) xs) = stands_in_own xs
stands_in_own (more_items (loop_item ys variable limits) xs) =
    is_one_of (loop_variables ys) variable || (stands_in_own ys || stands_in_own xs)

-- the rule on the variables of loops, by the variables of the DO statements around, in any order
abbrev pub misuses_by : Symbols → List (List ℕ) → ShapeTree → Bool
misuses_by r variables s =
    list_any (is_no_counter r) (controlled_by s)
    || (list_any (is_one_of variables) (variables_set s) || has_nested_variable s)

abbrev pub misuses_one : Kept → List (Vec ℕ) → Shape → Bool
misuses_one r vs s = misuses_by (symbols_at r) (counters vs) (shape_tree s)

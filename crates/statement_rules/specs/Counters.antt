-- The variables of DO statements, kept outermost first.
use Rattle.std.specs.Prelude.{◌≡◌, ℕ, Bool, List, [], ◌∷◌, ◌++◌, map, Option, Some, None}
use Rattle.std.specs.List.{list_any}
use Rattle.std.specs.Borrow.{Bor}
use Rattle.std.specs.Global.{Vec}
use Rattle.meaning.specs.declared.syntax.Item.{Item}
use Rattle.meaning.specs.declared.syntax.ListItems.{ListItems}
use Rattle.meaning.specs.declared.syntax.Shape.{Shape}
use Rattle.meaning.specs.LoopRules.{is_no_counter, variables_set}
use Rattle.meaning.specs.Surroundings.{controlled_by, counted_by, loop_variables}
use Rattle.meaning.specs.Syntax.{list_items_tree, shape_tree}
use Rattle.meaning.specs.Trees.{item_tree}
use Rattle.meaning.specs.Uses.{is_one_of}
use Rattle.symbols.specs.declared.names.Symbols.{Symbols}
use Rattle.symbols.specs.SymbolsAt.{symbols_at}

abbrev pub counters : List (Vec ℕ) → List (List ℕ)
counters vs = map (λ v. v.items) vs

abbrev pub shape_variable : Option (Bor (List ℕ)) → List (List ℕ)
shape_variable None = []
shape_variable (Some n) = n.now ∷ []

-- the variable of a DO statement comes to those around, and goes again
abbrev pub EntersCounter : Shape → List (Vec ℕ) → List (Vec ℕ) → Type 0
EntersCounter s old new = counters new ≡ counters old ++ counted_by (shape_tree s)

abbrev pub LeavesCounter : Item → List (Vec ℕ) → List (Vec ℕ) → Type 0
LeavesCounter x old new =
    (outer : List (List ℕ)) → counters old ≡ outer ++ counted_by (item_tree x).shape → counters new
    ≡ outer

-- one of the variables is that of an implied DO in a list, or is set by a statement
abbrev pub has_one_in : List (Vec ℕ) → ListItems → Bool
has_one_in vs xs = list_any (is_one_of (counters vs)) (loop_variables (list_items_tree xs))

abbrev pub sets_one : List (Vec ℕ) → Shape → Bool
sets_one vs s = list_any (is_one_of (counters vs)) (variables_set (shape_tree s))

-- the variable of an implied DO in a list is none, or that of a DO of a statement
abbrev pub has_none_in : Symbols → ListItems → Bool
has_none_in r xs = list_any (is_no_counter (symbols_at r)) (loop_variables (list_items_tree xs))

abbrev pub counts_by_none_in : Symbols → Shape → Bool
counts_by_none_in r s = list_any (is_no_counter (symbols_at r)) (controlled_by (shape_tree s))

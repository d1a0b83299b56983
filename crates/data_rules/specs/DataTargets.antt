-- What the parts of a DATA statement's list stand for where they are given values.
use Rattle.std.specs.Prelude.{ℕ, Bool, List, Option}
use Rattle.std.specs.Borrow.{Bor}
use Rattle.meaning.specs.declared.syntax.Expr.{Expr}
use Rattle.meaning.specs.declared.syntax.Exprs.{Exprs}
use Rattle.meaning.specs.declared.syntax.ListItem.{ListItem}
use Rattle.meaning.specs.declared.syntax.ListItems.{ListItems}
use Rattle.meaning.specs.Initial.{Target, element_target, targets_in, value_targets, whole_target}
use Rattle.meaning.specs.Syntax.{expr_tree, exprs_tree, list_item_tree, list_items_tree}
use Rattle.meaning.specs.Uses.{is_other}
use Rattle.data_rules.specs.declared.giving.Giving.{Giving}
use Rattle.data_rules.specs.declared.trips.Trips.{Trips}
use Rattle.data_rules.specs.DataGiving.{known_there, symbols_in, stage_of}
use Rattle.data_rules.specs.DataItems.{item_targets, trips_targets}
use Rattle.data_rules.specs.DataSets.{fill_list, stage_by}
use Rattle.data_rules.specs.DataStages.{filled}
use Rattle.data_rules.specs.DataTrips.{trips_by}
use Rattle.data_rules.specs.Filled.{Comes}

-- targets, if there are some, are given the next values
abbrev pub Fills : Option (List Target) → Giving → Giving → Bool → Type 0
Fills o old new = Comes (filled (symbols_in old).names o (stage_of old)) (stage_of new)

-- those of a variable or a whole array, of an element, of an expression
abbrev pub FillsName : Bor (List ℕ) → Giving → Giving → Bool → Type 0
FillsName n old new =
    Fills (whole_target ((symbols_in old).names.arrays n.now) (is_other (symbols_in old) n.now)
    n.now)
    old new

abbrev pub FillsElement : Bor (List ℕ) → Exprs → Giving → Giving → Bool → Type 0
FillsElement n es old new =
    Fills (element_target (symbols_in old).names.types (known_there old)
    ((symbols_in old).names.arrays n.now) n.now (exprs_tree es)) old new

abbrev pub FillsValue : Bor Expr → Giving → Giving → Bool → Type 0
FillsValue e old new =
    Fills (value_targets (symbols_in old) (known_there old) (expr_tree e.now)) old new

-- those of an item, of items, of items trip after trip
abbrev pub FillsItem : Bor ListItem → Giving → Giving → Bool → Type 0
FillsItem x old new =
    Fills (item_targets (symbols_in old) (list_item_tree x.now) (known_there old)) old new

abbrev pub FillsItems : Bor ListItems → Giving → Giving → Bool → Type 0
FillsItems xs old new =
    Fills (targets_in (symbols_in old) (list_items_tree xs.now) (known_there old)) old new

abbrev pub Repeats : Bor ListItems → Bor (List ℕ) → Trips → Giving → Giving → Bool → Type 0
Repeats xs n trips old new =
    Fills (trips_targets (symbols_in old) (list_items_tree xs.now) n.now (known_there old)
    (trips_by trips)) old new

-- those of a whole list, which use up its values
abbrev pub FillsList : Bor ListItems → Giving → Giving → Bool → Type 0
FillsList xs old new =
    Comes (fill_list (symbols_in old) (known_there old) (list_items_tree xs.now) (stage_of old))
    (stage_by new.filling)

-- What the Rust values of a search for labels stand for.
use Rattle.std.specs.Prelude.{ℕ, Bool, ◌&&◌, List}
use Rattle.meaning.specs.declared.syntax.Item.{Item}
use Rattle.meaning.specs.declared.syntax.Tree.{Tree}
use Rattle.meaning.specs.Characters.{number_of}
use Rattle.meaning.specs.LabelRules.{has_label}
use Rattle.meaning.specs.Syntax.{ItemTree}
use Rattle.meaning.specs.Trees.{item_tree, nested}
use Rattle.symbols.specs.declared.names.Symbols.{Symbols}
use Rattle.symbols.specs.Listed.{trees_at}
use Rattle.symbols.specs.SymbolsAt.{symbols_at}
use Rattle.statement_rules.specs.Reached.{is_not_executable}
use Rattle.list_culprits.specs.declared.transfers.Search.{Search}
use Rattle.list_culprits.specs.Seats.{seats_of}
use Rattle.list_culprits.specs.Transfers.{ProgramUnit}

abbrev pub unit_by : Symbols → Tree → ProgramUnit
unit_by r t =
    record { symbols = symbols_at r; seats = seats_of (nested t); all = trees_at r.items.now }

abbrev pub unit_at : Search → ProgramUnit
unit_at s = unit_by s.symbols.now s.unit.now

abbrev pub reach_at : Search → List ItemTree
reach_at s = trees_at s.reach.now

-- a statement behind others isn't executable, and has a label
abbrev pub is_closed_at : Symbols → Item → List ℕ → List ItemTree → Bool
is_closed_at r x label before =
    is_not_executable r x before && has_label (number_of label) (item_tree x)

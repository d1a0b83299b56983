use Rattle.std.proofs.Common.{◌≡◌, ◌++◌, map, take}
use Rattle.std.specs.Prelude.{flat_map}
use Rattle.meaning.specs.Syntax.{data_set_tree}
use Rattle.meaning.specs.Uses.{data_item_sets}
use Rattle.symbols.specs.SymbolsAt.{symbols_at}
use Rattle.name_uses.specs.UsesAt.{uses_at}
use Rattle.name_uses.proofs.statements.add_data_sets.Given as goal

abbrev pub invariant-loop-set : goal.invariant-loop-set
invariant-loop-set l =
    uses_at l.uses.items ≡ uses_at l.initial.uses.items ++ flat_map (λ x. data_item_sets (symbols_at l.symbols) x.list) (map data_set_tree (take l.set-index l.sets))

use Rattle.std.proofs.Common.{◌≡◌, drop, map}
use Rattle.meaning.specs.Syntax.{data_set_tree}
use Rattle.symbols.specs.SymbolsAt.{symbols_at}
use Rattle.declarations.specs.Tables.{known_at}
use Rattle.data_rules.specs.DataSets.{stage_by}
use Rattle.data_culprits.specs.Sets.{to_sets}
use Rattle.data_culprits.proofs.statements.bad_sets.Given as goal

abbrev pub invariant-loop-set : goal.invariant-loop-set
invariant-loop-set l =
    to_sets (symbols_at l.table.symbols.now) (known_at l.table) (map data_set_tree (drop l.set-index l.sets)) (stage_by l.so_far)
    ≡ to_sets (symbols_at l.table.symbols.now) (known_at l.table) (map data_set_tree l.sets) (stage_by l.initial.so_far)

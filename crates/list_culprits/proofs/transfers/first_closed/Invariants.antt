use Rattle.std.proofs.Common.{◌≡◌, [], take, drop}
use Rattle.std.specs.List.{find}
use Rattle.meaning.specs.Characters.{number_of}
use Rattle.meaning.specs.LabelRules.{has_label, not_executable}
use Rattle.symbols.specs.Listed.{trees_at}
use Rattle.symbols.specs.SymbolsAt.{symbols_at}
use Rattle.symbols.specs.Stages.{IsBehind}
use Rattle.list_culprits.proofs.transfers.first_closed.Given as goal

abbrev pub invariant-loop-item : goal.invariant-loop-item
invariant-loop-item l = record {
  stage : IsBehind l.symbols l.stage (trees_at (take l.item-index l.items));
  so_far : find (has_label (number_of l.label)) (not_executable (symbols_at l.symbols) (trees_at (take l.item-index l.items)) (trees_at (drop l.item-index l.items))) ≡ find (has_label (number_of l.label)) (not_executable (symbols_at l.symbols) [] (trees_at l.items));
}

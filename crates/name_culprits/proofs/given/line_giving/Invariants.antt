use Rattle.std.proofs.Common.{◌≡◌, [], take, drop}
use Rattle.symbols.specs.Listed.{trees_at}
use Rattle.symbols.specs.SymbolsAt.{symbols_at}
use Rattle.symbols.specs.Stages.{IsBehind}
use Rattle.name_culprits.specs.Names.{giving_line}
use Rattle.name_culprits.proofs.given.line_giving.Given as goal

abbrev pub invariant-loop-item : goal.invariant-loop-item
invariant-loop-item l = record {
  stage : IsBehind l.symbols l.stage (trees_at (take l.item-index l.before));
  so_far : giving_line (symbols_at l.symbols) l.giving (trees_at (take l.item-index l.before)) (trees_at (drop l.item-index l.before)) l.name ≡ giving_line (symbols_at l.symbols) l.giving [] (trees_at l.before) l.name;
}

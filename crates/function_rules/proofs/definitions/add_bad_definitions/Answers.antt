use Rattle.std.proofs.Common.{[]}
use Rattle.symbols.specs.SymbolsAt.{symbols_at}
use Rattle.symbols.specs.Stages.{IsBehind}
use Rattle.function_rules.specs.Measured.{level_at, nodes_at}
use Rattle.function_rules.proofs.Describing.{described_none, no_level, no_nodes}
use Rattle.function_rules.proofs.definitions.add_bad_definitions.Goals as goal

pub add_told-requires : goal.add_told-requires
add_told-requires c =
    let new = c.new-2.result in
    described_none (symbols_at c.args.symbols.now) (IsBehind c.args.symbols.now c.new.result []) (level_at new) (nodes_at new) (c.new.ensures c.args.symbols.now) (no_level new c.new-2.ensures.empty) (no_nodes new c.new-2.ensures.empty)

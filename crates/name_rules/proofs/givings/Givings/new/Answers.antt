use Rattle.std.proofs.Common.{[]}
use Rattle.symbols.specs.SymbolsAt.{symbols_at}
use Rattle.symbols.specs.Stages.{IsBehind}
use Rattle.name_rules.proofs.GivenMore.{gives_none}
use Rattle.name_rules.proofs.givings.Givings.new.Goals as goal

pub returns-clause-none : goal.returns-clause-none
returns-clause-none c =
    gives_none (IsBehind c.args.symbols.now c.new.result []) (symbols_at c.args.symbols.now) c.new-2.result.keys c.new-3.result.keys c.new-4.result.keys c.new-5.result.keys (c.new.ensures c.args.symbols.now) c.new-2.ensures.empty c.new-3.ensures.empty c.new-4.ensures.empty c.new-5.ensures.empty

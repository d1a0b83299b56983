use Rattle.symbols.specs.SymbolsAt.{symbols_at}
use Rattle.storage.specs.Numbered.{is_variable}
use Rattle.appearances.proofs.numbers.add_variable.Goals as goal

pub returns : goal.returns
returns c = c.add_wanted.ensures (is_variable (symbols_at c.args.symbols.now)) c.is_variable.ensures

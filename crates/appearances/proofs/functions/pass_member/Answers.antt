use Rattle.symbols.specs.SymbolsAt.{symbols_at}
use Rattle.appearances.proofs.Finding.{plain_passes}
use Rattle.appearances.proofs.functions.pass_member.Goals as goal

pub returns-in-Plain : goal.returns-in-Plain
returns-in-Plain c =
    plain_passes (symbols_at c.args.symbols.now).names.arrays c.args.functions.now c.pass_statement.new.functions c.args.at c.args.member c.args.one.now c.in-Plain.item c.in-Plain.is c.pass_statement.result c.pass_statement.ensures

use Rattle.std.proofs.Common.{◌≡◌}
use Rattle.std.specs.Global.{Vec}
use Rattle.symbols.specs.Listed.{trees_at}
use Rattle.symbols.specs.SymbolsAt.{symbols_at}
use Rattle.appearances.specs.Appearing.{variables_at}
use Rattle.storage.specs.Numbered.{named}
use Rattle.cell_names.specs.Cells.{AreApart, are_named}
use Rattle.cell_names.specs.declared.named.Named.{Named}
use Rattle.cell_names.proofs.Once.{apart_by, then_if_ok}
use Rattle.cell_names.proofs.names.names_of.Goals as goal

pub returns-clause-apart : goal.returns-clause-apart
returns-clause-apart c =
    let r = c.in_ok-symbols.symbols in
    then_if_ok (λ (v : Vec Named). are_named v.items ≡ named (symbols_at r).names.arrays (variables_at r)) (λ (v : Vec Named). AreApart (are_named v.items)) c.names_by-names.result (λ v is. apart_by (are_named v.items) (symbols_at r).names.arrays (trees_at r.items.now) is) c.names_by-names.ensures

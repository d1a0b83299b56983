use Rattle.std.proofs.Common.{◌≡◌, drop}
use Rattle.std.specs.List.{find}
use Rattle.meaning.specs.NameRules.{is_real}
use Rattle.symbols.specs.SymbolsAt.{symbols_at}
use Rattle.name_uses.specs.NamesIn.{constant}
use Rattle.culprits.proofs.names.first_constant.Given as goal

abbrev pub invariant-loop-constant : goal.invariant-loop-constant
invariant-loop-constant l =
    find (is_real (symbols_at l.symbols)) (constant (drop l.constant-index l.constants)) ≡ find (is_real (symbols_at l.symbols)) (constant l.constants)

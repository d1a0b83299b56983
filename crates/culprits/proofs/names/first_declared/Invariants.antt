use Rattle.std.proofs.Common.{◌≡◌, drop}
use Rattle.std.specs.List.{find}
use Rattle.meaning.specs.NameRules.{is_real}
use Rattle.symbols.specs.SymbolsAt.{symbols_at}
use Rattle.name_uses.specs.NamesIn.{declared}
use Rattle.culprits.proofs.names.first_declared.Given as goal

abbrev pub invariant-loop-declarator : goal.invariant-loop-declarator
invariant-loop-declarator l =
    find (is_real (symbols_at l.symbols)) (declared (drop l.declarator-index l.declarators)) ≡ find (is_real (symbols_at l.symbols)) (declared l.declarators)

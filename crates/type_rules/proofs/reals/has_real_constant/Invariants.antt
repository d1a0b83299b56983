use Rattle.std.proofs.Common.{◌≡◌, map, drop}
use Rattle.std.specs.List.{list_any}
use Rattle.meaning.specs.NameRules.{is_real}
use Rattle.meaning.specs.Syntax.{ConstantTree, constant_tree}
use Rattle.symbols.specs.SymbolsAt.{symbols_at}
use Rattle.type_rules.proofs.reals.has_real_constant.Given as goal

abbrev pub invariant-loop-constant : goal.invariant-loop-constant
invariant-loop-constant l =
    list_any (is_real (symbols_at l.symbols)) (map (λ (x : ConstantTree). x.name) (map constant_tree (drop l.constant-index l.constants))) ≡ list_any (is_real (symbols_at l.symbols)) (map (λ (x : ConstantTree). x.name) (map constant_tree l.constants))

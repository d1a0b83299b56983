use Rattle.std.proofs.Common.{◌≡◌, map, drop}
use Rattle.std.specs.List.{list_any}
use Rattle.meaning.specs.NameRules.{is_real}
use Rattle.meaning.specs.Syntax.{DeclaratorTree, declarator_tree}
use Rattle.symbols.specs.SymbolsAt.{symbols_at}
use Rattle.type_rules.proofs.reals.has_real_declarator.Given as goal

abbrev pub invariant-loop-declarator : goal.invariant-loop-declarator
invariant-loop-declarator l =
    list_any (is_real (symbols_at l.symbols)) (map (λ (x : DeclaratorTree). x.name) (map declarator_tree (drop l.declarator-index l.declarators))) ≡ list_any (is_real (symbols_at l.symbols)) (map (λ (x : DeclaratorTree). x.name) (map declarator_tree l.declarators))

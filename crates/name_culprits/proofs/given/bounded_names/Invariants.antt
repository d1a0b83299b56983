use Rattle.std.proofs.Common.{◌≡◌, map, take}
use Rattle.std.specs.List.{filter}
use Rattle.meaning.specs.NameRules.{has_bounds}
use Rattle.meaning.specs.Syntax.{DeclaratorTree, declarator_tree}
use Rattle.name_uses.specs.Held.{names_at}
use Rattle.name_culprits.proofs.given.bounded_names.Given as goal

abbrev pub invariant-loop-declarator : goal.invariant-loop-declarator
invariant-loop-declarator l = names_at l.names.items ≡ map (λ (x : DeclaratorTree). x.name) (filter has_bounds (map declarator_tree (take l.declarator-index l.declarators)))

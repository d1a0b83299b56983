use Rattle.std.proofs.Common.{◌≡◌, ◌++◌, map, take, filter}
use Rattle.meaning.specs.NumberRules.{lacks_bound}
use Rattle.meaning.specs.Syntax.{declarator_tree}
use Rattle.declarations.specs.Tables.{known_at, types_in}
use Rattle.data_rules.specs.Lacking.{names_kept}
use Rattle.data_rules.proofs.lacking.add_sizeless.Given as goal

abbrev pub invariant-loop-declarator : goal.invariant-loop-declarator
invariant-loop-declarator l =
    names_kept l.sizeless.items ≡ names_kept l.initial.sizeless.items ++ map (λ d. d.name) (filter (lacks_bound (types_in l.table) (known_at l.table)) (map declarator_tree (take l.declarator-index l.declarators)))

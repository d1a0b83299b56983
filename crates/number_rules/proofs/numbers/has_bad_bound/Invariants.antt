use Rattle.std.proofs.Common.{◌≡◌, map, drop}
use Rattle.meaning.specs.NumberRules.{has_bad_bound}
use Rattle.meaning.specs.Syntax.{declarator_tree}
use Rattle.declarations.specs.Tables.{known_at, types_in}
use Rattle.number_rules.proofs.numbers.has_bad_bound.Given as goal

abbrev pub invariant-loop-declarator : goal.invariant-loop-declarator
invariant-loop-declarator l =
    has_bad_bound (types_in l.table) (known_at l.table) (map declarator_tree (drop l.declarator-index l.declarators)) ≡ has_bad_bound (types_in l.table) (known_at l.table) (map declarator_tree l.declarators)

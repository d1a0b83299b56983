use Rattle.std.proofs.Common.{◌≡◌, map, drop}
use Rattle.std.specs.List.{list_any}
use Rattle.meaning.specs.NumberRules.{is_reversed}
use Rattle.meaning.specs.Scopes.{dimension_of}
use Rattle.meaning.specs.Syntax.{bounds_tree}
use Rattle.declarations.specs.Tables.{known_at, types_in}
use Rattle.number_rules.proofs.sizes.has_reversed.Given as goal

abbrev pub invariant-loop-one : goal.invariant-loop-one
invariant-loop-one l =
    list_any is_reversed (map (dimension_of (types_in l.table) (known_at l.table)) (map bounds_tree (drop l.one-index l.bounds))) ≡ list_any is_reversed (map (dimension_of (types_in l.table) (known_at l.table)) (map bounds_tree l.bounds))

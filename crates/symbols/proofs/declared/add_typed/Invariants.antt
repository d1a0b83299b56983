use Rattle.std.proofs.Common.{◌≡◌, ℕ, List, map, take}
use Rattle.std.specs.Option.{option_or}
use Rattle.meaning.specs.Syntax.{declarator_tree}
use Rattle.meaning.specs.Types.{declared_by, typed_as}
use Rattle.name_maps.specs.Keeping.{kept_at}
use Rattle.symbols.proofs.declared.add_typed.Given as goal

abbrev pub invariant-loop-declarator : goal.invariant-loop-declarator
invariant-loop-declarator l =
    (n : List ℕ) → kept_at l.kept n ≡ option_or (kept_at l.initial.kept n) (declared_by (typed_as l.data_type (map declarator_tree (take l.declarator-index l.declarators))) n)

use Rattle.std.proofs.Common.{◌≡◌, ℕ, List, take}
use Rattle.meaning.specs.Types.{declared_by}
use Rattle.symbols.specs.TypedNames.{typed_names}
use Rattle.name_maps.specs.Keeping.{kept_at}
use Rattle.symbols.specs.Listed.{trees_at}
use Rattle.symbols.proofs.declared.types_declared.Given as goal

abbrev pub invariant-loop-item : goal.invariant-loop-item
invariant-loop-item l =
    (n : List ℕ) → kept_at l.kept n ≡ declared_by (typed_names (trees_at (take l.item-index l.items))) n

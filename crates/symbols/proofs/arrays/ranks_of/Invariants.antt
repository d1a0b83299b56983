use Rattle.std.proofs.Common.{◌≡◌, ℕ, List, take}
use Rattle.name_maps.specs.Keeping.{kept_at}
use Rattle.symbols.specs.Listed.{trees_at}
use Rattle.symbols.specs.RankBy.{declarators_of, rank_by}
use Rattle.symbols.proofs.arrays.ranks_of.Given as goal

abbrev pub invariant-loop-item : goal.invariant-loop-item
invariant-loop-item l =
    (n : List ℕ) → kept_at l.kept n ≡ rank_by (declarators_of (trees_at (take l.item-index l.items))) n

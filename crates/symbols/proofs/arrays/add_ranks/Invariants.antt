use Rattle.std.proofs.Common.{◌≡◌, ℕ, List, map, take}
use Rattle.std.specs.Option.{option_or}
use Rattle.meaning.specs.Syntax.{declarator_tree}
use Rattle.name_maps.specs.Keeping.{kept_at}
use Rattle.symbols.specs.RankBy.{rank_by}
use Rattle.symbols.proofs.arrays.add_ranks.Given as goal

abbrev pub invariant-loop-declarator : goal.invariant-loop-declarator
invariant-loop-declarator l =
    (n : List ℕ) → kept_at l.kept n ≡ option_or (kept_at l.initial.kept n) (rank_by (map declarator_tree (take l.declarator-index l.declarators)) n)

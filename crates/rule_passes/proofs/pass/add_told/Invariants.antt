use Rattle.std.proofs.Common.{◌≡◌, [], ◌++◌, map, take}
use Rattle.meaning.specs.NameRules.{told}
use Rattle.rule_passes.specs.Listed.{tree_at}
use Rattle.rule_passes.proofs.pass.add_told.Given as goal

abbrev pub invariant-loop-item : goal.invariant-loop-item
invariant-loop-item g l =
    (l.pairs.items ≡ l.initial.pairs.items ++ told (g.B.Behind.breaks l.initial.behind) l.rule [] (map tree_at (take l.item-index l.items)))
    × (g.B.Behind.knows l.behind (map tree_at (take l.item-index l.items)))
    × (g.B.Behind.breaks l.behind ≡ g.B.Behind.breaks l.initial.behind)

use Rattle.std.proofs.Common.{take}
use Rattle.std.specs.Prelude.{flat_map}
use Rattle.symbols.specs.Listed.{trees_at}
use Rattle.checker.specs.Entries.{Adds, described, names_given}
use Rattle.checker.proofs.entries.add_all_given.Given as goal

abbrev pub invariant-loop-item : goal.invariant-loop-item
invariant-loop-item l =
    Adds l.initial.entries l.entries (described l.facts l.symbols) (flat_map (λ x. names_given x.shape) (trees_at (take l.item-index l.items)))

use Rattle.std.proofs.Common.{◌≡◌, drop}
use Rattle.std.specs.List.{find}
use Rattle.meaning.specs.Types.{is_implicit_none}
use Rattle.symbols.specs.Listed.{trees_at}
use Rattle.name_culprits.proofs.used.none_line.Given as goal

abbrev pub invariant-loop-item : goal.invariant-loop-item
invariant-loop-item l = find (λ y. is_implicit_none y.shape) (trees_at (drop l.item-index l.before)) ≡ find (λ y. is_implicit_none y.shape) (trees_at l.before)

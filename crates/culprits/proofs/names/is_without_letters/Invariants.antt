use Rattle.std.proofs.Common.{◌≡◌, drop}
use Rattle.meaning.specs.Types.{has_implicit_none}
use Rattle.symbols.specs.Listed.{trees_at}
use Rattle.culprits.proofs.names.is_without_letters.Given as goal

abbrev pub invariant-loop-item : goal.invariant-loop-item
invariant-loop-item l = has_implicit_none (trees_at (drop l.item-index l.symbols.items.now)) ≡ has_implicit_none (trees_at l.symbols.items.now)

use Rattle.std.proofs.Common.{◌≡◌, ℕ, ◌||◌, map, drop}
use Rattle.std.specs.Ordering.{nat_cmp}
use Rattle.std.specs.BTreeSet.{contains}
use Rattle.name_rules.specs.Lettered.{clash_from, letters_at}
use Rattle.name_rules.proofs.letters.clashes.Given as goal

abbrev pub invariant-loop-one : goal.invariant-loop-one
invariant-loop-one l =
    clash_from (λ (c : ℕ). contains nat_cmp l.taken c || contains nat_cmp l.here c) (map letters_at (drop l.one-index l.letters)) ≡ clash_from (contains nat_cmp l.taken) (map letters_at l.letters)

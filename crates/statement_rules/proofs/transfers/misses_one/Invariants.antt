use Rattle.std.proofs.Common.{◌≡◌, drop}
use Rattle.std.specs.List.{list_any}
use Rattle.std.specs.Ordering.{nat_cmp}
use Rattle.std.specs.BTreeSet.{contains}
use Rattle.meaning.specs.Characters.{number_of}
use Rattle.meaning.specs.Surroundings.{Around}
use Rattle.statement_rules.specs.Counted.{count_in}
use Rattle.statement_rules.specs.Reached.{Counts, is_missed}
use Rattle.statement_rules.proofs.transfers.misses_one.Given as goal

abbrev pub invariant-loop-label : goal.invariant-loop-label
invariant-loop-label l =
    (a : Around) → Counts (count_in l.transfers.reach) a.items → list_any (λ x. is_missed (count_in l.transfers.all.now) (contains nat_cmp l.transfers.closed.now) a.items (number_of x.items)) (drop l.label-index l.labels) ≡ list_any (λ x. is_missed (count_in l.transfers.all.now) (contains nat_cmp l.transfers.closed.now) a.items (number_of x.items)) l.labels

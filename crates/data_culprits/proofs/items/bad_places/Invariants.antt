use Rattle.std.proofs.Common.{◌≡◌, ◌-◌, ◌^◌, ℕ, min}
use Rattle.std.specs.List.{range_with_len}
use Rattle.data_rules.specs.DataGiving.{stage_of, symbols_in}
use Rattle.data_culprits.specs.Lists.{next_to_each}
use Rattle.data_culprits.proofs.items.bad_places.Given as goal

abbrev pub invariant-loop-place : goal.invariant-loop-place
invariant-loop-place l = record {
  left : (m : ℕ) → l.count ≡ min m (2 ^ 64 - 1) → next_to_each (symbols_in l.initial.giving).names.types l.name (range_with_len l.place (m - l.place)) (stage_of l.giving) ≡ next_to_each (symbols_in l.initial.giving).names.types l.name (range_with_len 0 m) (stage_of l.initial.giving);
  same : l.giving.scope ≡ l.initial.giving.scope;
}

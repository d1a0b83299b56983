use Rattle.std.proofs.Common.{◌≡◌, map, drop}
use Rattle.list_culprits.specs.Listed.{reach_at, unit_at}
use Rattle.list_culprits.specs.Transfers.{first_told, missed_at}
use Rattle.list_culprits.proofs.transfers.missed_one.Given as goal

abbrev pub invariant-loop-label : goal.invariant-loop-label
invariant-loop-label l =
    first_told (missed_at (unit_at l.search) (reach_at l.search)) (map (λ x. x.items) (drop l.label-index l.labels)) ≡ first_told (missed_at (unit_at l.search) (reach_at l.search)) (map (λ x. x.items) l.labels)

use Rattle.std.proofs.Common.{◌≡◌, drop}
use Rattle.expectations.specs.Expected.{expected_list}
use Rattle.type_culprits.specs.Clashes.{first_in}
use Rattle.type_culprits.specs.Told.{asker_at}
use Rattle.type_culprits.specs.Wants.{names_in}
use Rattle.type_culprits.proofs.clashes.first_mistyped.Given as goal

abbrev pub invariant-loop-one : goal.invariant-loop-one
invariant-loop-one l =
    first_in (names_in l.naming) (asker_at l.asker) (expected_list (drop l.one-index l.expected)) ≡ first_in (names_in l.naming) (asker_at l.asker) (expected_list l.expected)

use Rattle.std.proofs.Common.{◌≡◌, ◌++◌, map, take}
use Rattle.std.specs.Prelude.{flat_map}
use Rattle.meaning.specs.NumberRules.{numbers_in}
use Rattle.expectations.specs.Expected.{expected_at}
use Rattle.name_uses.specs.Held.{names_at}
use Rattle.number_culprits.proofs.great.add_expected.Given as goal

abbrev pub invariant-loop-one : goal.invariant-loop-one
invariant-loop-one l =
    names_at l.found.items ≡ names_at l.initial.found.items ++ flat_map (λ x. numbers_in x.expr) (map expected_at (take l.one-index l.expected))

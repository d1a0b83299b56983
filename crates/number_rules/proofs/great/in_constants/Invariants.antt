use Rattle.std.proofs.Common.{◌≡◌, map, drop}
use Rattle.std.specs.List.{list_any}
use Rattle.meaning.specs.Syntax.{constant_tree}
use Rattle.meaning.specs.Typing.{Names, expected}
use Rattle.number_rules.specs.GreatNumbers.{has_great}
use Rattle.number_rules.proofs.great.in_constants.Given as goal

abbrev pub invariant-loop-constant : goal.invariant-loop-constant
invariant-loop-constant l =
    (names : Names) → list_any has_great (map (λ c. expected (names.types c.name) c.value) (map constant_tree (drop l.constant-index l.constants))) ≡ list_any has_great (map (λ c. expected (names.types c.name) c.value) (map constant_tree l.constants))

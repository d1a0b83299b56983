use Rattle.std.proofs.Common.{◌≡◌, drop}
use Rattle.std.specs.List.{list_any}
use Rattle.engine.specs.Told.{has_name}
use Rattle.engine.proofs.telling.has_rule_named.Given as goal

abbrev pub invariant-loop-pair : goal.invariant-loop-pair
invariant-loop-pair l =
    list_any (λ b. has_name l.name b.rule) (drop l.pair-index l.before) ≡ list_any (λ b. has_name l.name b.rule) l.before

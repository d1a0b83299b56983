use Rattle.std.proofs.Common.{◌≡◌, map, drop}
use Rattle.meaning.specs.Uses.{is_one_of}
use Rattle.data_rules.proofs.lacking.is_sizeless.Given as goal

abbrev pub invariant-loop-one : goal.invariant-loop-one
invariant-loop-one l =
    is_one_of (map (λ n. n.now) (drop l.one-index l.sizeless)) l.name ≡ is_one_of (map (λ n. n.now) l.sizeless) l.name

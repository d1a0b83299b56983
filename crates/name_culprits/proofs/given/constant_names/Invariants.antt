use Rattle.std.proofs.Common.{◌≡◌, map, take}
use Rattle.meaning.specs.Syntax.{ConstantTree, constant_tree}
use Rattle.name_uses.specs.Held.{names_at}
use Rattle.name_culprits.proofs.given.constant_names.Given as goal

abbrev pub invariant-loop-constant : goal.invariant-loop-constant
invariant-loop-constant l = names_at l.names.items ≡ map (λ (x : ConstantTree). x.name) (map constant_tree (take l.constant-index l.constants))

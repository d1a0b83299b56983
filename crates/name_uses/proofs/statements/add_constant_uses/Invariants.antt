use Rattle.std.proofs.Common.{◌≡◌, ◌++◌, map, take}
use Rattle.std.specs.Prelude.{flat_map}
use Rattle.meaning.specs.Syntax.{constant_tree}
use Rattle.meaning.specs.Uses.{uses_in}
use Rattle.name_uses.specs.UsesAt.{uses_at}
use Rattle.name_uses.proofs.statements.add_constant_uses.Given as goal

abbrev pub invariant-loop-constant : goal.invariant-loop-constant
invariant-loop-constant l =
    uses_at l.uses.items ≡ uses_at l.initial.uses.items ++ flat_map (λ c. uses_in c.value) (map constant_tree (take l.constant-index l.constants))

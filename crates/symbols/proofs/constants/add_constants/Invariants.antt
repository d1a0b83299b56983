use Rattle.std.proofs.Common.{◌≡◌, map, take}
use Rattle.meaning.specs.Syntax.{constant_tree}
use Rattle.name_maps.specs.NameSets.{texts, with_names}
use Rattle.symbols.proofs.constants.add_constants.Given as goal

abbrev pub invariant-loop-constant : goal.invariant-loop-constant
invariant-loop-constant l =
    texts l.names.keys ≡ with_names (texts l.initial.names.keys) (map (λ c. c.name) (map constant_tree (take l.constant-index l.constants)))

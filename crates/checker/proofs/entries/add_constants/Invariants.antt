use Rattle.std.proofs.Common.{map, take}
use Rattle.meaning.specs.Syntax.{constant_tree}
use Rattle.checker.specs.Entries.{Adds, described}
use Rattle.checker.proofs.entries.add_constants.Given as goal

abbrev pub invariant-loop-constant : goal.invariant-loop-constant
invariant-loop-constant l =
    Adds l.initial.entries l.entries (described l.facts l.symbols) (map (λ c. c.name) (map constant_tree (take l.constant-index l.constants)))

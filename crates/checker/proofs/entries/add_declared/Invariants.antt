use Rattle.std.proofs.Common.{map, take}
use Rattle.meaning.specs.Syntax.{declarator_tree}
use Rattle.checker.specs.Entries.{Adds, described}
use Rattle.checker.proofs.entries.add_declared.Given as goal

abbrev pub invariant-loop-declarator : goal.invariant-loop-declarator
invariant-loop-declarator l =
    Adds l.initial.entries l.entries (described l.facts l.symbols) (map (λ d. d.name) (map declarator_tree (take l.declarator-index l.declarators)))

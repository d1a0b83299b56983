use Rattle.std.proofs.Common.{◌≡◌, ◌+◌, ℕ, map, take, sum_by}
use Rattle.meaning.specs.Syntax.{declarator_tree}
use Rattle.meaning.specs.NumberRules.{elements_of}
use Rattle.expressions.specs.Places.{capped}
use Rattle.declarations.specs.Tables.{known_at, types_in}
use Rattle.size_culprits.proofs.sizes.with_elements.Given as goal

abbrev pub invariant-loop-declarator : goal.invariant-loop-declarator
invariant-loop-declarator l =
    (n : ℕ) → l.before ≡ capped n → l.elements ≡ capped (n + sum_by (elements_of (types_in l.table) (known_at l.table)) (map declarator_tree (take l.declarator-index l.declarators)))

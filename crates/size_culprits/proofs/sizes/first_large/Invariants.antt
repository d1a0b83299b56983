use Rattle.std.proofs.Common.{◌≡◌, ◌+◌, ℕ, map}
use Rattle.meaning.specs.Syntax.{declarator_tree}
use Rattle.expressions.specs.Places.{capped}
use Rattle.declarations.specs.Tables.{known_at, types_in}
use Rattle.number_rules.proofs.Sizing.{behind}
use Rattle.size_culprits.specs.Sizes.{first_large}
use Rattle.size_culprits.proofs.Stepping.{left_told}
use Rattle.size_culprits.proofs.sizes.first_large.Given as goal

abbrev pub invariant-loop-declarator : goal.invariant-loop-declarator
invariant-loop-declarator l =
    let types = types_in l.table in
    let known = known_at l.table in
    (n : ℕ) → l.before ≡ capped n → (left_told types known (n + behind types known l.declarators l.declarator-index) l.declarators l.declarator-index ≡ first_large types known n (map declarator_tree l.declarators)) × (l.elements ≡ capped (n + behind types known l.declarators l.declarator-index))

use Rattle.std.specs.Prelude.{flat_map}
use Rattle.meaning.specs.Syntax.{declarator_tree}
use Rattle.meaning.specs.Typing.{in_bounds}
use Rattle.meaning.specs.Uses.{uses_in}
use Rattle.symbols.proofs.Passes.{joined_more}
use Rattle.name_uses.proofs.statements.add_declarator_uses.Goals as goal

pub loop-declarator-preserved : goal.loop-declarator-preserved
loop-declarator-preserved c =
    joined_more (λ d. flat_map (λ b. flat_map (λ x. uses_in x.expr) (in_bounds b)) d.bounds) declarator_tree c.args.declarators.now c.loop-declarator.declarator-index c.declarator-item.result _ _ _ c.loop-declarator-test.true c.declarator-item.is c.loop-declarator.invariant c.in_ok-add_bounds_uses.ensures

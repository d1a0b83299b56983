use Rattle.meaning.specs.Syntax.{constant_tree}
use Rattle.meaning.specs.Uses.{uses_in}
use Rattle.symbols.proofs.Passes.{joined_more}
use Rattle.name_uses.proofs.statements.add_constant_uses.Goals as goal

pub loop-constant-preserved : goal.loop-constant-preserved
loop-constant-preserved c =
    joined_more (λ c. uses_in c.value) constant_tree c.args.constants.now c.loop-constant.constant-index c.constant-item.result _ _ _ c.loop-constant-test.true c.constant-item.is c.loop-constant.invariant c.in_ok-add_uses.ensures

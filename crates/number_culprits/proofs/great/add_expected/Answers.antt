use Rattle.std.specs.Prelude.{flat_map}
use Rattle.meaning.specs.NumberRules.{numbers_in}
use Rattle.expectations.specs.Expected.{expected_at}
use Rattle.symbols.proofs.Passes.{joined_more}
use Rattle.number_culprits.proofs.great.add_expected.Goals as goal

pub loop-one-preserved : goal.loop-one-preserved
loop-one-preserved c =
    joined_more (λ x. numbers_in x.expr) expected_at c.args.expected.now c.loop-one.one-index c.one-item.result _ _ _ c.loop-one-test.true c.one-item.is c.loop-one.invariant c.in_ok-add_numbers.ensures

use Rattle.std.proofs.Common.{sym, subst}
use Rattle.ruly_laws.specs.Statements.{IsSmallLabel}
use Rattle.lowering.proofs.Filled.{all_at}
use Rattle.lowering.proofs.statement.targets.Goals as goal

pub target-requires : goal.target-requires
target-requires c =
    subst IsSmallLabel (sym c.deref.ensures.value) (all_at IsSmallLabel (λ l. l.items) c.args.labels.now c.loop-label.label-index c.label-item.result c.loop-label-test.true c.label-item.is c.requires)

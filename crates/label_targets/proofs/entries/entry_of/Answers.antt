use Rattle.std.proofs.Common.{refl, true, false}
use Rattle.label_targets.proofs.Labelled.{block_at}
use Rattle.label_targets.proofs.entries.entry_of.Goals as goal

pub returns-then-heads_arms-clause-exact : goal.returns-then-heads_arms-clause-exact
returns-then-heads_arms-clause-exact c = block_at c.args.label c.args.member.now c.in-Block.block c.in-Block.is c.deref.result.now c.deref.ensures.value true _ c.if-heads_arms.ensures refl

pub returns-then-has_label-3-clause-exact : goal.returns-then-has_label-3-clause-exact
returns-then-has_label-3-clause-exact c = block_at c.args.label c.args.member.now c.in-Block.block c.in-Block.is c.deref.result.now c.deref.ensures.value false true c.if-heads_arms.ensures c.if-has_label-3.ensures

pub returns-else-has_label-3-clause-exact : goal.returns-else-has_label-3-clause-exact
returns-else-has_label-3-clause-exact c = block_at c.args.label c.args.member.now c.in-Block.block c.in-Block.is c.deref.result.now c.deref.ensures.value false false c.if-heads_arms.ensures c.if-has_label-3.ensures

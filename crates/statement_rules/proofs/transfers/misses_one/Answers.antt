use Rattle.std.proofs.Common.{ℕ, Bool, ap, ◌∙◌}
use Rattle.std.specs.Ordering.{nat_cmp}
use Rattle.std.specs.BTreeSet.{contains}
use Rattle.meaning.specs.Characters.{number_of}
use Rattle.statement_rules.specs.Counted.{count_in}
use Rattle.statement_rules.specs.Reached.{is_missed}
use Rattle.rule_passes.proofs.Missing.{any_hit, any_miss}
use Rattle.statement_rules.proofs.transfers.misses_one.Goals as goal

pub returns-then-misses : goal.returns-then-misses
returns-then-misses c = λ a known.
    let missed : ℕ → Bool = is_missed (count_in c.args.transfers.now.all.now) (contains nat_cmp c.args.transfers.now.closed.now) a.items in
    any_hit (λ l. missed (number_of l.items)) c.args.labels.now c.loop-label.label-index c.label-item.result c.loop-label-test.true c.label-item.is (c.if-misses.ensures a known ∙ ap (λ r. missed (number_of r)) c.deref.ensures.value) ∙ c.loop-label.invariant a known

pub loop-label-preserved : goal.loop-label-preserved
loop-label-preserved c = λ a known.
    let missed : ℕ → Bool = is_missed (count_in c.args.transfers.now.all.now) (contains nat_cmp c.args.transfers.now.closed.now) a.items in
    any_miss (λ l. missed (number_of l.items)) c.args.labels.now c.loop-label.label-index c.label-item.result c.loop-label-test.true c.label-item.is (c.if-misses.ensures a known ∙ ap (λ r. missed (number_of r)) c.deref.ensures.value) ∙ c.loop-label.invariant a known

use Rattle.std.proofs.Common.{ℕ, Bool, sym, ap, ◌∙◌}
use Rattle.std.specs.List.{list_any}
use Rattle.std.specs.Ordering.{nat_cmp}
use Rattle.std.specs.BTreeSet.{contains}
use Rattle.meaning.specs.Characters.{number_of}
use Rattle.meaning.specs.LabelRules.{transfers_of}
use Rattle.meaning.specs.Syntax.{shape_tree}
use Rattle.statement_rules.specs.Counted.{count_in}
use Rattle.statement_rules.specs.Reached.{is_missed}
use Rattle.rule_passes.proofs.Missing.{any_one, any_numbers, first_hit, second_hit, third}
use Rattle.statement_rules.proofs.transfers.+transfer_misses.Goals as goal

pub returns-in-GoTo : goal.returns-in-GoTo
returns-in-GoTo t c = λ a known.
    let missed : ℕ → Bool = is_missed (count_in c.args.transfers.now.all.now) (contains nat_cmp c.args.transfers.now.closed.now) a.items in
    any_one missed (number_of c.in-GoTo.label.items) _ (c.misses.ensures a known ∙ ap (λ r. missed (number_of r)) c.deref.ensures.value)
    ∙ ap (λ s. list_any missed (transfers_of (shape_tree s))) (sym c.in-GoTo.is)

pub returns-in-ComputedGoTo : goal.returns-in-ComputedGoTo
returns-in-ComputedGoTo t c = λ a known.
    let missed : ℕ → Bool = is_missed (count_in c.args.transfers.now.all.now) (contains nat_cmp c.args.transfers.now.closed.now) a.items in
    c.misses_one.ensures a known ∙ ap (λ r. list_any (λ l. missed (number_of l.items)) r) c.deref-in-ComputedGoTo.ensures.value ∙ any_numbers missed c.in-ComputedGoTo.labels.items
    ∙ ap (λ s. list_any missed (transfers_of (shape_tree s))) (sym c.in-ComputedGoTo.is)

pub returns-then-misses : goal.returns-then-misses
returns-then-misses t c = λ a known.
    let missed : ℕ → Bool = is_missed (count_in c.args.transfers.now.all.now) (contains nat_cmp c.args.transfers.now.closed.now) a.items in
    first_hit missed (number_of c.in-ArithmeticIf.negative.items) (number_of c.in-ArithmeticIf.zero.items) (number_of c.in-ArithmeticIf.positive.items) (c.if-misses.ensures a known ∙ ap (λ r. missed (number_of r)) c.deref-in-ArithmeticIf.ensures.value)
    ∙ ap (λ s. list_any missed (transfers_of (shape_tree s))) (sym c.in-ArithmeticIf.is)

pub returns-then-misses-2 : goal.returns-then-misses-2
returns-then-misses-2 t c = λ a known.
    let missed : ℕ → Bool = is_missed (count_in c.args.transfers.now.all.now) (contains nat_cmp c.args.transfers.now.closed.now) a.items in
    second_hit missed (number_of c.in-ArithmeticIf.negative.items) (number_of c.in-ArithmeticIf.zero.items) (number_of c.in-ArithmeticIf.positive.items) (c.if-misses.ensures a known ∙ ap (λ r. missed (number_of r)) c.deref-in-ArithmeticIf.ensures.value) (c.if-misses-2.ensures a known ∙ ap (λ r. missed (number_of r)) c.deref-in-ArithmeticIf-2.ensures.value)
    ∙ ap (λ s. list_any missed (transfers_of (shape_tree s))) (sym c.in-ArithmeticIf.is)

pub returns-else-misses-2 : goal.returns-else-misses-2
returns-else-misses-2 t c = λ a known.
    let missed : ℕ → Bool = is_missed (count_in c.args.transfers.now.all.now) (contains nat_cmp c.args.transfers.now.closed.now) a.items in
    third missed (number_of c.in-ArithmeticIf.negative.items) (number_of c.in-ArithmeticIf.zero.items) (number_of c.in-ArithmeticIf.positive.items) _ (c.if-misses.ensures a known ∙ ap (λ r. missed (number_of r)) c.deref-in-ArithmeticIf.ensures.value) (c.if-misses-2.ensures a known ∙ ap (λ r. missed (number_of r)) c.deref-in-ArithmeticIf-2.ensures.value) (c.misses-in-ArithmeticIf-3.ensures a known ∙ ap (λ r. missed (number_of r)) c.deref-in-ArithmeticIf-3.ensures.value)
    ∙ ap (λ s. list_any missed (transfers_of (shape_tree s))) (sym c.in-ArithmeticIf.is)

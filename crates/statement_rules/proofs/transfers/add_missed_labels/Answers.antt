use Rattle.std.proofs.Common.{◌≡◌, ℕ, ◌++◌, ap, ◌∙◌, map}
use Rattle.std.specs.Ordering.{nat_cmp}
use Rattle.std.specs.BTreeSet.{contains}
use Rattle.meaning.specs.declared.refusal.Rule.TheVariants.{K2}
use Rattle.meaning.specs.Surroundings.{Around, in_body, own_items, told_in}
use Rattle.meaning.specs.Trees.{members_tree}
use Rattle.symbols.specs.SymbolsAt.{symbols_at}
use Rattle.statement_rules.specs.Counted.{count_in}
use Rattle.rule_passes.specs.Listed.{tree_at}
use Rattle.statement_rules.specs.Reached.{AddsMissed, Counts}
use Rattle.rule_passes.proofs.Answering.{on_ok_then}
use Rattle.statement_rules.proofs.Labelled.{counts_alone, none_counted, misses_by, misses_is}
use Rattle.statement_rules.proofs.transfers.add_missed_labels.Goals as goal

pub returns : goal.returns
returns c =
    let body = members_tree c.args.members.now in
    let all = map tree_at c.args.items.now in
    let symbols = symbols_at c.args.symbols.now in
    let counts : ℕ → ℕ = count_in c.in_ok-all.all in
    let closed : ℕ → _ = contains nat_cmp c.in_ok-closed.closed in
    let old = c.args.pairs.now.items in
    let new = c.add_in.new.pairs.items in
    on_ok_then
    ((a : Around) → Counts (count_in c.add_list.new.lines) a.items → new ≡ old ++ told_in (misses_by counts closed) K2 a body)
    (AddsMissed c.args.symbols.now c.args.items.now c.args.members.now old new)
    c.add_in.result c.add_in.ensures.told
    (λ told.
    told (in_body body) (counts_alone (count_in c.new-reach.result) (count_in c.add_list.new.lines) (own_items body) (λ s. none_counted c.new-reach.result s c.new-reach.ensures.empty) c.in_ok-add_list.ensures.counted c.in_ok-add_list.ensures.small)
    ∙ ap (λ f. old ++ told_in f K2 (in_body body) body) (misses_is symbols all counts closed c.in_ok-all.ensures c.in_ok-closed.ensures))

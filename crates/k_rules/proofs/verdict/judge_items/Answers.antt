use Rattle.std.proofs.Common.{◌++◌, map, sym, ap, subst, ◌∙◌}
use Rattle.meaning.specs.Refusals.{least}
use Rattle.meaning.specs.Trees.{members_tree, nested}
use Rattle.meaning.specs.Uses.{symbols_of}
use Rattle.symbols.specs.SymbolsAt.{symbols_at}
use Rattle.k_rules.specs.Judged.{rules_but_data}
use Rattle.rule_passes.specs.InOrder.{AreInOrder}
use Rattle.rule_passes.specs.Listed.{tree_at}
use Rattle.k_rules.proofs.Judging.{broken_all, told_by}
use Rattle.k_rules.proofs.verdict.judge_items.Goals as goal

pub facts_of-requires-clause-ordered : goal.facts_of-requires-clause-ordered
facts_of-requires-clause-ordered c = subst AreInOrder (sym c.requires.same) c.requires.ordered

pub returns-clause-exact : goal.returns-clause-exact
returns-clause-exact c =
    let t = nested c.args.tree.now in
    let symbols = c.in_ok-symbols.symbols in
    let all = map tree_at symbols.items.now in
    let ys = ap (map tree_at) c.in_ok-symbols.ensures ∙ c.requires.same in
    told_by t c.facts_of.result _ (broken_all t (symbols_at symbols) (map tree_at c.args.items.now) all c.least_of.result (ap symbols_of ys) c.requires.same ys
    (c.least_of.ensures ∙ ap least (c.deref-2.ensures.value ∙ c.in_ok-formats.ensures.told ∙ ap (λ bs. bs ++ rules_but_data (symbols_at symbols) all (members_tree c.deref.result.now)) c.new-pairs.ensures.items)
    ∙ ap (λ ms. least (rules_but_data (symbols_at symbols) all (members_tree ms))) c.deref.ensures.value)) c.facts_of.ensures.exact

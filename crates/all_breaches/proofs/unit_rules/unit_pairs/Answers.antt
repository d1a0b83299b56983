use Rattle.std.proofs.Common.{map, ap, ◌∙◌}
use Rattle.meaning.specs.Trees.{members_tree, nested}
use Rattle.rule_passes.specs.Listed.{tree_at}
use Rattle.all_breaches.proofs.UnitPairs.{found_at, unit_same}
use Rattle.all_breaches.proofs.unit_rules.unit_pairs.Goals as goal

pub returns : goal.returns
returns c =
    unit_same (nested c.args.tree.now) c.in_ok-pairs.pairs.items (c.in_ok-pairs.ensures ∙ found_at (nested c.args.tree.now) (ap (map tree_at) c.deref.ensures.value ∙ c.in_ok-items.ensures) (ap members_tree c.deref-2.ensures.value))

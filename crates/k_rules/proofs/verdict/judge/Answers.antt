use Rattle.std.proofs.Common.{map, ap, ◌∙◌}
use Rattle.rule_passes.specs.Listed.{tree_at}
use Rattle.k_rules.proofs.verdict.judge.Goals as goal

pub judge_items-requires-clause-same : goal.judge_items-requires-clause-same
judge_items-requires-clause-same c = ap (map tree_at) c.deref.ensures.value ∙ c.in_ok-items.ensures

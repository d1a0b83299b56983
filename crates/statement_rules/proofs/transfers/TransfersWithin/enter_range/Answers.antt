use Rattle.meaning.specs.Surroundings.{own_items}
use Rattle.meaning.specs.Trees.{members_tree}
use Rattle.statement_rules.specs.Counted.{count_in}
use Rattle.rule_passes.proofs.Both.{both_ok}
use Rattle.statement_rules.proofs.Counting.{counts_more}
use Rattle.statement_rules.proofs.transfers.TransfersWithin.enter_range.Goals as goal

pub returns-clause-knows : goal.returns-clause-knows
returns-clause-knows c =
    both_ok c.add_list.result c.add_list.ensures.counted c.add_list.ensures.small (λ counted small a known. counts_more (count_in c.args.self.now.reach) (count_in c.add_list.new.lines) (own_items (members_tree c.args.range.now)) a.items counted small known)

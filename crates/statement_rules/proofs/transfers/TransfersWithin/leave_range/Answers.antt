use Rattle.meaning.specs.Surroundings.{own_items}
use Rattle.meaning.specs.Trees.{members_tree}
use Rattle.statement_rules.specs.Counted.{count_in}
use Rattle.statement_rules.proofs.Counting.{counts_less}
use Rattle.statement_rules.proofs.transfers.TransfersWithin.leave_range.Goals as goal

pub returns-clause-knows : goal.returns-clause-knows
returns-clause-knows c =
    λ a known. counts_less (count_in c.args.self.now.reach) (count_in c.take_list.new.lines) (own_items (members_tree c.args.range.now)) a.items c.take_list.ensures known

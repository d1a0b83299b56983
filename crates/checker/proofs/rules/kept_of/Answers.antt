use Rattle.meaning.specs.Trees.{nested}
use Rattle.rule_laws.proofs.Lines.{unit_in_order}
use Rattle.checker.proofs.rules.kept_of.Goals as goal

pub judge-requires : goal.judge-requires
judge-requires c = unit_in_order c.requires.source (nested c.args.tree.now) c.requires.spells

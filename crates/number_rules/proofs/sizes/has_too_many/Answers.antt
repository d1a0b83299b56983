use Rattle.meaning.specs.NumberRules.{elements_of}
use Rattle.meaning.specs.Syntax.{declarator_tree}
use Rattle.declarations.specs.Tables.{known_at, types_in}
use Rattle.number_rules.proofs.CappedBy.{above_sum}
use Rattle.number_rules.proofs.sizes.has_too_many.Goals as goal

pub returns : goal.returns
returns c =
    λ n is. above_sum n (elements_of (types_in c.args.table.now) (known_at c.args.table.now) (declarator_tree c.args.declarator.now)) c.args.before _ _ is c.elements_of.ensures c.saturating_add.ensures

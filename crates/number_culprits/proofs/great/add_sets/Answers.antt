use Rattle.std.proofs.Common.{◌++◌, map, ap, ◌∙◌}
use Rattle.std.specs.Prelude.{flat_map}
use Rattle.meaning.specs.NumberRules.{in_data_value}
use Rattle.meaning.specs.Syntax.{data_set_tree, data_value_tree}
use Rattle.name_uses.specs.Held.{names_at}
use Rattle.symbols.proofs.Passes.{joined_more}
use Rattle.number_culprits.proofs.great.add_sets.Goals as goal

pub loop-set-preserved : goal.loop-set-preserved
loop-set-preserved c =
    joined_more (λ s. flat_map in_data_value s.values) data_set_tree c.args.sets.now c.loop-set.set-index c.set-item.result _ _ _ c.loop-set-test.true c.set-item.is c.loop-set.invariant (c.in_ok-add_values.ensures ∙ ap (λ vs. names_at c.loop-set.found.items ++ flat_map in_data_value (map data_value_tree vs)) c.deref.ensures.value)

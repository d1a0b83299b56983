use Rattle.std.proofs.Common.{[], ◌∷◌, map, ap, ◌∙◌}
use Rattle.meaning.specs.Syntax.{constant_tree}
use Rattle.name_maps.specs.NameSets.{texts, with_name}
use Rattle.symbols.proofs.Valued.{constant_law}
use Rattle.symbols.proofs.Passes.{names_more}
use Rattle.symbols.proofs.constants.add_constants.Goals as goal

pub loop-constant-preserved : goal.loop-constant-preserved
loop-constant-preserved c =
    names_more (λ cs. map (λ x. x.name) (map constant_tree cs)) (λ x. x.name.items ∷ []) constant_law c.args.constants.now c.loop-constant.constant-index c.constant-item.result _ _ _ c.loop-constant-test.true c.constant-item.is c.loop-constant.invariant (c.in_ok-add_name.ensures ∙ ap (with_name (texts c.loop-constant.names.keys)) c.deref.ensures.value)

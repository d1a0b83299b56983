use Rattle.std.proofs.Common.{map, ap, ◌∙◌}
use Rattle.std.specs.Option.{option_or}
use Rattle.meaning.specs.Syntax.{declarator_tree}
use Rattle.meaning.specs.Types.{declared_by, typed_as}
use Rattle.name_maps.specs.Keeping.{kept_at}
use Rattle.symbols.proofs.Firsts.{first_more, if_named, or_nothing, typed_law}
use Rattle.symbols.proofs.declared.add_typed.Goals as goal

pub loop-declarator-init : goal.loop-declarator-init
loop-declarator-init c = λ n. or_nothing (kept_at c.args.kept.now n)

pub loop-declarator-preserved : goal.loop-declarator-preserved
loop-declarator-preserved c =
    let k = c.args.data_type in
    λ n. first_more (λ ds. declared_by (typed_as k (map declarator_tree ds)) n) (λ d. if_named d.name.items k n) (typed_law k n) c.args.declarators.now c.loop-declarator.declarator-index c.declarator-item.result _ _ _ c.loop-declarator-test.true c.declarator-item.is (c.loop-declarator.invariant n) (c.in_ok-add_first.ensures n ∙ ap (λ x. option_or (kept_at c.loop-declarator.kept n) (if_named x k n)) c.deref.ensures.value)

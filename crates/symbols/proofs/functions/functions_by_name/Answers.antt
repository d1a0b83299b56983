use Rattle.std.proofs.Common.{None, map, option_map, ap, ◌∙◌}
use Rattle.symbols.specs.Functions.{definition_at, definition_named}
use Rattle.name_maps.specs.Keeping.{kept_at}
use Rattle.symbols.proofs.Firsts.{first_more, if_named}
use Rattle.symbols.proofs.Defining.{definition_law, map_or}
use Rattle.symbols.proofs.functions.functions_by_name.Goals as goal

pub loop-function-preserved : goal.loop-function-preserved
loop-function-preserved c =
    let f = c.function-item.result in
    λ n. first_more (λ fs. definition_named (map definition_at fs) n) (λ g. if_named g.name.now (definition_at g) n) (definition_law n) c.args.functions.now c.loop-function.function-index f None _ _ c.loop-function-test.true c.function-item.is (c.loop-function.invariant n) (ap (option_map definition_at) (c.in_ok-add_first.ensures n) ∙ map_or definition_at (kept_at c.loop-function.kept n) f.name.now f n)

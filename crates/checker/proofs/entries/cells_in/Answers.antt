use Rattle.std.proofs.Common.{rules, ◌≡◌, ◌+◌, get_or, map, pos, refl, sym, take, ap, ◌∙◌}
use Rattle.std.proofs.lemmas.List.{take-map}
use Rattle.meaning.specs.Arrays.{size}
use Rattle.expressions.specs.declared.dimension.Dimension.{Dimension}
use Rattle.expressions.specs.Dimensions.{dimension}
use Rattle.checker.proofs.Entering.{size_more}
use Rattle.checker.proofs.Room.{counts}
use Rattle.checker.proofs.entries.cells_in.Goals as goal

pub loop-one-preserved : goal.loop-one-preserved
loop-one-preserved c =
    let ds = c.args.dimensions.now in
    let i = c.loop-one.one-index in
    let x : Dimension = get_or ds i (record { lower = pos 0; upper = pos 0 }) in
    let is : x ≡ get_or ds i x = search rules in
    size_more ds i x c.loop-one.found _ _ c.loop-one-test.true is c.loop-one.invariant c.extent.ensures refl

pub overflow_mul-found : goal.overflow_mul-found
overflow_mul-found c =
    let ds = c.args.dimensions.now in
    let i = c.loop-one.one-index in
    let x : Dimension = get_or ds i (record { lower = pos 0; upper = pos 0 }) in
    let is : x ≡ get_or ds i x = search rules in
    let found = size_more ds i x c.loop-one.found _ _ c.loop-one-test.true is c.loop-one.invariant c.extent.ensures refl in
    record { fits = counts (map dimension ds) (i + 1) _ c.requires (found ∙ ap size (sym (take-map dimension (i + 1) ds))) }

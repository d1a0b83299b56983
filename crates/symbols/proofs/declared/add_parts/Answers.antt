use Rattle.std.proofs.Common.{map, ap, ◌∙◌}
use Rattle.std.proofs.lemmas.List.{map-append}
use Rattle.meaning.specs.Syntax.{implicit_tree}
use Rattle.symbols.specs.TypedNames.{part_at}
use Rattle.symbols.proofs.Passes.{pushed_more}
use Rattle.symbols.proofs.declared.add_parts.Goals as goal

pub loop-part-preserved : goal.loop-part-preserved
loop-part-preserved c =
    let added = ap (map part_at) c.in_ok-push.ensures.items ∙ map-append part_at c.loop-part.found.items _ in
    pushed_more implicit_tree c.args.parts.now c.loop-part.part-index c.part-item.result _ _ _ c.loop-part-test.true c.part-item.is c.loop-part.invariant added

use Rattle.std.proofs.Common.{get_or, map, ap, ◌∙◌}
use Rattle.std.proofs.lemmas.List.{map-append}
use Rattle.meaning.specs.Syntax.{letters_tree}
use Rattle.symbols.proofs.Passes.{pushed_more}
use Rattle.name_rules.specs.Lettered.{letters_at}
use Rattle.name_rules.proofs.Lettering.{letterless}
use Rattle.name_uses.proofs.Seeing.{read_is}
use Rattle.name_rules.proofs.letters.add_letters.Goals as goal

pub loop-one-preserved : goal.loop-one-preserved
loop-one-preserved c =
    let added = ap (map letters_at) c.in_ok-push.ensures.items ∙ map-append letters_at c.loop-one.found.items _ in
    let letters = c.args.letters.now in
    let i = c.loop-one.one-index in
    pushed_more letters_tree letters i (get_or letters i letterless) _ _ _ c.loop-one-test.true (read_is letters i letterless c.loop-one-test.true) c.loop-one.invariant added

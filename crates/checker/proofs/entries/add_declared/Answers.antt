use Rattle.std.proofs.Common.{[], ◌∷◌, subst}
use Rattle.meaning.specs.Syntax.{declarator_tree}
use Rattle.checker.specs.Entries.{Adds, described}
use Rattle.checker.proofs.Entering.{adds_both, adds_none, adds_same, names_more}
use Rattle.checker.proofs.entries.add_declared.Goals as goal

pub loop-declarator-init : goal.loop-declarator-init
loop-declarator-init c = adds_none c.args.entries.now (described c.args.facts.now c.args.symbols.now)

pub loop-declarator-preserved : goal.loop-declarator-preserved
loop-declarator-preserved c =
    let f = described c.args.facts.now c.args.symbols.now in
    let d = c.declarator-item.result in
    let one = subst (λ n. Adds c.loop-declarator.entries c.add_described.new.entries f (n ∷ [])) c.deref.ensures.value c.in_ok-add_described.ensures in
    adds_same c.args.entries.now c.add_described.new.entries f _ _ (names_more declarator_tree (λ x. x.name) c.args.declarators.now c.loop-declarator.declarator-index d c.loop-declarator-test.true c.declarator-item.is)
    (adds_both c.args.entries.now c.loop-declarator.entries c.add_described.new.entries f _ _ c.loop-declarator.invariant one)

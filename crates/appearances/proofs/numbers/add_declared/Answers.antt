use Rattle.std.proofs.Common.{[], ◌∷◌, ap, ◌∙◌}
use Rattle.meaning.specs.Syntax.{declarator_tree}
use Rattle.name_maps.specs.NameSets.{texts}
use Rattle.symbols.specs.SymbolsAt.{symbols_at}
use Rattle.storage.specs.Numbered.{with_variables}
use Rattle.appearances.proofs.Appearance.{variables_more}
use Rattle.appearances.proofs.numbers.add_declared.Goals as goal

pub loop-declarator-preserved : goal.loop-declarator-preserved
loop-declarator-preserved c =
    variables_more (symbols_at c.args.symbols.now) declarator_tree (λ d. d.name) c.args.declarators.now c.loop-declarator.declarator-index c.declarator-item.result _ _ _ c.loop-declarator-test.true c.declarator-item.is c.loop-declarator.invariant (c.in_ok-add_variable.ensures ∙ ap (λ n. with_variables (symbols_at c.args.symbols.now) (texts c.loop-declarator.names.keys) (n ∷ [])) c.deref.ensures.value)

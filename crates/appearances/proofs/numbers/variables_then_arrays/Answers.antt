use Rattle.std.proofs.Common.{[], ◌∷◌, ap, sym, ◌∙◌}
use Rattle.meaning.specs.Uses.{is_array, is_other}
use Rattle.name_maps.specs.NameSets.{texts}
use Rattle.symbols.specs.SymbolsAt.{symbols_at}
use Rattle.storage.specs.Numbered.{with_those}
use Rattle.appearances.proofs.Appearance.{text_more}
use Rattle.appearances.proofs.numbers.variables_then_arrays.Goals as goal

pub variables-preserved : goal.variables-preserved
variables-preserved c =
    let test = is_other (symbols_at c.args.symbols.now) in
    let name = c.deref-in-variables.ensures.value in
    let wanted = c.is_other_name.ensures ∙ ap test (c.deref.ensures.value ∙ sym name) in
    text_more test c.args.names.now c.variables.name-index c.name-item.result _ _ _ c.variables-test.true c.name-item.is c.variables.invariant (c.in_ok-add_wanted.ensures test wanted ∙ ap (λ n. with_those test (texts c.variables.ordered.keys) (n ∷ [])) name)

pub arrays-preserved : goal.arrays-preserved
arrays-preserved c =
    let test = is_array (symbols_at c.args.symbols.now) in
    let name = c.deref-in-arrays-2.ensures.value in
    let wanted = c.is_array_name.ensures ∙ ap test (c.deref-in-arrays.ensures.value ∙ sym name) in
    text_more test c.args.names.now c.arrays.name-index c.name-item-in-arrays.result _ _ _ c.arrays-test.true c.name-item-in-arrays.is c.arrays.invariant (c.in_ok-add_wanted-2.ensures test wanted ∙ ap (λ n. with_those test (texts c.arrays.ordered.keys) (n ∷ [])) name)

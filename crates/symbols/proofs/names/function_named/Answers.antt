use Rattle.std.proofs.Common.{option_map, sym, ap, ◌∙◌}
use Rattle.std.specs.Option.{option_copied}
use Rattle.meaning.specs.Scopes.{arrays_of, definitions_of}
use Rattle.symbols.specs.declared.functions.Function.{Function}
use Rattle.symbols.specs.Functions.{dummies_at}
use Rattle.symbols.specs.Listed.{trees_at}
use Rattle.symbols.proofs.Defining.{dummies_found}
use Rattle.symbols.proofs.names.function_named.Goals as goal

pub returns-in-Some-clause-dummies : goal.returns-in-Some-clause-dummies
returns-in-Some-clause-dummies c =
    let symbols = c.args.symbols.now in
    let all = trees_at symbols.items.now in
    ap (λ o. option_map (λ (f : Function). dummies_at f.dummies) (option_copied o)) (sym c.in-Some.is)
    ∙ dummies_found (option_copied c.get.result) _ (definitions_of (arrays_of all) all) c.args.name.now c.get.ensures.value (symbols.named c.args.name.now)

pub returns-in-None-clause-dummies : goal.returns-in-None-clause-dummies
returns-in-None-clause-dummies c =
    let symbols = c.args.symbols.now in
    let all = trees_at symbols.items.now in
    ap (λ o. option_map (λ (f : Function). dummies_at f.dummies) (option_copied o)) (sym c.in-None.is)
    ∙ dummies_found (option_copied c.get.result) _ (definitions_of (arrays_of all) all) c.args.name.now c.get.ensures.value (symbols.named c.args.name.now)

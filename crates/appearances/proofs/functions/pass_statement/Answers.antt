use Rattle.std.proofs.Common.{option_map, ap, refl, inl, inr, sym, ◌∙◌}
use Rattle.meaning.specs.Scopes.{arrays_of, defined_by, is_specification}
use Rattle.meaning.specs.Syntax.{shape_tree}
use Rattle.symbols.specs.Functions.{definition_at}
use Rattle.symbols.specs.Listed.{trees_at}
use Rattle.appearances.proofs.functions.pass_statement.Goals as goal

pub returns-in_ok-add_first-in-Some : goal.returns-in_ok-add_first-in-Some
returns-in_ok-add_first-in-Some c =
    let shape = shape_tree c.args.item.now.form.shape.value in
    let same = ap (λ xs. defined_by (arrays_of (trees_at xs)) shape) c.args.symbols.now.ranked in
    inr (record { definition = definition_at c.in-Some.function; some = sym (ap (option_map definition_at) c.in-Some.is) ∙ c.defined_by.ensures ∙ ap (λ s. defined_by (arrays_of (trees_at c.args.symbols.now.ranks.items.now)) (shape_tree s)) c.deref-shape.ensures ∙ same; more = refl; added = c.in_ok-add_first-in-Some.ensures })

pub returns-then-is_specification : goal.returns-then-is_specification
returns-then-is_specification c =
    let shape = shape_tree c.args.item.now.form.shape.value in
    let same = ap (λ xs. defined_by (arrays_of (trees_at xs)) shape) c.args.symbols.now.ranked in
    inl (record { none = sym (ap (option_map definition_at) c.in-None.is) ∙ c.defined_by.ensures ∙ ap (λ s. defined_by (arrays_of (trees_at c.args.symbols.now.ranks.items.now)) (shape_tree s)) c.deref-shape.ensures ∙ same; passes = sym (c.is_specification.ensures ∙ ap (λ s. is_specification (shape_tree s)) c.deref-shape.ensures) ∙ c.if-is_specification.true; same = refl; stays = refl })

use Rattle.meaning.specs.Scopes.{defined_by, is_specification}
use Rattle.meaning.specs.Syntax.{shape_tree}
use Rattle.std.proofs.Common.{◌+◌, ◌++◌, drop, map, option_map, sym, ap, ◌∙◌}
use Rattle.std.proofs.lemmas.List.{map-append}
use Rattle.meaning.specs.Scopes.{definitions_of}
use Rattle.symbols.specs.Functions.{definition_at}
use Rattle.symbols.specs.Listed.{trees_at}
use Rattle.symbols.specs.RanksAt.{arrays_at}
use Rattle.symbols.proofs.Defining.{all_passed, ended, none_defined, one_defined}
use Rattle.symbols.proofs.functions.functions_of.Goals as goal
use Rattle.symbols.proofs.functions.functions_of.Goals.{in-Some+in_ok-push-in-Some, in-None+else-not-is_specification}

pub returns-then-not-is_specification : goal.returns-then-not-is_specification
returns-then-not-is_specification c =
    let arrays = arrays_at c.args.ranks.now in
    ended arrays c.args.items.now c.loop-item.item-index c.item-item.result c.loop-item-test.true c.item-item.is _ _ (ap (option_map definition_at) (sym c.in-None.is) ∙ c.defined_by.ensures ∙ ap (λ s. defined_by arrays (shape_tree s)) c.deref-shape.ensures) (sym (c.is_specification.ensures ∙ ap (λ s. is_specification (shape_tree s)) c.deref-shape.ensures) ∙ c.if-not-is_specification.true) c.loop-item.invariant

pub loop-item-preserved : goal.loop-item-preserved
loop-item-preserved c =
    let arrays = arrays_at c.args.ranks.now in
    elim c.match-defined_by.branch [
      | in-Some+in_ok-push-in-Some w ↦
          one_defined arrays c.args.items.now c.loop-item.item-index c.item-item.result c.loop-item-test.true c.item-item.is _ _ _ _ (ap (option_map definition_at) (sym w.in-Some.is) ∙ c.defined_by.ensures ∙ ap (λ s. defined_by arrays (shape_tree s)) c.deref-shape.ensures) (ap (λ v. map definition_at v.items) w.found-is ∙ ap (map definition_at) w.in_ok-push-in-Some.ensures.items ∙ map-append definition_at c.loop-item.found.items _) c.loop-item.invariant
      | in-None+else-not-is_specification w ↦
          ap (λ v. map definition_at v.items ++ definitions_of arrays (trees_at (drop (c.loop-item.item-index + 1) c.args.items.now))) w.found-is
          ∙ none_defined arrays c.args.items.now c.loop-item.item-index c.item-item.result c.loop-item-test.true c.item-item.is _ _ (ap (option_map definition_at) (sym w.in-None.is) ∙ c.defined_by.ensures ∙ ap (λ s. defined_by arrays (shape_tree s)) c.deref-shape.ensures) (sym (w.is_specification.ensures ∙ ap (λ s. is_specification (shape_tree s)) c.deref-shape.ensures) ∙ w.if-not-is_specification.false) c.loop-item.invariant
    ]

pub returns : goal.returns
returns c =
    all_passed (arrays_at c.args.ranks.now) c.args.items.now c.loop-item.item-index _ _ c.loop-item-test.false c.loop-item.invariant

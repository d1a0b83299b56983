use Rattle.std.proofs.Common.{◌||◌, sym, ap, ◌∙◌}
use Rattle.std.specs.List.{list_any}
use Rattle.meaning.specs.NumberRules.{data_numbers, is_too_great}
use Rattle.meaning.specs.Syntax.{shape_tree}
use Rattle.meaning.specs.Typing.{expected_in}
use Rattle.number_rules.proofs.GreatParts.{great_joined}
use Rattle.number_rules.proofs.great.has_too_great.Goals as goal

pub returns-then-in_expressions : goal.returns-then-in_expressions
returns-then-in_expressions c = λ symbols.
    let s = shape_tree c.args.shape.now in
    c.if-in_expressions.true ∙ ap (λ b. b || list_any is_too_great (data_numbers s)) (sym c.if-in_expressions.true ∙ c.in_expressions.ensures symbols.names)
    ∙ sym (great_joined (expected_in symbols.names s) (data_numbers s))

pub returns-else-in_expressions : goal.returns-else-in_expressions
returns-else-in_expressions c = λ symbols.
    let s = shape_tree c.args.shape.now in
    c.in_data.ensures ∙ ap (λ b. b || list_any is_too_great (data_numbers s)) (sym c.if-in_expressions.false ∙ c.in_expressions.ensures symbols.names)
    ∙ sym (great_joined (expected_in symbols.names s) (data_numbers s))

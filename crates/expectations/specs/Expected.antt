-- Expressions behind references, with the types that their places ask for.
use Rattle.std.specs.Prelude.{List, map}
use Rattle.meaning.specs.Syntax.{expr_tree}
use Rattle.meaning.specs.Typing.{Expected}
use Rattle.expectations.specs.declared.expected.Expectation.{Expectation}

abbrev pub expected_at : Expectation → Expected
expected_at x = record { data_type = x.data_type; expr = expr_tree x.expression.now }

abbrev pub expected_list : List Expectation → List Expected
expected_list xs = map expected_at xs

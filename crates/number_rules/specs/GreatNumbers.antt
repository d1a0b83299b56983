-- Integer constants in what a statement says.
use Rattle.std.specs.Prelude.{ℕ, Bool, true, List, map, flat_map, Option, option_map}
use Rattle.std.specs.List.{list_any}
use Rattle.meaning.specs.declared.syntax.DataSet.{DataSet}
use Rattle.meaning.specs.declared.syntax.DataValue.{DataValue}
use Rattle.meaning.specs.declared.syntax.Declarator.{Declarator}
use Rattle.meaning.specs.declared.syntax.Expr.{Expr}
use Rattle.meaning.specs.declared.syntax.Exprs.{Exprs}
use Rattle.meaning.specs.declared.syntax.NamedConstant.{NamedConstant}
use Rattle.meaning.specs.declared.syntax.RepeatCount.{RepeatCount}
use Rattle.meaning.specs.declared.syntax.Shape.{Shape}
use Rattle.meaning.specs.NumberRules.{in_data_value, in_repeat, is_too_great, numbers_in}
use Rattle.meaning.specs.Scopes.{listed}
use Rattle.meaning.specs.Syntax.{constant_tree, data_set_tree, data_value_tree, declarator_tree}
use Rattle.meaning.specs.Syntax.{expr_tree, exprs_tree, repeat_tree, shape_tree}
use Rattle.meaning.specs.Typing.{Expected, Names, SomeType, expected, expected_in, in_bounds}
use Rattle.meaning.specs.Typing.{in_items, integer_type, option_list}

-- one of those in an expression is too great
abbrev pub has_great : Expected → Bool
has_great x = list_any is_too_great (numbers_in x.expr)

-- one of those in some expressions, or of some digits, is
abbrev pub any_great : List Expected → Bool
any_great xs = list_any has_great xs

abbrev pub any_too_great : List (List ℕ) → Bool
any_too_great ns = list_any is_too_great ns

-- the expressions in the parts of statements
abbrev pub of_subscripts : SomeType → Exprs → List Expected
of_subscripts k es = map (expected k) (listed (exprs_tree es))

abbrev pub of_option : Option Expr → List Expected
of_option e = map (expected integer_type) (option_list (option_map expr_tree e))

abbrev pub of_declarator : Declarator → List Expected
of_declarator d = flat_map in_bounds (declarator_tree d).bounds

abbrev pub of_declarators : List Declarator → List Expected
of_declarators ds = flat_map (λ d. flat_map in_bounds d.bounds) (map declarator_tree ds)

abbrev pub of_constants : Names → List NamedConstant → List Expected
of_constants ns cs = map (λ c. expected (ns.types c.name) c.value) (map constant_tree cs)

abbrev pub of_lists : List DataSet → List Expected
of_lists sets = flat_map (λ x. in_items true x.list) (map data_set_tree sets)

-- those of a statement
abbrev pub of_shape : Names → Shape → List Expected
of_shape ns s = expected_in ns (shape_tree s)

-- the digits in the values of DATA statements
abbrev pub of_count : Option RepeatCount → List (List ℕ)
of_count n = flat_map in_repeat (option_list (option_map repeat_tree n))

abbrev pub of_values : List DataValue → List (List ℕ)
of_values vs = flat_map in_data_value (map data_value_tree vs)

abbrev pub of_sets : List DataSet → List (List ℕ)
of_sets sets = flat_map (λ s. flat_map in_data_value s.values) (map data_set_tree sets)

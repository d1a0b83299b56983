-- Worked examples: the definitions compute what the rules say.
use Rattle.std.proofs.Common.{◌≡◌, ℕ, List, [], ◌∷◌, Some, None, Err, pos, negsuc, refl, false, true}
use Rattle.std.specs.Prelude.{codes}
use Rattle.std.specs.Fmt.{digits}
use Rattle.meaning.specs.declared.syntax.Sign.TheVariants as signs
use Rattle.meaning.specs.declared.syntax.Operator.TheVariants as operators
use Rattle.meaning.specs.declared.syntax.Kind.TheVariants as kinds
use Rattle.meaning.specs.declared.refusal.Rule.TheVariants.{C3, C4, C5, C6, G1, G2}
use Rattle.meaning.specs.declared.ending.Ending.{Ending}
use Rattle.meaning.specs.declared.ending.Ending.TheVariants as endings
use Rattle.meaning.specs.Syntax.{number, name, signed, binary, paren, no_exprs, assignment, doing}
use Rattle.meaning.specs.Answers.{answer, program_of, members_of, run_of, message_at}
use Rattle.meaning.specs.Statements.{statements_of, statements_in, groups}
use Rattle.meaning.specs.Lines.{lines_of, pieces, without_return, card, statement_lines}
use Rattle.meaning.specs.Characters.{is_name}
use Rattle.meaning.specs.BareText.{bare, bare_behind}
use Rattle.meaning.specs.Reading.{going_of, printing_of, quoted_at as quoted_text_at, list_behind_comma, read_shape, shape_of, shape_by, simple_by, value_of, target_of, assignment_of, writing_of, format_of, alone_of, before_last_parenthesis, range_label_at, doing_of, doing_while_of, declarators_of, typing_of, declarator_at, dimensions_at, bounds_at, separated_at, name_or_element_at, subscripts_at, exprs_at, limits_at, comma_at, label_at, unit_at, list_of, items_at, item_at, value_item_at, expression_from, ends_list, begins_control, source_at, control_at, behind_unit_at, whole_expression_at, expression_at, operations_at, front_at, negation_at, primary_at, truth_at, paren_at, name_at, operator_at, first_operator_at, sign_at, run, after, most_open, is_left_out, when, either, loop_item_at, format_first_at, unit_first_at, logical_typing_of, dimensioning_of, naming_of, letter_at, letters_at, type_at, implicit_at, implying_of, constant_at, parameter_of, number_behind_sign, unsigned_at, data_constant_at, begins_repeat, repeat_of, repeated_value_at, data_value_at, data_list_at, data_set_at, data_sets_of, initializing_of, computed_going_of, condition_at, arithmetic_if_of, block_if_of, else_if_of, stop_of, stopping_of, logical_if_of}
use Rattle.meaning.specs.Kinds.{kind_of, kind_behind_if, kind_outside_if, kind_by_keyword, kind_by_control_keyword, behind_digits, behind_closing, marks_at, has_limits}
use Rattle.meaning.specs.Spelling.{balanced}
use Rattle.meaning.specs.Nesting.{nest, past, breaks, missing_end}
use Rattle.meaning.specs.Rules.{checked}
use Rattle.meaning.specs.Scopes.{arrays_from, definitions_of, calls_by}
use Rattle.meaning.specs.Uses.{parts_from}
use Rattle.meaning.specs.NameRules.{told, given_from, level_by, nodes_by}
use Rattle.meaning.specs.NumberRules.{elements_in, sizeless_in}
use Rattle.meaning.specs.LabelRules.{not_executable}
use Rattle.meaning.specs.Surroundings.{told_in}
use Rattle.meaning.specs.Initial.{targets_in, starts_from}
use Rattle.meaning.specs.Lists.{with_value, behind, followed, element_values, trips_listed, listed}
use Rattle.meaning.specs.Formats.{format_in, between_parentheses, undoubled, single_behind, descriptors_of, parts_in, parts_at, next_at, part_at, counted_at, behind_count, group_at, characters_at, quoted_at, integer_at, logical_at, least_at}
use Rattle.meaning.specs.Execution.{exec, fuelled, pass_over, looped, repeated, loop_by, fold_trips, goes_on, leads_on, tested, arms_from, labelled, format_found, with_ok, with_list, turn, more}
use Rattle.meaning.specs.Trips.{span_of, trips}
use Rattle.meaning.specs.Arrays.{Dimension, elements, place, cell_of}
use Rattle.meaning.specs.Values.{value, values_of, integer}
use Rattle.meaning.specs.Maps.{put, start, map_by}
use Rattle.meaning.specs.Records.{edited, outcome_of, written, text_of, laid, course}

-- what an answer shows beside its turns
pub record Shown : Type 0 where
  pub pieces : List (List ℕ)
  pub ending : Ending

abbrev pub shown : List ℕ → ℕ → Shown
shown source limit = record { pieces = (answer source limit).pieces; ending = (answer source limit).ending.ending }

-- every definition that stays folded elsewhere
unfoldable pub all_definitions : Unit {0}
unfolding message_at going_of printing_of quoted_text_at list_behind_comma format_in between_parentheses undoubled single_behind answer program_of members_of statements_of lines_of pieces without_return card statement_lines statements_in groups bare bare_behind read_shape shape_of kind_of kind_behind_if kind_outside_if kind_by_keyword kind_by_control_keyword behind_digits behind_closing marks_at has_limits shape_by simple_by value_of target_of assignment_of writing_of format_of alone_of range_label_at doing_of doing_while_of declarators_of typing_of declarator_at dimensions_at bounds_at separated_at name_or_element_at subscripts_at exprs_at limits_at comma_at paren_at balanced before_last_parenthesis label_at unit_at list_of items_at item_at value_item_at expression_from ends_list begins_control source_at control_at behind_unit_at whole_expression_at expression_at operations_at front_at negation_at primary_at truth_at name_at operator_at first_operator_at sign_at run after most_open is_left_out nest past breaks missing_end checked arrays_from definitions_of calls_by parts_from told given_from level_by nodes_by elements_in sizeless_in not_executable told_in targets_in starts_from with_value behind followed element_values trips_listed listed elements descriptors_of parts_in parts_at next_at part_at counted_at behind_count group_at characters_at quoted_at integer_at logical_at least_at run_of exec fuelled pass_over looped repeated loop_by fold_trips goes_on leads_on tested arms_from labelled span_of format_found with_ok with_list turn more value values_of integer put start map_by edited outcome_of written text_of laid course digits when either loop_item_at format_first_at unit_first_at logical_typing_of dimensioning_of naming_of letter_at letters_at type_at implicit_at implying_of constant_at parameter_of number_behind_sign unsigned_at data_constant_at begins_repeat repeat_of repeated_value_at data_value_at data_list_at data_set_at data_sets_of initializing_of computed_going_of condition_at arithmetic_if_of block_if_of else_if_of stop_of stopping_of logical_if_of
all_definitions = tt

-- 31 characters are a name, and 32 are none
long_name : is_name (codes "ABCDEFGHIJKLMNOPQRSTUVWXYZ01234") ≡ true
long_name = refl

too_long_name : is_name (codes "ABCDEFGHIJKLMNOPQRSTUVWXYZ012345") ≡ false
too_long_name = refl

-- blanks have no meaning outside apostrophes, and letters are raised there
bare_text : bare (codes "w rite (6, 10) ' a B'") ≡ codes "WRITE(6,10)' a B'"
unfolding all_definitions
bare_text = refl

-- END=1 is an assignment
kind_by_equals : kind_of (codes "END=1") ≡ kinds.Assignment
unfolding all_definitions
kind_by_equals = refl

-- -A*B is -(A*B)
sign_over_product : shape_of (codes "I=-A*B") ≡ Some (assignment (codes "I") no_exprs (signed signs.Minus (binary operators.Multiply (name (codes "A")) (name (codes "B")))))
unfolding all_definitions
sign_over_product = refl

-- I-J-K groups from the left
left_grouping : shape_of (codes "I=I-J-K") ≡ Some (assignment (codes "I") no_exprs (binary operators.Subtract (binary operators.Subtract (name (codes "I")) (name (codes "J"))) (name (codes "K"))))
unfolding all_definitions
left_grouping = refl

-- DO10I=1 is an assignment, and with a comma behind the equals sign it is a DO statement
assignment_to_do10i : shape_of (codes "DO10I=1") ≡ Some (assignment (codes "DO10I") no_exprs (number (codes "1")))
unfolding all_definitions
assignment_to_do10i = refl

do_statement : shape_of (codes "DO10I=1,(N)") ≡ Some (doing (Some (codes "10")) false (codes "I") (record { first = number (codes "1"); last = paren (name (codes "N")); step = None }))
unfolding all_definitions
do_statement = refl

-- DATA(I)=1 is an assignment
data_by_equals : kind_of (codes "DATA(I)=1") ≡ kinds.Assignment
unfolding all_definitions
data_by_equals = refl

no_reading : read_shape (codes "I=A*-B") ≡ Err G1
unfolding all_definitions
no_reading = refl

left_out_statement : read_shape (codes "READ(5,*)N") ≡ Err G2
unfolding all_definitions
left_out_statement = refl

-- trips 1, 4, 7 and 10; none where the first value is beyond the last; and downwards
four_trips : trips (pos 1) (pos 10) (pos 3) ≡ pos 1 ∷ (pos 4 ∷ (pos 7 ∷ (pos 10 ∷ [])))
four_trips = refl

no_trips : trips (pos 5) (pos 1) (pos 1) ≡ []
no_trips = refl

downwards : trips (pos 1) (negsuc 0) (negsuc 0) ≡ pos 1 ∷ (pos 0 ∷ (negsuc 0 ∷ []))
downwards = refl

-- A(2,3) and B(-1:1): the first subscript varies fastest, a subscript outside its bounds has no place, and a variable
-- has the cell behind those of an array
abbrev two_by_three : List Dimension
two_by_three = record { lower = pos 1; upper = pos 2 } ∷ (record { lower = pos 1; upper = pos 3 } ∷ [])

abbrev minus_one_to_one : List Dimension
minus_one_to_one = record { lower = negsuc 0; upper = pos 1 } ∷ []

second_element : place two_by_three (pos 2 ∷ (pos 1 ∷ [])) ≡ Some 1
second_element = refl

last_element : place two_by_three (pos 2 ∷ (pos 3 ∷ [])) ≡ Some 5
last_element = refl

no_element : place minus_one_to_one (pos 2 ∷ []) ≡ None
no_element = refl

first_of_three : place minus_one_to_one (negsuc 0 ∷ []) ≡ Some 0
first_of_three = refl

cell_behind_an_array : cell_of (record { name = codes "A"; dimensions = two_by_three } ∷ (record { name = codes "I"; dimensions = [] } ∷ [])) (codes "I") [] ≡ Some 6
cell_behind_an_array = refl

-- the first program that anybody runs
abbrev pub first_program : List ℕ
first_program = codes "      WRITE (6,10) 42\n   10 FORMAT (1X,I5)\n      END\n"

first_answer : shown first_program 1000000000 ≡ record { pieces = codes "    42\n" ∷ []; ending = endings.Ended }
unfolding all_definitions
first_answer = refl

-- the same, cut into lines in the middle of a name and of a number, with a comment between
abbrev cut_program : List ℕ
cut_program =
    codes "      WRI\nC\n     1TE (6,1\n     20) 42\n   10 FORMAT (1X,I5)\n      END\n"

cut_answer : shown cut_program 1000000000 ≡ shown first_program 1000000000
unfolding all_definitions
cut_answer = refl

-- the apostrophes are counted over all lines of a statement, and C6 is told at the initial line
unpaired_text : statements_of (codes "C\n      I='\n     1'A'\nC'\n      END\n") ≡ Err (record { line = 2; rule = C6 })
unfolding all_definitions
unpaired_text = refl

nothing_continued : statements_of (codes "C\n     1 END\n      END\n") ≡ Err (record { line = 2; rule = C4 })
unfolding all_definitions
nothing_continued = refl

label_continued : statements_of (codes "      END\n    1X\n") ≡ Err (record { line = 2; rule = C3 })
unfolding all_definitions
label_continued = refl

-- an initial line and twenty continuation lines
too_many_lines : statements_of (codes "      E\n     1\n     1\n     1\n     1\n     1\n     1\n     1\n     1\n     1\n     1\n     1\n     1\n     1\n     1\n     1\n     1\n     1\n     1\n     1\n     1\n") ≡ Err (record { line = 21; rule = C5 })
unfolding all_definitions
too_many_lines = refl

-- a DO statement whose terminal statement is shared: after the last trip each variable is one step on
abbrev shared_terminal : List ℕ
shared_terminal =
    codes "      DO 10 I=1,2\n      DO 10 J=1,3\n   10 K=K+I*J\n      WRITE (6,20) I,J,K\n   20 FORMAT (3I4)\n      END\n"

shared_answer : shown shared_terminal 1000 ≡ record { pieces = codes "   3   4  18\n" ∷ []; ending = endings.Ended }
unfolding all_definitions
shared_answer = refl

-- a format in a character constant, and a quotient towards zero
printed : shown (codes "      PRINT '(I3)',-7/2\n      END\n") 9 ≡ record { pieces = codes " -3\n" ∷ []; ending = endings.Ended }
unfolding all_definitions
printed = refl

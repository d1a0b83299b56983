-- The rules on labels: K1, K2 and K11 (ANSI X3.9-1978, 3.4, 11.1 to 11.4, 11.10.8, 12.3, 12.4 and
-- 13.1).
use Rattle.std.specs.Prelude.{ℕ, pos, Bool, true, false, not, ◌&&◌, ◌||◌, ◌==◌, List, [], ◌∷◌, ◌++◌}
use Rattle.std.specs.Prelude.{map, count_by, is_some, is_none, if◌then◌else◌, Option, Some, None}
use Rattle.std.specs.List.{list_any}
use Rattle.meaning.specs.declared.ending.Value.{Value}
use Rattle.meaning.specs.declared.ending.Value.TheVariants as values
use Rattle.meaning.specs.Characters.{number_of}
use Rattle.meaning.specs.Syntax.{UnitTree, star, unit_number, FormatTree, format_label}
use Rattle.meaning.specs.Syntax.{format_constant, ShapeTree, writing, printing, format, going}
use Rattle.meaning.specs.Syntax.{computed_going, arithmetic_if, logical_if, ItemTree}
use Rattle.meaning.specs.Surroundings.{Around}
use Rattle.meaning.specs.Formats.{descriptors_of, format_in, undoubled}
use Rattle.meaning.specs.Types.{Types}
use Rattle.meaning.specs.Values.{Known}
use Rattle.meaning.specs.Scopes.{constant_value, is_specification}
use Rattle.meaning.specs.Uses.{Symbols, is_defining}
use Rattle.meaning.specs.NumberRules.{is_no_constant, known_behind_all}

abbrev pub is_label_at : Option ℕ → ℕ → Bool
is_label_at None n = false
is_label_at (Some s) n = s == n

abbrev pub has_label : ℕ → ItemTree → Bool
has_label label m = is_label_at m.label label

-- ---- K1: an earlier statement has the label

abbrev pub is_repeated : List ItemTree → Option ℕ → Bool
is_repeated before None = false
is_repeated before (Some s) = list_any (has_label s) before

abbrev pub has_repeated_label : List ItemTree → ItemTree → Bool
has_repeated_label before x = is_repeated before x.label

-- ---- K2: transfers

-- the labels that a statement transfers to
abbrev pub transfers_of : ShapeTree → List ℕ
transfers_of (going label) = number_of label ∷ []
transfers_of (computed_going labels comma e) = map number_of labels
transfers_of (arithmetic_if e negative zero positive) =
    number_of negative ∷ (number_of zero ∷ (number_of positive ∷ []))
transfers_of (logical_if e statement) = transfers_of statement
transfers_of s = []

-- the statements that aren't executable
unfoldable pub not_executable : Symbols → List ItemTree → List ItemTree → List ItemTree
not_executable r before [] = []
not_executable r before (x ∷ xs) =
    (if is_specification x.shape || is_defining r before x then x ∷ [] else [])
    ++ not_executable r (before ++ x ∷ []) xs

-- the label is of no statement, or not of such alone that stand in the list of the transfer or in
-- one around it
abbrev pub is_out_of_reach : List ItemTree → List ItemTree → ℕ → Bool
is_out_of_reach all reach s =
    (count_by (has_label s) reach == 0)
    || not (count_by (has_label s) reach == count_by (has_label s) all)

abbrev pub misses : Symbols → List ItemTree → List ItemTree → ℕ → Bool
misses r all reach s =
    is_out_of_reach all reach s || list_any (has_label s) (not_executable r [] all)

abbrev pub breaks_transfers : Symbols → List ItemTree → Around → ItemTree → Bool
breaks_transfers r all around x = list_any (misses r all around.items) (transfers_of x.shape)

-- ---- K11: units and formats

-- the unit is an asterisk, or a constant expression of value 6
abbrev pub is_six : Option Value → Bool
is_six (Some (values.Int (pos n))) = n == 6
is_six v = false

abbrev pub is_unit : Types → Known → UnitTree → Bool
is_unit types known star = true
is_unit types known (unit_number e) =
    not (is_no_constant types known e) && is_six (constant_value types known e)

abbrev pub is_format : ShapeTree → Bool
is_format (format text) = true
is_format s = false

abbrev pub is_format_at : ℕ → ItemTree → Bool
is_format_at label m = is_format m.shape && has_label label m

abbrev pub is_allowed : List ItemTree → FormatTree → Bool
is_allowed all (format_label label) = list_any (is_format_at (number_of label)) all
is_allowed all (format_constant text) = is_some (format_in (undoubled text))

abbrev pub is_misformed : Symbols → List ItemTree → Known → Option ℕ → ShapeTree → Bool
is_misformed r all known at (writing control es) =
    not (is_unit r.names.types known control.unit) || not (is_allowed all control.source)
is_misformed r all known at (printing source es) = not (is_allowed all source)
is_misformed r all known at (format text) = is_none at || is_none (descriptors_of text)
is_misformed r all known at (logical_if e statement) = is_misformed r all known at statement
is_misformed r all known at s = false

abbrev pub has_bad_output : Symbols → List ItemTree → List ItemTree → ItemTree → Bool
has_bad_output r all before x = is_misformed r all (known_behind_all r before) x.label x.shape

-- What breaks a rule K at a statement behind others (ANSI X3.9-1978, 3.4, 4.1.2, 5.4.2 and chapters
-- 6, 12, 13 and 15). Of several things the first is told, in the order in which the rule's own
-- definition has them.
use Rattle.std.specs.Prelude.{ℕ, ◌++◌, Bool, List, [], map, option_map, Option, Some, None}
use Rattle.std.specs.List.{find}
use Rattle.std.specs.Option.{option_or}
use Rattle.meaning.specs.declared.refusal.Rule.{Rule}
use Rattle.meaning.specs.declared.refusal.Rule.TheVariants.{K1, K2, K3, K4, K5, K6, K7, K8, K9}
use Rattle.meaning.specs.declared.refusal.Rule.TheVariants.{K10, K11, K12, K13}
use Rattle.meaning.specs.LabelRules.{has_label}
use Rattle.meaning.specs.NameRules.{is_real, is_real_use, is_unknown_function, names_defined}
use Rattle.meaning.specs.NameRules.{names_used}
use Rattle.meaning.specs.Syntax.{ItemTree, ShapeTree}
use Rattle.meaning.specs.Trees.{Nested, flatten}
use Rattle.meaning.specs.Types.{has_implicit_none}
use Rattle.meaning.specs.Uses.{Symbols, is_defining, symbols_of}
use Rattle.name_uses.specs.UsesIn.{reads_in, uses_in}
use Rattle.culprits.specs.Counts.{miscounted_in}
use Rattle.culprits.specs.Placing.{at_line, seat_line}
use Rattle.culprits.specs.Told.{Told, repeated, real, mistyped, numbered, sized, disputed}
use Rattle.culprits.specs.Told.{misgiven, misformed, defined, unknown, listed}
use Rattle.function_culprits.specs.Functions.{misdefined_at}
use Rattle.name_culprits.specs.Names.{disputed_in as disputed_part}
use Rattle.size_culprits.specs.Sizes.{large_in as sized_part}
use Rattle.number_culprits.specs.Numbers.{bad_in as numbered_part}
use Rattle.data_culprits.specs.Sets.{bad_in as misgiven_part}
use Rattle.output_culprits.specs.Outputs.{bad_in as misformed_part}
use Rattle.type_culprits.specs.Clashes.{wrong_in as mistyped_part}
use Rattle.list_culprits.specs.Loops.{looped_in}
use Rattle.list_culprits.specs.Seats.{Seat, seats_of}
use Rattle.list_culprits.specs.Told.{Told as ListTold}
use Rattle.list_culprits.specs.Transfers.{missed_in}
use Rattle.list_culprits.specs.Witness.{unit_of}

-- K1: the label of the statement, and the first statement before it that has it
abbrev pub repeated_in : List ItemTree → Option ℕ → Option Told
repeated_in before None = None
repeated_in before (Some s) = option_map (λ y. repeated s y.line) (find (has_label s) before)

-- K3: the names that a statement defines, and then those that it uses as what is no function
abbrev pub names_in : Symbols → Bool → ShapeTree → List (List ℕ)
names_in r defines s = names_defined r defines s ++ names_used (is_real_use r) (uses_in r defines s)

-- the first that is REAL, or without a type under IMPLICIT NONE
abbrev pub real_in : Symbols → Bool → Bool → ShapeTree → Option Told
real_in r without_letters defines s =
    option_map (λ n. real n without_letters) (find (is_real r) (names_in r defines s))

-- K5: what is of the wrong type
abbrev pub mistyped_in : Symbols → Bool → ShapeTree → Option Told
mistyped_in r defines s = option_map mistyped (mistyped_part r.names defines s)

-- K6: what breaks the rule on integer constants and constant expressions
abbrev pub numbered_in : Symbols → List ItemTree → ItemTree → Option Told
numbered_in r before x = option_map numbered (numbered_part r before x)

-- K7: what breaks the rule on the sizes of arrays
abbrev pub sized_in : Symbols → List ItemTree → ItemTree → Option Told
sized_in r before x = option_map sized (sized_part r before x)

-- K4: what breaks the rule on what names are
abbrev pub disputed_in : Symbols → List ItemTree → ItemTree → Option Told
disputed_in r before x = option_map disputed (disputed_part r before x)

-- K10: what breaks the rule on DATA statements, where those before keep it
abbrev pub misgiven_in : Symbols → List ItemTree → ItemTree → Option Told
misgiven_in r before x = option_map misgiven (misgiven_part r before x)

-- K11: what breaks the rule on units and formats
abbrev pub misformed_in : Symbols → List ItemTree → List ItemTree → ItemTree → Option Told
misformed_in r all before x = option_map misformed (misformed_part r all before x)

-- K12: what breaks the rule on statement functions, but how deep they go and how large they become
abbrev pub misdefined_function_in : Symbols → List ItemTree → ItemTree → Option Told
misdefined_function_in r before x = option_map defined (misdefined_at r before x)

-- K13: the first reference to a function that isn't in the table
abbrev pub unknown_in : Symbols → Bool → ShapeTree → Option Told
unknown_in r defines s =
    option_map (λ u. unknown u.name) (find (is_unknown_function r) (reads_in r defines s))

-- ---- all of them

-- what breaks a rule at a statement behind others; of the other rules nothing is told
abbrev pub item_culprit_in : Rule → List ItemTree → List ItemTree → ItemTree → Option Told
item_culprit_in K1 all before x = repeated_in before x.label
item_culprit_in K3 all before x =
    real_in (symbols_of all) (has_implicit_none all) (is_defining (symbols_of all) before x) x.shape
item_culprit_in K8 all before x =
    miscounted_in (symbols_of all) (is_defining (symbols_of all) before x) x.shape
item_culprit_in K5 all before x =
    mistyped_in (symbols_of all) (is_defining (symbols_of all) before x) x.shape
item_culprit_in K6 all before x = numbered_in (symbols_of all) before x
item_culprit_in K7 all before x = sized_in (symbols_of all) before x
item_culprit_in K4 all before x = disputed_in (symbols_of all) before x
item_culprit_in K10 all before x = misgiven_in (symbols_of all) before x
item_culprit_in K11 all before x = misformed_in (symbols_of all) all before x
item_culprit_in K12 all before x = misdefined_function_in (symbols_of all) before x
item_culprit_in K13 all before x =
    unknown_in (symbols_of all) (is_defining (symbols_of all) before x) x.shape
item_culprit_in rule all before x = None

-- what breaks a rule on lists at a statement in its seat
abbrev pub list_culprit_in : Rule → Nested → Seat → Option ListTold
list_culprit_in K2 t z = missed_in (unit_of t) z
list_culprit_in K9 t z = looped_in (symbols_of (flatten t)) z
list_culprit_in rule t z = None

abbrev pub listed_in : Rule → Nested → Seat → Option Told
listed_in rule t z = option_map listed (list_culprit_in rule t z)

-- either, at a statement of a program unit in its seat, behind others
abbrev pub items_in : List Seat → List ItemTree
items_in zs = map (λ z. z.item) zs

abbrev pub culprit_in : Rule → Nested → List Seat → Seat → Option Told
culprit_in rule t front z =
    option_or (item_culprit_in rule (flatten t) (items_in front) z.item) (listed_in rule t z)

abbrev pub culprit_at : Rule → ℕ → Nested → Option Told
culprit_at rule line t = at_line seat_line (culprit_in rule t) line [] (seats_of t)

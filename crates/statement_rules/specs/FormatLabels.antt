-- Sets of the labels of FORMAT statements.
use Rattle.std.specs.Prelude.{◌≡◌, ◌≤◌, ◌^◌, ℕ, Bool, true, false, not, ◌||◌, List, [], map}
use Rattle.std.specs.Prelude.{is_none, Option, Result}
use Rattle.std.specs.Result.{IfOk}
use Rattle.std.specs.List.{list_any}
use Rattle.std.specs.Ordering.{nat_cmp}
use Rattle.std.specs.BTreeSet.{BTreeSet, contains}
use Rattle.meaning.specs.declared.syntax.FormatSource.{FormatSource}
use Rattle.meaning.specs.declared.syntax.Shape.{Shape}
use Rattle.meaning.specs.declared.syntax.Unit.{Unit}
use Rattle.meaning.specs.Characters.{number_of}
use Rattle.meaning.specs.Formats.{descriptors_of, format_in, undoubled}
use Rattle.meaning.specs.LabelRules.{has_bad_output, is_format_at, is_unit}
use Rattle.meaning.specs.NumberRules.{known_behind_all}
use Rattle.meaning.specs.Syntax.{FormatTree, format_constant, format_label, ItemTree, ShapeTree}
use Rattle.meaning.specs.Syntax.{format, logical_if, printing, writing, format_tree, shape_tree}
use Rattle.meaning.specs.Syntax.{unit_tree}
use Rattle.meaning.specs.Uses.{Symbols as Uses}
use Rattle.meaning.specs.Values.{Known}
use Rattle.symbols.specs.declared.names.Symbols.{Symbols}
use Rattle.symbols.specs.SymbolsAt.{symbols_at}
use Rattle.rule_passes.specs.Listed.{tree_at}
use Rattle.declarations.specs.declared.known.Table.{Table}
use Rattle.declarations.specs.Tables.{IsBehind, known_at, types_in}
use Rattle.statement_rules.specs.declared.formats.BadOutput.{BadOutput}

-- a set of labels has exactly those of FORMAT statements, and none is 2^32 or more
pub record KnowsFormats (labels : ℕ → Bool) (all : List ItemTree) : Type 0 where
  pub exact : (s : ℕ) → labels s ≡ list_any (is_format_at s) all
  pub small : (s : ℕ) → 2 ^ 32 ≤ s → list_any (is_format_at s) all ≡ false

abbrev pub AreFormats : BTreeSet ℕ → List ItemTree → Type 0
AreFormats labels all = KnowsFormats (contains nat_cmp labels) all

-- the label that digits spell is that of a FORMAT statement; a format is no label, or such a one
abbrev pub is_format_of : List ℕ → List ItemTree → Bool
is_format_of digits all = list_any (is_format_at (number_of digits)) all

abbrev pub is_found : List ItemTree → FormatTree → Bool
is_found all (format_label label) = list_any (is_format_at (number_of label)) all
is_found all (format_constant text) = true

abbrev pub is_found_by : FormatSource → List ItemTree → Bool
is_found_by source all = is_found all (format_tree source)

-- a unit is an asterisk or a constant expression of value 6
abbrev pub is_unit_at : Table → Unit → Bool
is_unit_at t u = is_unit (types_in t) (known_at t) (unit_tree u)

-- a statement has a unit that isn't allowed or the label of no FORMAT statement, or is a FORMAT
-- statement without a label
abbrev pub is_misplaced : Uses → List ItemTree → Known → Option ℕ → ShapeTree → Bool
is_misplaced r all known at (writing control es) =
    not (is_unit r.names.types known control.unit) || not (is_found all control.source)
is_misplaced r all known at (printing source es) = not (is_found all source)
is_misplaced r all known at (format text) = is_none at
is_misplaced r all known at (logical_if e statement) = is_misplaced r all known at statement
is_misplaced r all known at s = false

-- a text in a statement that has to be a format is none
abbrev pub is_unread_source : FormatTree → Bool
is_unread_source (format_label label) = false
is_unread_source (format_constant text) = is_none (format_in (undoubled text))

abbrev pub is_unread : ShapeTree → Bool
is_unread (writing control es) = is_unread_source control.source
is_unread (printing source es) = is_unread_source source
is_unread (format text) = is_none (descriptors_of text)
is_unread (logical_if e statement) = is_unread statement
is_unread s = false

abbrev pub breaks_reading : List ItemTree → ItemTree → Bool
breaks_reading before x = is_unread x.shape

-- the first of these, by the labels that are kept
abbrev pub HasFormats : BadOutput → List ItemTree → Type 0
HasFormats o all = AreFormats o.labels all

abbrev pub is_misplaced_at : BadOutput → Option ℕ → Shape → List ItemTree → Bool
is_misplaced_at o label s all =
    is_misplaced (symbols_at o.table.symbols.now) all (known_at o.table) label (shape_tree s)

-- the value that a function has of each thing that is what is known, where it is told
abbrev pub FindsOk : {A B E : Type 0} → (A → Type 0) → (A → B) → Result B E → Type 0
FindsOk {A} knows f r = (a : A) → knows a → IfOk r (λ b. b ≡ f a)

-- the rule on the statements of a unit, and its first part
abbrev pub breaks_output : Symbols → List ItemTree → ItemTree → Bool
breaks_output r = has_bad_output (symbols_at r) (map tree_at r.items.now)

abbrev pub breaks_places : Symbols → List ItemTree → ItemTree → Bool
breaks_places r before x =
    is_misplaced (symbols_at r) (map tree_at r.items.now) (known_behind_all (symbols_at r) before)
    x.label x.shape

-- a table is that behind statements, and labels are those of the unit's FORMAT statements
pub record KnowsOutput (o : BadOutput) (before : List ItemTree) : Type 0 where
  pub table : IsBehind o.table before
  pub labels : AreFormats o.labels (map tree_at o.table.symbols.now.items.now)

-- what is known in front of all statements of a unit
pub record IsOutput (r : Symbols) (o : BadOutput) : Type 0 where
  pub symbols : o.table.symbols.now ≡ r
  pub known : KnowsOutput o []

-- both parts of the rule
abbrev pub breaks_either : BadOutput → List ItemTree → ItemTree → Bool
breaks_either o before x = breaks_places o.table.symbols.now before x || breaks_reading before x

-- The formats of statements: those behind labels, and those in character constants.
use Rattle.std.specs.Prelude.{◌≡◌, ◌≤◌, ◌^◌, ◌||◌, ℕ, Bool, if◌then◌else◌, List, Option, None, Some}
use Rattle.std.specs.Prelude.{option_map}
use Rattle.std.specs.BTreeMap.{BTreeMap, get}
use Rattle.std.specs.Global.{Vec}
use Rattle.std.specs.Ordering.{nat_cmp}
use Rattle.std.specs.Str.{bytes_eq}
use Rattle.indexmap.specs.IndexMap.{IndexMap}
use Rattle.meaning.specs.declared.syntax.FormatSource.{FormatSource}
use Rattle.meaning.specs.declared.syntax.Shape.{Shape}
use Rattle.meaning.specs.Execution.{descriptors_if, format_found, or_else}
use Rattle.meaning.specs.Formats.{Parts, format_in, undoubled}
use Rattle.meaning.specs.LabelRules.{has_label, is_label_at}
use Rattle.meaning.specs.Syntax.{ItemTree, ShapeTree, format, format_tree, shape_tree}
use Rattle.format_edit.specs.Constants.{constant_format, has_constant, is_constant}
use Rattle.format_edit.specs.Formatted.{descriptors}
use Rattle.format_edit.specs.declared.format.Format.{Format}
use Rattle.name_maps.specs.Keeping.{kept_at}
use Rattle.statement_rules.specs.declared.reading.Formats.{Formats}

-- ---- behind labels

-- the format behind a label
abbrev pub found_in : BTreeMap ℕ Format → ℕ → Option Parts
found_in formats s = option_map descriptors (get nat_cmp formats s)

-- the format that one statement gives a label
abbrev pub format_here : ℕ → ItemTree → Option Parts
format_here s m = descriptors_if (has_label s m) m.shape

-- the parts of a format, if they stand under the label
abbrev pub format_under : Option ℕ → ℕ → Option Parts → Option Parts
format_under label s ds = if is_label_at label s then ds else None

-- a format more under a label
abbrev pub AddsFormat : Option ℕ → Option Parts → BTreeMap ℕ Format → BTreeMap ℕ Format → Type 0
AddsFormat label ds old new =
    (s : ℕ) → found_in new s ≡ or_else (found_in old s) (format_under label s ds)

-- ---- in character constants

-- the format that is kept of a constant
abbrev pub text_in : {S : Type 0} → IndexMap (Vec ℕ) Format S → List ℕ → Option Parts
text_in m text = option_map descriptors (kept_at m text)

-- the formats are kept that stand in these constants, and no others
abbrev pub HoldsTexts : {S : Type 0} → (List ℕ → Bool) → IndexMap (Vec ℕ) Format S → Type 0
HoldsTexts {S} these m =
    (text : List ℕ) → text_in m text ≡ (if these text then format_in (undoubled text) else None)

-- those of further constants are kept too
abbrev pub AddsTexts : {S T : Type 0} → (List ℕ → Bool) → IndexMap (Vec ℕ) Format S →
    IndexMap (Vec ℕ) Format T → Type 0
AddsTexts {S} {T} more old new =
    (these : List ℕ → Bool) → HoldsTexts these old →
    HoldsTexts (λ text. more text || these text) new

-- the constant of a text, that of a format, and those of a statement
abbrev pub the_text : List ℕ → List ℕ → Bool
the_text own text = bytes_eq text own

abbrev pub text_of_source : FormatSource → List ℕ → Bool
text_of_source source text = is_constant text (format_tree source)

abbrev pub texts_of_shape : Shape → List ℕ → Bool
texts_of_shape s text = has_constant text (shape_tree s)

-- ---- of statements

-- what is kept of the formats of statements
pub record HoldsFormats (all : List ItemTree) (f : Formats) : Type 0 where
  pub labelled : (s : ℕ) → found_in f.by_label s ≡ format_found all s
  pub small : (s : ℕ) → 2 ^ 32 ≤ s → format_found all s ≡ None
  pub constants : (text : List ℕ) → text_in f.texts text ≡ constant_format all text

-- the text of a FORMAT statement
abbrev pub format_text : ShapeTree → Option (List ℕ)
format_text (format text) = Some text
format_text s = None

-- The first thing by which a statement breaks the rule on units and formats (ANSI X3.9-1978, 12.3,
-- 12.4 and 13.1).
use Rattle.std.specs.Prelude.{ℕ, not, is_none, List, if◌then◌else◌, Option, Some, None}
use Rattle.std.specs.Option.{option_or}
use Rattle.meaning.specs.Formats.{descriptors_of}
use Rattle.meaning.specs.LabelRules.{is_allowed, is_unit}
use Rattle.meaning.specs.NumberRules.{known_behind_all}
use Rattle.meaning.specs.Syntax.{UnitTree, star, unit_number, FormatTree, format_label}
use Rattle.meaning.specs.Syntax.{format_constant, ShapeTree, writing, printing, format, logical_if}
use Rattle.meaning.specs.Syntax.{ItemTree}
use Rattle.meaning.specs.Types.{Types}
use Rattle.meaning.specs.Uses.{Symbols}
use Rattle.meaning.specs.Values.{Known}
use Rattle.output_culprits.specs.Pieces.{piece_of}
use Rattle.output_culprits.specs.Told.{Told, bad_unit, missing, unlabelled, piece, no_format}

-- a unit that isn't allowed
abbrev pub unit_in : Types → Known → UnitTree → Option Told
unit_in types known star = None
unit_in types known (unit_number e) =
    if not (is_unit types known (unit_number e)) then Some (bad_unit e) else None

-- the label of no FORMAT statement, or a character constant that is no format
abbrev pub source_told : FormatTree → Told
source_told (format_label label) = missing label
source_told (format_constant text) = no_format text

abbrev pub source_in : List ItemTree → FormatTree → Option Told
source_in all source = if not (is_allowed all source) then Some (source_told source) else None

-- a FORMAT statement without a label, or with a text that is no format
abbrev pub unread_in : List ℕ → Option Told
unread_in text = if is_none (descriptors_of text) then Some (piece (piece_of text)) else None

abbrev pub text_in : Option ℕ → List ℕ → Option Told
text_in at text = option_or (if is_none at then Some unlabelled else None) (unread_in text)

-- a statement with a label or none
abbrev pub misformed_in : Types → List ItemTree → Known → Option ℕ → ShapeTree → Option Told
misformed_in types all known at (writing control es) =
    option_or (unit_in types known control.unit) (source_in all control.source)
misformed_in types all known at (printing source es) = source_in all source
misformed_in types all known at (format text) = text_in at text
misformed_in types all known at (logical_if e statement) =
    misformed_in types all known at statement
misformed_in types all known at s = None

-- K11, at a statement behind others
abbrev pub bad_in : Symbols → List ItemTree → List ItemTree → ItemTree → Option Told
bad_in r all before x =
    misformed_in r.names.types all (known_behind_all r before) x.label x.shape

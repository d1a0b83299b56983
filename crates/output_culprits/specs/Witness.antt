-- What is told is a witness: by it a statement breaks the rule on units and formats behind others.
use Rattle.std.specs.Prelude.{◌≡◌, ℕ, not, is_none, List, Option, IsTrue, ◌⊎◌}
use Rattle.finding.specs.Answers.{IsAnswer}
use Rattle.meaning.specs.Formats.{descriptors_of}
use Rattle.meaning.specs.LabelRules.{has_bad_output, is_allowed, is_unit}
use Rattle.meaning.specs.NumberRules.{known_behind_all}
use Rattle.meaning.specs.Syntax.{UnitTree, star, unit_number, FormatTree, ShapeTree}
use Rattle.meaning.specs.Syntax.{writing, printing, format, logical_if, ItemTree}
use Rattle.meaning.specs.Types.{Types}
use Rattle.meaning.specs.Uses.{Symbols}
use Rattle.meaning.specs.Values.{Known}
use Rattle.output_culprits.specs.Outputs.{bad_in, source_told}
use Rattle.output_culprits.specs.Pieces.{IsBadPiece}
use Rattle.output_culprits.specs.Told.{Told, bad_unit, unlabelled, piece}

-- the unit of the statement isn't allowed
abbrev pub IsUnitBy : Types → Known → UnitTree → Told → Type 0
IsUnitBy types known star k = ⊥
IsUnitBy types known (unit_number e) k =
    (bad_unit e ≡ k) × IsTrue (not (is_unit types known (unit_number e)))

-- no FORMAT statement has the label, or the character constant is no format
abbrev pub IsSourceBy : List ItemTree → FormatTree → Told → Type 0
IsSourceBy all source k = (source_told source ≡ k) × IsTrue (not (is_allowed all source))

-- it is a FORMAT statement without a label; or with a text that is no format, by what stands
-- between two of its commas
abbrev pub IsPieceBy : List ℕ → Told → Type 0
IsPieceBy text k =
    (told : List ℕ) × (piece told ≡ k) × IsTrue (is_none (descriptors_of text))
    × IsBadPiece text told

abbrev pub IsTextBy : Option ℕ → List ℕ → Told → Type 0
IsTextBy at text k = ((unlabelled ≡ k) × IsTrue (is_none at)) ⊎ IsPieceBy text k

abbrev pub IsMisformedBy : Types → List ItemTree → Known → Option ℕ → ShapeTree → Told → Type 0
IsMisformedBy types all known at (writing control es) k =
    IsUnitBy types known control.unit k ⊎ IsSourceBy all control.source k
IsMisformedBy types all known at (printing source es) k = IsSourceBy all source k
IsMisformedBy types all known at (format text) k = IsTextBy at text k
IsMisformedBy types all known at (logical_if e statement) k =
    IsMisformedBy types all known at statement k
IsMisformedBy types all known at s k = ⊥

abbrev pub IsBy : Symbols → List ItemTree → List ItemTree → ItemTree → Told → Type 0
IsBy r all before x k =
    IsMisformedBy r.names.types all (known_behind_all r before) x.label x.shape k

abbrev pub TellsWitnesses : Type 0
TellsWitnesses =
    (r : Symbols) (all before : List ItemTree) (x : ItemTree) →
    IsAnswer (IsBy r all before x) (has_bad_output r all before x) (bad_in r all before x)

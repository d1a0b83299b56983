-- What is told of a unit or a format is a witness.
use Rattle.std.proofs.Common.{◌≡◌, ℕ, List, refl, Option, Some, None}
use Rattle.std.specs.Prelude.{is_none, not, IsTrue, if◌then◌else◌}
use Rattle.finding.specs.Answers.{IsAnswer}
use Rattle.finding.proofs.Answering.{test_answer}
use Rattle.meaning.specs.Formats.{descriptors_of}
use Rattle.meaning.specs.LabelRules.{has_bad_output, is_allowed, is_misformed, is_unit}
use Rattle.meaning.specs.NumberRules.{known_behind_all}
use Rattle.meaning.specs.Syntax.{UnitTree, star, unit_number, FormatTree, ShapeTree, writing, printing, format, logical_if, ItemTree}
use Rattle.meaning.specs.Uses.{Symbols}
use Rattle.meaning.specs.Types.{Types}
use Rattle.meaning.specs.Values.{Known}
use Rattle.number_culprits.proofs.Telling.{either_answer}
use Rattle.output_culprits.specs.Outputs.{bad_in, misformed_in, source_in, source_told, text_in, unit_in, unread_in}
use Rattle.output_culprits.specs.Pieces.{piece_of, scan_start}
use Rattle.output_culprits.specs.Told.{Told, bad_unit, piece, unlabelled}
use Rattle.output_culprits.specs.Witness.{IsBy, IsMisformedBy, IsPieceBy, IsSourceBy, IsTextBy, IsUnitBy}
use Rattle.output_culprits.proofs.Piecing.{piece_told}
use Rattle.std.proofs.Common.{◌||◌, []}

unit_answer : (types : Types) (known : Known) (u : UnitTree) → IsAnswer (IsUnitBy types known u) (not (is_unit types known u)) (unit_in types known u)
unit_answer types known star = refl
unit_answer types known (unit_number e) =
    test_answer (IsUnitBy types known (unit_number e)) (not (is_unit types known (unit_number e))) (bad_unit e) (λ h. (refl, h))

source_answer : (all : List ItemTree) (source : FormatTree) → IsAnswer (IsSourceBy all source) (not (is_allowed all source)) (source_in all source)
source_answer all source =
    test_answer (IsSourceBy all source) (not (is_allowed all source)) (source_told source) (λ h. (refl, h))

text_answer : (at : Option ℕ) (text : List ℕ) → IsAnswer (IsTextBy at text) (is_none at || is_none (descriptors_of text)) (text_in at text)
text_answer at text =
    let without : Told → Type 0 = λ k. (unlabelled ≡ k) × IsTrue (is_none at) in
    either_answer without (IsPieceBy text) (is_none at) (is_none (descriptors_of text)) (if is_none at then Some unlabelled else None) (unread_in text) (test_answer without (is_none at) unlabelled (λ h. (refl, h))) (test_answer (IsPieceBy text) (is_none (descriptors_of text)) (piece (piece_of text)) (λ h. (piece_of text, refl, h, piece_told scan_start [] text h)))

module _ (r : Symbols) (all : List ItemTree) (known : Known) (at : Option ℕ) where
  misformed_answer : (s : ShapeTree) → IsAnswer (IsMisformedBy r.names.types all known at s) (is_misformed r all known at s) (misformed_in r.names.types all known at s)
  misformed_answer (writing control es) =
      either_answer (IsUnitBy r.names.types known control.unit) (IsSourceBy all control.source) (not (is_unit r.names.types known control.unit)) (not (is_allowed all control.source)) (unit_in r.names.types known control.unit) (source_in all control.source) (unit_answer r.names.types known control.unit) (source_answer all control.source)
  misformed_answer (printing source es) = source_answer all source
  misformed_answer (format text) = text_answer at text
  misformed_answer (logical_if e statement) = misformed_answer statement
  misformed_answer s = refl

pub outputs_told : (r : Symbols) (all before : List ItemTree) (x : ItemTree) → IsAnswer (IsBy r all before x) (has_bad_output r all before x) (bad_in r all before x)
outputs_told r all before x = misformed_answer r all (known_behind_all r before) x.label x.shape

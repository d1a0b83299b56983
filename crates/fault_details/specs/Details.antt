-- What is told of a fault.
use Rattle.std.specs.Prelude.{◌≡◌, ℕ, ℤ, List, [], ◌∷◌, Some, None, Err, length, slice_get}
use Rattle.meaning.specs.declared.ending.FaultKind.{FaultKind}
use Rattle.meaning.specs.declared.ending.FaultKind.TheVariants.{F3, F5, F7}
use Rattle.meaning.specs.declared.ending.Value.TheVariants as values
use Rattle.meaning.specs.declared.syntax.Tree.{Tree}
use Rattle.meaning.specs.Arrays.{above}
use Rattle.meaning.specs.Intrinsics.{intrinsic_named}
use Rattle.meaning.specs.Records.{course, clashes}
use Rattle.meaning.specs.Values.{integer, operated, with_sign}
use Rattle.expressions.specs.Dimensions.{dimension}
use Rattle.expressions.specs.Functions.{intrinsic, value_from}
use Rattle.expressions.specs.Glossaries.{Glossary}
use Rattle.expressions.specs.declared.dimension.Dimension.{Dimension}
use Rattle.storage.specs.Checked.{names_in}
use Rattle.fault_details.specs.declared.detail.Detail.{Detail}
use Rattle.fault_details.specs.declared.detail.Detail.TheVariants as details
use Rattle.fault_details.specs.declared.detail.Stop.{Stop}
use Rattle.fault_details.specs.declared.detail.Stop.TheVariants as stops
use Rattle.fault_details.specs.Subscripts.{subscripts_of}
use Rattle.fault_details.specs.Fields.{field_of}
use Rattle.fault_details.specs.Meeting.{GoesTo}

-- the bounds are those of the array's dimension behind so many, and the subscript isn't within them
pub record IsOutside (g : Glossary) (array : List ℕ) (before : ℕ) (subscript : ℤ)
    (bounds : Dimension) : Type 0 where
  pub dimensions : List _
  pub declared : g.arrays array ≡ Some dimensions
  pub own : slice_get dimensions before ≡ Some (dimension bounds)
  pub outside : above (dimension bounds) subscript ≡ None

-- what is told is a fault of this kind
abbrev pub IsDetail : Tree → FaultKind → Detail → Type 0
IsDetail p k (details.Outside array before subscript bounds further) =
    (k ≡ F3) × IsOutside (names_in p) array.now (length (subscripts_of before)) subscript bounds
IsDetail p k (details.Operands operator left right) =
    operated operator (values.Int left) (values.Int right) ≡ Err k
IsDetail p k (details.Signed sign operand) = integer (with_sign sign operand) ≡ Err k
IsDetail p k (details.Function name function arguments) =
    (intrinsic_named name.now ≡ Some (intrinsic function))
    × (value_from (intrinsic function) arguments [] ≡ Err k)
IsDetail p k details.Step = k ≡ F5
IsDetail p k (details.Clash value field) =
    (k ≡ F7) × (course (field_of field ∷ []) (value ∷ []) ≡ clashes)
    × GoesTo p (Some (field_of field))
IsDetail p k (details.Unedited value) = (k ≡ F7) × GoesTo p None

abbrev pub IsStop : Tree → Stop → Type 0
IsStop p (stops.Fault k d) = IsDetail p k d
IsStop p stops.Unknown = Unit {0}

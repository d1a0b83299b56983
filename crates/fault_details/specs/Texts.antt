-- What is told of a fault, as text.
use Rattle.std.specs.Prelude.{◌++◌, ℤ, pos, ℕ, Bool, true, false, List, [], int_lt, codes, flat_map}
use Rattle.std.specs.Prelude.{◌==◌, if◌then◌else◌}
use Rattle.std.specs.Fmt.{decimal, signed_decimal}
use Rattle.meaning.specs.Spelling.{operator_text}
use Rattle.meaning.specs.declared.ending.Value.{Value}
use Rattle.meaning.specs.declared.ending.Value.TheVariants as values
use Rattle.meaning.specs.Records.{logical_text}
use Rattle.meaning.specs.declared.syntax.Sign.{Sign}
use Rattle.meaning.specs.declared.syntax.Sign.TheVariants as signs
use Rattle.expressions.specs.declared.dimension.Dimension.{Dimension}
use Rattle.expressions.specs.declared.intrinsics.Arguments.{Arguments}
use Rattle.expressions.specs.declared.intrinsics.Arguments.TheVariants as arguments
use Rattle.fault_details.specs.declared.detail.Detail.{Detail}
use Rattle.fault_details.specs.declared.detail.Detail.TheVariants as details
use Rattle.fault_details.specs.declared.detail.Field.{Field}
use Rattle.fault_details.specs.declared.detail.Field.TheVariants as fields
use Rattle.fault_details.specs.Subscripts.{subscripts_of}

-- an operand, a negative one in parentheses
abbrev pub operand_text : ℤ → List ℕ
operand_text z = if int_lt z (pos 0) then codes "(" ++ signed_decimal z ++ codes ")" else signed_decimal z

abbrev pub sign_text : Sign → List ℕ
sign_text signs.Plus = codes "+"
sign_text signs.Minus = codes "-"

abbrev pub arguments_text : Arguments → List ℕ
arguments_text arguments.None = []
arguments_text (arguments.One a) = signed_decimal a
arguments_text (arguments.Two a b) = signed_decimal a ++ codes "," ++ signed_decimal b

-- subscripts in front of another one
abbrev pub passed_text : List ℤ → List ℕ
passed_text values = flat_map (λ s. signed_decimal s ++ codes ",") values

-- in place of those that weren't evaluated
abbrev pub further_text : Bool → List ℕ
further_text true = codes ",.."
further_text false = []

abbrev pub last_text : ℤ → Bool → List ℕ
last_text subscript further = signed_decimal subscript ++ further_text further

abbrev pub element_text : List ℕ → List ℤ → ℤ → Bool → List ℕ
element_text array before subscript further = array ++ codes "(" ++ passed_text before ++ last_text subscript further ++ codes ")"

abbrev pub bounds_text : Dimension → List ℕ
bounds_text bounds = codes ", BOUNDS " ++ signed_decimal bounds.lower ++ codes " TO " ++ signed_decimal bounds.upper

-- a value of an output list
abbrev pub value_text : Value → List ℕ
value_text (values.Int z) = signed_decimal z
value_text (values.Bool b) = logical_text b

-- the least number of digits, where it isn't that of Iw (13.5.9.1)
abbrev pub least_text : ℕ → List ℕ
least_text least = if least == 1 then [] else codes "." ++ decimal least

abbrev pub field_text : Field → List ℕ
field_text (fields.Integer width least) = codes "I" ++ decimal width ++ least_text least
field_text (fields.Logical width) = codes "L" ++ decimal width

abbrev pub detail_text : Detail → List ℕ
detail_text (details.Outside array before subscript bounds further) =
    element_text array.now (subscripts_of before) subscript further ++ bounds_text bounds
detail_text (details.Operands operator left right) =
    operand_text left ++ operator_text operator ++ operand_text right
detail_text (details.Signed sign operand) = sign_text sign ++ operand_text operand
detail_text (details.Function name function arguments) = name.now ++ codes "(" ++ arguments_text arguments ++ codes ")"
detail_text details.Step = codes "STEP 0"
detail_text (details.Clash value field) =
    value_text value ++ codes ", EDIT DESCRIPTOR " ++ field_text field
detail_text (details.Unedited value) = value_text value ++ codes ", NO EDIT DESCRIPTOR"

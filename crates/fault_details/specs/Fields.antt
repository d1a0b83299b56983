-- The edit descriptors to which values go (ANSI X3.9-1978, 13.3).
use Rattle.std.specs.Prelude.{ℕ, suc, Bool, true, false, List, [], ◌∷◌, slice_get, if◌then◌else◌}
use Rattle.std.specs.Prelude.{Option}
use Rattle.meaning.specs.declared.ending.Value.{Value}
use Rattle.meaning.specs.declared.ending.Value.TheVariants as values
use Rattle.meaning.specs.Formats.{Descriptor, integer_field, logical_field, Parts}
use Rattle.meaning.specs.Records.{is_field, sequence}
use Rattle.fault_details.specs.declared.detail.Field.{Field}
use Rattle.fault_details.specs.declared.detail.Field.TheVariants.{Integer, Logical}

abbrev pub field_of : Field → Descriptor
field_of (Integer width least) = integer_field width least
field_of (Logical width) = logical_field width

-- those among descriptors
abbrev pub fields : List Descriptor → List Descriptor
fields [] = []
fields (d ∷ ds) = if is_field d then d ∷ fields ds else fields ds

-- that of the value behind so many others: the format unrolled far enough for it has them in order
unfoldable pub field_for : Parts → ℕ → Option Descriptor
field_for ps before = slice_get (fields (sequence ps (suc before))) before

-- the value is of another type than the values that are edited (13.5.9 and 13.5.10)
abbrev pub differs : Value → Field → Bool
differs (values.Int z) (Integer width least) = false
differs (values.Int z) (Logical width) = true
differs (values.Bool b) (Integer width least) = true
differs (values.Bool b) (Logical width) = false

-- Whether a value is a LOGICAL one (ANSI X3.9-1978, 6.1).
use Rattle.std.specs.Prelude.{◌≡◌, Bool, true, false, Ok}
use Rattle.meaning.specs.declared.ending.Value.{Value}
use Rattle.meaning.specs.declared.ending.Value.TheVariants as values
use Rattle.meaning.specs.Values.{Valued}

abbrev pub is_truth : Value → Bool
is_truth (values.Bool b) = true
is_truth (values.Int z) = false

-- a value, if there is one, is of this kind
abbrev pub HasKind : Valued → Bool → Type 0
HasKind r b = (v : Value) → r ≡ Ok v → is_truth v ≡ b

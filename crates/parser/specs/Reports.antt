-- What a reader of the code says of its reader function.
use Rattle.std.specs.Prelude.{◌≡◌, Result, Ok, Err, Option, Some, None}
use Rattle.parser.specs.declared.read_error.ReadError.{ReadError}
use Rattle.parser.specs.declared.read_error.ReadError.TheVariants.{NoReading, Memory}

-- what failed says of what was read: want of memory says nothing
abbrev pub Misses : {A : Type 0} → ReadError → Option A → Type 0
Misses NoReading read = read ≡ None
Misses Memory read = Unit {0}

-- what the code answers, seen by view, is what was read, unless memory was refused
abbrev pub Agrees : {X A : Type 0} → (X → A) → Result X ReadError → Option A → Type 0
Agrees view (Ok x) read = read ≡ Some (view x)
Agrees view (Err e) read = Misses e read

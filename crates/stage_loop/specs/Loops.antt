-- The values of the variable of a DO statement (ANSI X3.9-1978, 11.10).
use Rattle.std.specs.Prelude.{ℕ, ◌<◌, ℤ, pos, ◌+ℤ◌, ◌*ℤ◌, FitsSigned}
use Rattle.std.specs.Int.{w32}

-- each of so many trips has an INTEGER for its variable
abbrev pub AreIntegers : ℤ → ℤ → ℕ → Type 0
AreIntegers value step count = (k : ℕ) → k < count → FitsSigned w32 (value +ℤ pos k *ℤ step)

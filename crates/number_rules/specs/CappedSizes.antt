-- Sizes that stop at the greatest number of 64 bits.
use Rattle.std.specs.Prelude.{◌≡◌, ℕ}
use Rattle.expressions.specs.Places.{capped}

-- the number, or the greatest one where it is greater
abbrev pub IsCapped : ℕ → ℕ → Type 0
IsCapped k n = k ≡ capped n

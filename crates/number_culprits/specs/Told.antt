-- What is told of a number or a constant expression that breaks the rule on them.
use Rattle.std.specs.Prelude.{ℕ, List, Option, option_map}
use Rattle.number_culprits.specs.declared.culprit.NumberCulprit.{NumberCulprit}
use Rattle.number_culprits.specs.declared.culprit.NumberCulprit.TheVariants as culprits

-- the digits of a constant; a name in an expression, without or with parentheses; the name of a
-- constant or an array whose expression faults
pub data Told : Type 0 where
  great : List ℕ → Told
  unknown : List ℕ → Told
  referenced : List ℕ → Told
  faulty : List ℕ → Told
  unbounded : List ℕ → Told

-- what a value of the Rust type stands for
abbrev pub told_at : NumberCulprit → Told
told_at (culprits.Great digits) = great digits.now
told_at (culprits.Unknown name) = unknown name.now
told_at (culprits.Referenced name) = referenced name.now
told_at (culprits.Faulty name) = faulty name.now
told_at (culprits.Unbounded name) = unbounded name.now

-- what is told, if anything is
abbrev pub tell : Option NumberCulprit → Option Told
tell c = option_map told_at c

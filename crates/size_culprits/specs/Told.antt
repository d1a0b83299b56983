-- What is told of an array that breaks the rule on sizes.
use Rattle.std.specs.Prelude.{ℕ, ℤ, List, Option, option_map}
use Rattle.size_culprits.specs.declared.culprit.SizeCulprit.{SizeCulprit}
use Rattle.size_culprits.specs.declared.culprit.SizeCulprit.TheVariants as culprits

-- the name of the array; how many dimensions it has; the bounds of a dimension; how many elements
-- it has, and how many stand before it
pub data Told : Type 0 where
  dimensioned : List ℕ → ℕ → Told
  reversed : List ℕ → ℤ → ℤ → Told
  crowded : List ℕ → ℕ → ℕ → Told

-- what a value of the Rust type stands for
abbrev pub told_at : SizeCulprit → Told
told_at (culprits.Dimensions name number) = dimensioned name.now number
told_at (culprits.Reversed name lower upper) = reversed name.now lower upper
told_at (culprits.Elements name own before) = crowded name.now own before

-- what is told, if anything is
abbrev pub tell : Option SizeCulprit → Option Told
tell c = option_map told_at c

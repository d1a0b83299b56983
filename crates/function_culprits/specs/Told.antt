-- What is told of a statement function that breaks the rule on them.
use Rattle.std.specs.Prelude.{ℕ, List, Option, option_map}
use Rattle.function_culprits.specs.declared.culprit.FunctionCulprit.{FunctionCulprit}
use Rattle.function_culprits.specs.declared.culprit.FunctionCulprit.TheVariants as culprits

-- the name of the function, or that of a dummy or of another function
pub data Told : Type 0 where
  late : List ℕ → Told
  conditional : List ℕ → Told
  crowded : List ℕ → Told
  unnamed : List ℕ → Told
  doubled : List ℕ → Told
  called : List ℕ → Told
  recursive : List ℕ → Told
  later : List ℕ → Told

-- what a value of the Rust type stands for
abbrev pub told_at : FunctionCulprit → Told
told_at (culprits.Late name) = late name.now
told_at (culprits.Conditional name) = conditional name.now
told_at (culprits.Crowded name) = crowded name.now
told_at (culprits.Unnamed name) = unnamed name.now
told_at (culprits.Doubled name) = doubled name.now
told_at (culprits.Called name) = called name.now
told_at (culprits.Recursive name) = recursive name.now
told_at (culprits.Later name) = later name.now

-- what is told, if anything is
abbrev pub tell : Option FunctionCulprit → Option Told
tell c = option_map told_at c

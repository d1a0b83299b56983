-- What is told of a name that breaks the rule on what names are.
use Rattle.std.specs.Prelude.{ℕ, List, Option, option_map}
use Rattle.name_culprits.specs.declared.culprit.Giving.{Giving}
use Rattle.name_culprits.specs.declared.culprit.NameCulprit.{NameCulprit}
use Rattle.name_culprits.specs.declared.culprit.NameCulprit.TheVariants as culprits

-- a name, what a statement gives it, and the line of that one; the name of a statement function
-- without parentheses; that of a constant that has them, or is set; the line of an IMPLICIT
-- statement
pub data Told : Type 0 where
  given : List ℕ → Giving → ℕ → Told
  bare : List ℕ → Told
  referenced : List ℕ → Told
  assigned : List ℕ → Told
  rival : ℕ → Told

-- what a value of the Rust type stands for
abbrev pub told_at : NameCulprit → Told
told_at (culprits.Given name giving line) = given name.now giving line
told_at (culprits.Bare name) = bare name.now
told_at (culprits.Referenced name) = referenced name.now
told_at (culprits.Set name) = assigned name.now
told_at (culprits.Rival line) = rival line

-- what is told, if anything is
abbrev pub tell : Option NameCulprit → Option Told
tell c = option_map told_at c

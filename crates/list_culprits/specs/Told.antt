-- What is told of a broken rule on lists: what breaks it.
use Rattle.std.specs.Prelude.{ℕ, List, Option, option_map}
use Rattle.list_culprits.specs.declared.culprit.Kind.{Kind}
use Rattle.list_culprits.specs.declared.culprit.ListCulprit.{ListCulprit}
use Rattle.list_culprits.specs.declared.culprit.ListCulprit.TheVariants as culprits

pub data Told : Type 0 where
  -- K2: the digits of a label: it stands nowhere
  nowhere : List ℕ → Told
  -- is that of a statement that no transfer may reach
  closed : List ℕ → Kind → Told
  -- stands in a range, or in a block, that begins at a line
  in_range : List ℕ → ℕ → Told
  in_block : List ℕ → ℕ → Told
  -- in none that is around, and elsewhere too
  apart : List ℕ → Told
  shared : List ℕ → Told
  -- K9: a name: it is no INTEGER variable
  uncounted : List ℕ → Told
  -- is the variable of the DO statement of a line
  counting : List ℕ → ℕ → Told
  -- is the variable of an implied DO around
  implied : List ℕ → Told

-- what a value of the Rust type stands for
abbrev pub told_at : ListCulprit → Told
told_at (culprits.Nowhere label) = nowhere label.now
told_at (culprits.Closed label kind) = closed label.now kind
told_at (culprits.InRange label line) = in_range label.now line
told_at (culprits.InBlock label line) = in_block label.now line
told_at (culprits.Apart label) = apart label.now
told_at (culprits.Shared label) = shared label.now
told_at (culprits.Uncounted name) = uncounted name.now
told_at (culprits.Counting name line) = counting name.now line
told_at (culprits.Implied name) = implied name.now

-- what is told, if anything is
abbrev pub tell : Option ListCulprit → Option Told
tell c = option_map told_at c

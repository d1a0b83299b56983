-- Uses of names behind references.
use Rattle.std.specs.Prelude.{ℕ, List, map, Option, Some, None}
use Rattle.meaning.specs.Syntax.{exprs_tree}
use Rattle.meaning.specs.Uses.{Use, count}
use Rattle.name_uses.specs.declared.uses.NameUse.{NameUse}
use Rattle.name_uses.specs.declared.uses.Arguments.{Arguments}
use Rattle.name_uses.specs.declared.uses.Arguments.TheVariants.{Bare, Without, With}

-- how many arguments stand in parentheses
abbrev pub arguments_at : Arguments → Option ℕ
arguments_at Bare = None
arguments_at Without = Some 0
arguments_at (With es) = Some (count (exprs_tree es.now))

abbrev pub use_at : NameUse → Use
use_at u = record { name = u.name.now; arguments = arguments_at u.arguments }

abbrev pub uses_at : List NameUse → List Use
uses_at us = map use_at us

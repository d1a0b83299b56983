-- The uses of names in a statement.
use Rattle.std.specs.Prelude.{Bool, List, ◌++◌}
use Rattle.meaning.specs.Syntax.{ShapeTree}
use Rattle.meaning.specs.Uses.{Symbols, Use, parts_of}

-- what it has values of
abbrev pub reads_in : Symbols → Bool → ShapeTree → List Use
reads_in r defines s = (parts_of r defines s).reads

-- what it sets and what it has values of
abbrev pub uses_in : Symbols → Bool → ShapeTree → List Use
uses_in r defines s = (parts_of r defines s).sets ++ (parts_of r defines s).reads

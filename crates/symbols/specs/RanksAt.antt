-- The arrays of statements behind references.
use Rattle.meaning.specs.Values.{Arrays}
use Rattle.meaning.specs.Scopes.{arrays_of}
use Rattle.symbols.specs.Listed.{trees_at}
use Rattle.symbols.specs.declared.arrays.Ranks.{Ranks}

abbrev pub arrays_at : Ranks → Arrays
arrays_at a = arrays_of (trees_at a.items.now)

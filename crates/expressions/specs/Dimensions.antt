-- What a dimension of the Rust type stands for.
use Rattle.meaning.specs.Arrays as arrays
use Rattle.expressions.specs.declared.dimension.Dimension.{Dimension}

abbrev pub dimension : Dimension → arrays.Dimension
dimension d = record { lower = d.lower; upper = d.upper }

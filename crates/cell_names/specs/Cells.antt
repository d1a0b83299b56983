-- What variables and arrays with their cells stand for.
use Rattle.std.specs.Prelude.{◌≡◌, ℕ, false, List, [], ◌∷◌, map}
use Rattle.std.specs.List.{list_any}
use Rattle.std.specs.Str.{bytes_eq}
use Rattle.expressions.specs.Dimensions.{dimension}
use Rattle.meaning.specs.Arrays as arrays
use Rattle.cell_names.specs.declared.named.Named.{Named}

-- a name with its dimensions
abbrev pub is_named : Named → arrays.Named
is_named x = record { name = x.name.items; dimensions = map dimension x.dimensions.items }

abbrev pub are_named : List Named → List arrays.Named
are_named xs = map is_named xs

-- no name stands twice
abbrev pub AreOnce : List (List ℕ) → Type 0
AreOnce [] = Unit {0}
AreOnce (n ∷ ns) = (list_any (bytes_eq n) ns ≡ false) × AreOnce ns

abbrev pub AreApart : List arrays.Named → Type 0
AreApart xs = AreOnce (map (λ (x : arrays.Named). x.name) xs)

-- The first array by which a statement breaks the rule on sizes (ANSI X3.9-1978, 5.1.1 and 5.1.2).
use Rattle.std.specs.Prelude.{ℕ, ◌+◌, ◌&&◌, nat_lt, length, List, [], ◌∷◌, if◌then◌else◌, Option}
use Rattle.std.specs.Prelude.{Some, None, option_map}
use Rattle.std.specs.List.{find}
use Rattle.std.specs.Option.{option_or}
use Rattle.meaning.specs.Arrays.{Dimension}
use Rattle.meaning.specs.NumberRules.{dimensions_by, elements_in, elements_of, is_reversed}
use Rattle.meaning.specs.NumberRules.{known_behind_all, lacks_bound}
use Rattle.meaning.specs.Scopes.{declarators_in}
use Rattle.meaning.specs.Syntax.{DeclaratorTree, ItemTree}
use Rattle.meaning.specs.Types.{Types}
use Rattle.meaning.specs.Uses.{Symbols}
use Rattle.meaning.specs.Values.{Known}
use Rattle.expressions.specs.Places.{capped}
use Rattle.size_culprits.specs.Told.{Told, dimensioned, reversed, crowded}

-- a lower bound above the upper one
abbrev pub reversed_in : List ℕ → List Dimension → Option Told
reversed_in name ds = option_map (λ d. reversed name d.lower d.upper) (find is_reversed ds)

-- too many elements, with those before it
abbrev pub crowded_in : Types → Known → ℕ → DeclaratorTree → Option Told
crowded_in types known before d =
    if nat_lt 0 (length d.bounds) && nat_lt 16777216 (before + elements_of types known d)
    then Some (crowded d.name (capped (elements_of types known d)) (capped before)) else None

-- of an array behind so many elements: an array without a bound's value has no bounds to compare,
-- and counts no elements
abbrev pub sized_in : Types → Known → ℕ → DeclaratorTree → Option Told
sized_in types known before d =
    option_or (reversed_in d.name (dimensions_by types known d)) (crowded_in types known before d)

abbrev pub large_of : Types → Known → ℕ → DeclaratorTree → Option Told
large_of types known before d =
    if nat_lt 7 (length d.bounds) then Some (dimensioned d.name (length d.bounds))
    else (if lacks_bound types known d then None else sized_in types known before d)

-- of several
abbrev pub first_large : Types → Known → ℕ → List DeclaratorTree → Option Told
first_large types known before [] = None
first_large types known before (d ∷ ds) =
    option_or (large_of types known before d)
    (first_large types known (before + elements_of types known d) ds)

-- K7, at a statement behind others
abbrev pub large_in : Symbols → List ItemTree → ItemTree → Option Told
large_in r before x =
    first_large r.names.types (known_behind_all r before) (elements_in r [] before)
    (declarators_in x.shape)

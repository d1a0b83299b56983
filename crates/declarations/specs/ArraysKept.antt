-- The dimensions of arrays by their names.
use Rattle.std.specs.Prelude.{◌≡◌, ℕ, List, map, option_map}
use Rattle.std.specs.Global.{Vec}
use Rattle.indexmap.specs.IndexMap.{IndexMap}
use Rattle.smallvec.specs.SmallVec.{SmallVec}
use Rattle.meaning.specs.declared.syntax.Declarator.{Declarator}
use Rattle.meaning.specs.Arrays as arrays
use Rattle.meaning.specs.Scopes.{dimensions_in, known_of, or_dimensions}
use Rattle.meaning.specs.Syntax.{declarator_tree}
use Rattle.meaning.specs.Uses.{Symbols}
use Rattle.meaning.specs.Values.{Arrays, Known}
use Rattle.symbols.specs.declared.names.Symbols.{Symbols as Kept}
use Rattle.name_maps.specs.Keeping.{kept_at}
use Rattle.symbols.specs.SymbolsAt.{symbols_at}
use Rattle.rule_passes.specs.Listed.{tree_at}
use Rattle.expressions.specs.declared.dimension.Dimension.{Dimension}
use Rattle.expressions.specs.Dimensions.{dimension}
use Rattle.declarations.specs.declared.known.Table.{Table}
use Rattle.declarations.specs.Tables.{known_at, types_in}

-- dimensions that are kept
abbrev pub dimensions_of : SmallVec Dimension → List arrays.Dimension
dimensions_of ds = map dimension ds.items

-- those that are kept of the arrays, by their names
abbrev pub arrays_kept : {S : Type 0} → IndexMap (Vec ℕ) (SmallVec Dimension) S → Arrays
arrays_kept kept n = option_map dimensions_of (kept_at kept n)

-- the arrays that are kept are those of the names
abbrev pub AreArrays : {S : Type 0} → Symbols → IndexMap (Vec ℕ) (SmallVec Dimension) S → Type 0
AreArrays r kept = (n : List ℕ) → arrays_kept kept n ≡ r.names.arrays n

-- the arrays, and for the names that have none what declarators give by the constants of a table
abbrev pub GainsDeclared : {S T : Type 0} → Table → IndexMap (Vec ℕ) (SmallVec Dimension) S →
    IndexMap (Vec ℕ) (SmallVec Dimension) T → List Declarator → Type 0
GainsDeclared t old new ds =
    (n : List ℕ) → arrays_kept new n
    ≡ or_dimensions (arrays_kept old n)
    (dimensions_in (types_in t) (known_at t) (map declarator_tree ds) n)

-- the constants that all statements define
abbrev pub AreConstants : Kept → Known → Type 0
AreConstants r known = known ≡ known_of (symbols_at r).names.types (map tree_at r.items.now)

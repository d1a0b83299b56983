-- What entries say of names, and what they say when names are put behind others.
use Rattle.std.specs.Prelude.{◌≡◌, ◌<◌, ◌≤◌, ◌^◌, ℕ, ◌+◌, List, [], ◌∷◌, ◌++◌, map, flat_map}
use Rattle.std.specs.Prelude.{Option, Some, None, option_map, if◌then◌else◌}
use Rattle.std.specs.Global.{Vec}
use Rattle.std.specs.List.{AllByRecursion, list_any}
use Rattle.std.specs.Option.{option_or}
use Rattle.std.specs.Str.{bytes_eq}
use Rattle.indexmap.specs.IndexMap.{IndexMap}
use Rattle.meaning.specs.declared.ending.Value.{Value}
use Rattle.meaning.specs.declared.syntax.DataType.{DataType}
use Rattle.meaning.specs.Arrays.{Dimension, Named, cells_of, extent, size}
use Rattle.meaning.specs.Scopes.{declarators_in, constants_in}
use Rattle.meaning.specs.declared.syntax.Declarator.{Declarator}
use Rattle.meaning.specs.declared.syntax.Item.{Item}
use Rattle.meaning.specs.declared.syntax.NamedConstant.{NamedConstant}
use Rattle.meaning.specs.declared.syntax.Shape.{Shape}
use Rattle.std.specs.Borrow.{Bor}
use Rattle.meaning.specs.Syntax.{ShapeTree, constant_tree, declarator_tree, shape_tree}
use Rattle.meaning.specs.Values.{dimensions_in}
use Rattle.symbols.specs.declared.names.Symbols.{Symbols}
use Rattle.name_maps.specs.Keeping.{kept_at}
use Rattle.symbols.specs.Listed.{trees_at}
use Rattle.name_maps.specs.NameSets.{texts}
use Rattle.symbols.specs.SymbolsAt.{symbols_at}
use Rattle.k_rules.specs.declared.verdict.Facts.{Facts}
use Rattle.k_rules.specs.Judged.{arrays_in, constant_in}
use Rattle.checker.specs.declared.entries.Storing.{Storing}
use Rattle.storage.specs.declared.parts.Entry.{Entry}
use Rattle.storage.specs.declared.parts.Storage.{Storage}
use Rattle.storage.specs.Kept.{dimensions_kept}
use Rattle.storage.specs.Numbered.{named}

-- the first cell of a name and its dimensions
pub record Placed : Type 0 where
  pub first : ℕ
  pub dimensions : List Dimension

abbrev pub place_from : List Dimension → ℕ → Placed
place_from ds c = record { first = c; dimensions = ds }

abbrev pub placed : Storage → Placed
placed s = record { first = s.first; dimensions = dimensions_kept s }

-- what an entry says
pub record Said : Type 0 where
  pub value : Option Value
  pub data_type : Option DataType
  pub storage : Option Placed

abbrev pub said : Entry → Said
said e = record { value = e.value; data_type = e.data_type; storage = option_map placed e.storage }

abbrev pub said_at : {S : Type 0} → IndexMap (Vec ℕ) Entry S → List ℕ → Option Said
said_at m n = option_map said (kept_at m n)

-- one more name, unless something is said of it
abbrev pub if_name : List ℕ → Said → List ℕ → Option Said
if_name name s n = if bytes_eq n name then Some s else None

abbrev pub AddsOne : {S : Type 0} → IndexMap (Vec ℕ) Entry S → IndexMap (Vec ℕ) Entry S → List ℕ →
    Said → Type 0
AddsOne m new name s = (n : List ℕ) → said_at new n ≡ option_or (said_at m n) (if_name name s n)

-- further names, of which this is said
abbrev pub if_among : (List ℕ → Said) → List (List ℕ) → List ℕ → Option Said
if_among f names n = if list_any (bytes_eq n) names then Some (f n) else None

abbrev pub Adds : {S : Type 0} → IndexMap (Vec ℕ) Entry S → IndexMap (Vec ℕ) Entry S →
    (List ℕ → Said) → List (List ℕ) → Type 0
Adds m new f names = (n : List ℕ) → said_at new n ≡ option_or (said_at m n) (if_among f names n)

-- what is said of a name that has no cells, and of one that has
abbrev pub described : Facts → Symbols → List ℕ → Said
described f r n =
    record { value = constant_in f n; data_type = (symbols_at r).names.types n; storage = None }

abbrev pub stored : Facts → Symbols → ℕ → List ℕ → Said
stored f r c n = record {
  value = constant_in f n;
  data_type = (symbols_at r).names.types n;
  storage = Some (place_from (dimensions_in (arrays_in f n)) c);
}

-- the first cell of a name, one name's cells behind another's
abbrev pub first_of : List Named → List ℕ → Option ℕ
first_of [] n = None
first_of (x ∷ xs) n =
    if bytes_eq n x.name then Some 0 else option_map (λ c. size x.dimensions + c) (first_of xs n)

abbrev pub stored_in : Facts → Symbols → List Named → List ℕ → Option Said
stored_in f r names n = option_map (λ c. stored f r c n) (first_of names n)

-- the names that a statement declares, and the constants that it defines
abbrev pub names_given : ShapeTree → List (List ℕ)
names_given s = map (λ d. d.name) (declarators_in s) ++ map (λ c. c.name) (constants_in s)

-- what is said of a name where these are variables and arrays
abbrev pub IsSaid : Facts → Symbols → List (List ℕ) → List ℕ → Option Said → Type 0
IsSaid f r names n o =
    o ≡ option_or (stored_in f r (named (arrays_in f) names) n)
    (if_among (described f r) (flat_map (λ x. names_given x.shape) (trees_at r.items.now)) n)

-- ---- what is made of names and of statements

-- the dimensions of a name, and its cells
abbrev pub dimensions_at : Facts → List ℕ → List Dimension
dimensions_at f n = dimensions_in (arrays_in f n)

abbrev pub cells_at : Facts → List ℕ → ℕ
cells_at f n = size (dimensions_at f n)

-- extents of 1 or more, and elements that can be counted
pub record AreCountable (ds : List Dimension) : Type 0 where
  pub filled : AllByRecursion (λ d. 1 ≤ extent d) ds
  pub few : size ds < 2 ^ 64

-- so it is with the dimensions of each name, and the cells of these names can be counted
pub record HaveRoom (f : Facts) (names : List (List ℕ)) : Type 0 where
  pub arrays : (n : List ℕ) → AreCountable (dimensions_at f n)
  pub few : cells_of (named (arrays_in f) names) < 2 ^ 64

-- names with their dimensions, as keys
abbrev pub named_by : Facts → List (Vec ℕ) → List Named
named_by f keys = named (arrays_in f) (texts keys)

-- a name more that has the next cells
abbrev pub AddsCells : Facts → Symbols → List ℕ → Storing → Storing → Type 0
AddsCells f r n old new = AddsOne old.entries new.entries n (stored f r old.next n)

abbrev pub AreStored : {S : Type 0} → Facts → Symbols → List (Vec ℕ) → IndexMap (Vec ℕ) Entry S →
    Type 0
AreStored f r keys m = (n : List ℕ) → said_at m n ≡ stored_in f r (named_by f keys) n

-- names more that have no cells: these, those in declarators, those of constants, those of a
-- statement, those of statements
abbrev pub Tells : {S : Type 0} → Facts → Symbols → IndexMap (Vec ℕ) Entry S →
    IndexMap (Vec ℕ) Entry S → List (List ℕ) → Type 0
Tells f r m new names = Adds m new (described f r) names

abbrev pub declared : List Declarator → List (List ℕ)
declared ds = map (λ d. d.name) (map declarator_tree ds)

abbrev pub defined : List NamedConstant → List (List ℕ)
defined cs = map (λ c. c.name) (map constant_tree cs)

abbrev pub given : Shape → List (List ℕ)
given s = names_given (shape_tree s)

abbrev pub given_in : List (Bor Item) → List (List ℕ)
given_in items = flat_map (λ x. names_given x.shape) (trees_at items)

abbrev pub AreSaid : {S : Type 0} → Facts → Symbols → List (List ℕ) → IndexMap (Vec ℕ) Entry S →
    Type 0
AreSaid f r names m = (n : List ℕ) → IsSaid f r names n (said_at m n)

-- What is kept of names.
use Rattle.std.specs.Prelude.{◌≡◌, ◌≤◌, ◌<◌, ◌+◌, ◌^◌, ℕ, ℤ, true, false, List, [], ◌∷◌, length}
use Rattle.std.specs.Prelude.{map, Option, Some, None, option_map, slice_get}
use Rattle.std.specs.Str.{bytes_eq}
use Rattle.meaning.specs.declared.ending.Value.{Value}
use Rattle.meaning.specs.declared.syntax.DataType.{DataType}
use Rattle.meaning.specs.declared.syntax.Member.{Member, Plain, Loop', Block}
use Rattle.meaning.specs.Syntax.{ShapeTree, assignment, definition, shape_tree}
use Rattle.meaning.specs.Arrays.{Dimension, place, size}
use Rattle.meaning.specs.Scopes.{Definition, listed}
use Rattle.expressions.specs.Dimensions.{dimension}
use Rattle.expressions.specs.declared.numbering.Function.{Function}
use Rattle.expressions.specs.Names.{definition_by}
use Rattle.storage.specs.declared.parts.Storage.{Storage}
use Rattle.storage.specs.declared.parts.Entry.{Entry}
use Rattle.storage.specs.declared.parts.FunctionAt.{FunctionAt}
use Rattle.storage.specs.Checked.{names_in, count_in}
use Rattle.meaning.specs.declared.syntax.Tree.{Tree}
use Rattle.storage.specs.Whereabouts.{Whereabouts, where_in}

-- ---- variables and arrays

abbrev pub dimensions_kept : Storage → List Dimension
dimensions_kept s = map dimension s.dimensions.items

-- an array has one dimension at least
abbrev pub array_of : List Dimension → Option (List Dimension)
array_of [] = None
array_of (d ∷ ds) = Some (d ∷ ds)

-- the cells from the first one on
pub record AreCells (w : Whereabouts) (s : Storage) : Type 0 where
  pub array : array_of (dimensions_kept s) ≡ w.array
  pub cells : (ss : List ℤ) → option_map (λ i. s.first + i) (place (dimensions_kept s) ss)
      ≡ w.cells ss
  pub room : s.first + size (dimensions_kept s) ≤ w.count

pub record HasNone (w : Whereabouts) : Type 0 where
  pub array : w.array ≡ None
  pub cells : (ss : List ℤ) → w.cells ss ≡ None

abbrev pub IsStored : Whereabouts → Option Storage → Type 0
IsStored w None = HasNone w
IsStored w (Some s) = AreCells w s

-- ---- entries

abbrev pub value_kept : Option Entry → Option Value
value_kept None = None
value_kept (Some e) = e.value

abbrev pub storage_kept : Option Entry → Option Storage
storage_kept None = None
storage_kept (Some e) = e.storage

-- this is kept of a name in a program
pub record Says (t : Tree) (n : List ℕ) (e : Entry) : Type 0 where
  pub value : e.value ≡ (names_in t).known n
  pub typed : e.data_type ≡ (names_in t).types n
  pub stored : IsStored (where_in t n) e.storage
  pub few : count_in t < 2 ^ 64

-- the type that is kept, or else that of the first letter
abbrev pub type_if : Option (Option DataType) → Option DataType
type_if None = None
type_if (Some o) = o

abbrev pub by_first : List (Option DataType) → List ℕ → Option DataType
by_first letters [] = None
by_first letters (c ∷ cs) = type_if (slice_get letters c)

-- a name begins with a byte, if it has letters
abbrev pub StartsWithByte : List ℕ → Type 0
StartsWithByte [] = Unit {0}
StartsWithByte (c ∷ cs) = c < 256

-- the type that is kept, if one is
abbrev pub IsTyped : Option DataType → Option Entry → Type 0
IsTyped o None = Unit {0}
IsTyped o (Some e) = e.data_type ≡ o

-- ---- statement functions

-- what a statement defines, if it defines a statement function of this name
abbrev pub shown_by : List ℕ → ShapeTree → Option Definition
shown_by n (assignment letters es e) = Some (record { name = n; dummies = listed es; body = e })
shown_by n (definition letters e) = Some (record { name = n; dummies = []; body = e })
shown_by n s = None

abbrev pub shown_at : List ℕ → Option Member → Option Definition
shown_at n (Some (Plain x)) = shown_by n (shape_tree x.form.shape.value)
shown_at n (Some (Loop' head shape range)) = None
shown_at n (Some (Block b)) = None
shown_at n None = None

abbrev pub function_by : List ℕ → Option Function → Option Definition
function_by n o = option_map (definition_by n) o

-- the member at this place of the body defines it
pub record IsThere (ds : List Definition) (n : List ℕ) (members : List Member) (a : FunctionAt) :
    Type 0 where
  pub definition : Definition
  pub shown : shown_at n (slice_get members a.member) ≡ Some definition
  pub found : slice_get ds a.at ≡ Some definition
  pub only : (k : ℕ) (d : Definition) → slice_get ds k ≡ Some d → bytes_eq n d.name ≡ true → k
      ≡ a.at
  pub few : length definition.dummies ≤ 16

abbrev pub IsFunctionAt : List Definition → List ℕ → List Member → Option FunctionAt → Type 0
IsFunctionAt ds n members None =
    (k : ℕ) (d : Definition) → slice_get ds k ≡ Some d → bytes_eq n d.name ≡ false
IsFunctionAt ds n members (Some a) = IsThere ds n members a

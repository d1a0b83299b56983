-- The values of output lists, implied DOs with them (ANSI X3.9-1978, 12.8.2).
use Rattle.std.specs.Prelude.{◌≡◌, ◌++◌, ℕ, List, Result, Ok, Err}
use Rattle.std.specs.Global.{Vec}
use Rattle.meaning.specs.declared.ending.FaultKind.{FaultKind}
use Rattle.meaning.specs.declared.ending.Value.{Value}
use Rattle.meaning.specs.declared.syntax.Tree.{Tree}
use Rattle.meaning.specs.Lists.{Listed, faulted, with_value, item_value, one_item, loop_listed}
use Rattle.meaning.specs.Lists.{listed}
use Rattle.meaning.specs.Maps.{Map}
use Rattle.meaning.specs.Stores.{World, Does}
use Rattle.meaning.specs.Syntax.{ListItemTree, value_item, loop_item}
use Rattle.meaning.specs.Trips.{span_of}
use Rattle.meaning.specs.Values.{Scope}
use Rattle.values.specs.Programs.{map_at}

-- what values come, from a map and with room for so many items
abbrev pub Items : Type 0
Items = Map → ℕ → Listed

-- those of an item
unfoldable pub item_listed : Scope → ListItemTree → Items
item_listed s (value_item e) m left = item_value s e m left
item_listed s (loop_item ys variable limits) m left =
    one_item left
    m (λ n. with_value (span_of s limits m)
    m (λ span. loop_listed (listed s ys) variable m n span))

-- values behind those before, and the room that is left, whatever values the store stands on
pub record Finds (t : Tree) (u v : World) (items : Items) (before after : List Value)
    (given left : ℕ) : Type 0 where
  pub values : List Value
  pub behind : after ≡ before ++ values
  pub does : Does u
      v (λ m n. items (map_at t m) given
      ≡ Ok (record { values = values; map = map_at t n; left = left }))

-- or the fault, with the map that it leaves
abbrev pub FindsOver : Tree → World → World → Items → List Value → List Value → ℕ → ℕ →
    Result (Unit {0}) FaultKind → Type 0
FindsOver t u v items before after given left (Ok x) = Finds t u v items before after given left
FindsOver t u v items before after given left (Err kind) =
    Does u v (λ m n. items (map_at t m) given ≡ faulted kind (map_at t n))

-- ---- a whole list

-- these values, and this map behind them
pub record Gives (found : Listed) (values : List Value) (new : Map) : Type 0 where
  pub left : ℕ
  pub is : found ≡ Ok (record { values = values; map = new; left = left })

-- a vector, or the fault with the map that it leaves
abbrev pub ListIs : Result (Vec Value) FaultKind → Map → Listed → Type 0
ListIs (Ok v) new found = Gives found v.items new
ListIs (Err kind) new found = found ≡ faulted kind new

-- What is told of arrays by the constants of a table.
use Rattle.std.specs.Prelude.{◌≡◌, ℕ, List, [], ◌∷◌, ◌++◌, map, Option}
use Rattle.meaning.specs.declared.syntax.Declarator.{Declarator}
use Rattle.meaning.specs.declared.syntax.Item.{Item}
use Rattle.meaning.specs.Syntax.{ItemTree, declarator_tree}
use Rattle.meaning.specs.Trees.{item_tree}
use Rattle.symbols.specs.declared.names.Symbols.{Symbols as Kept}
use Rattle.declarations.specs.declared.known.Table.{Table}
use Rattle.declarations.specs.Tables.{known_at, types_in}
use Rattle.number_rules.specs.Sized.{AreBehind}
use Rattle.size_culprits.specs.declared.sizes.Passed.{Passed}
use Rattle.size_culprits.specs.Sizes.{crowded_in, first_large, large_of}
use Rattle.size_culprits.specs.Told.{Told}

-- behind so many elements
abbrev pub crowded_at : Table → Declarator → ℕ → Option Told
crowded_at t d n = crowded_in (types_in t) (known_at t) n (declarator_tree d)

abbrev pub large_at : Table → Declarator → ℕ → Option Told
large_at t d n = large_of (types_in t) (known_at t) n (declarator_tree d)

abbrev pub first_large_at : Table → List Declarator → ℕ → Option Told
first_large_at t ds n = first_large (types_in t) (known_at t) n (map declarator_tree ds)

-- what is known behind statements
pub record AreBehindHere (r : Kept) (before : List ItemTree) (p : Passed) : Type 0 where
  pub same : p.table.symbols.now ≡ r
  pub behind : AreBehind p.table p.elements before

-- and behind one statement more
abbrev pub PassesOne : Passed → Passed → Item → Type 0
PassesOne old new x =
    (before : List ItemTree) → AreBehind old.table old.elements before →
    AreBehind new.table new.elements (before ++ item_tree x ∷ [])

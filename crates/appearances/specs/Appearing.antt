-- Names put behind others, where they are those of variables or arrays.
use Rattle.std.specs.Prelude.{◌≡◌, ℕ, List, map}
use Rattle.std.specs.Global.{Vec}
use Rattle.meaning.specs.declared.syntax.Declarator.{Declarator}
use Rattle.meaning.specs.declared.syntax.Item.{Item}
use Rattle.meaning.specs.Syntax.{ItemTree, declarator_tree}
use Rattle.meaning.specs.Trees.{item_tree}
use Rattle.symbols.specs.declared.names.Symbols.{Symbols}
use Rattle.symbols.specs.declared.stage.Stage.{Stage}
use Rattle.name_uses.specs.declared.uses.NameUse.{NameUse}
use Rattle.symbols.specs.Listed.{trees_at}
use Rattle.name_maps.specs.NameSets.{texts}
use Rattle.symbols.specs.SymbolsAt.{symbols_at}
use Rattle.symbols.specs.Stages.{IsBehind}
use Rattle.name_uses.specs.UsesAt.{uses_at}
use Rattle.storage.specs.Numbered.{appearing_by, names_at, variables_by, variables_first}
use Rattle.storage.specs.Numbered.{with_variables}

abbrev pub Puts : Symbols → List (Vec ℕ) → List (Vec ℕ) → List (List ℕ) → Type 0
Puts r old new names = texts new ≡ with_variables (symbols_at r) (texts old) names

-- the names that are declared, and those that are used
abbrev pub named : List Declarator → List (List ℕ)
named ds = map (λ d. d.name) (map declarator_tree ds)

abbrev pub used : List NameUse → List (List ℕ)
used us = map (λ u. u.name) (uses_at us)

-- the names of a statement that stands behind others
abbrev pub PutsNames : Symbols → Stage → Item → List (Vec ℕ) → List (Vec ℕ) → Type 0
PutsNames r s x old new =
    (before : List ItemTree) → IsBehind r s before →
    Puts r old new (names_at (symbols_at r) before (item_tree x))

-- the variables and arrays of the statements, in the order of their first appearance
abbrev pub appearing_at : Symbols → List (List ℕ)
appearing_at r = appearing_by (symbols_at r) (trees_at r.items.now)

-- the variables, and then the arrays
abbrev pub variables_first_at : Symbols → List (List ℕ) → List (List ℕ)
variables_first_at r names = variables_first (symbols_at r) names

abbrev pub variables_at : Symbols → List (List ℕ)
variables_at r = variables_by (symbols_at r) (trees_at r.items.now)

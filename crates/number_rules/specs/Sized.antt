-- How many elements arrays have, by the constants of a table.
use Rattle.std.specs.Prelude.{◌+◌, ℕ, Bool, List, [], map, nat_lt, sum_by}
use Rattle.meaning.specs.declared.syntax.Declarator.{Declarator}
use Rattle.meaning.specs.NumberRules.{elements_in, elements_of, have_too_large, is_too_large}
use Rattle.meaning.specs.Syntax.{ItemTree, declarator_tree}
use Rattle.symbols.specs.SymbolsAt.{symbols_at}
use Rattle.declarations.specs.declared.known.Table.{Table}
use Rattle.expressions.specs.Places.{capped}
use Rattle.number_rules.specs.CappedSizes.{IsCapped}
use Rattle.declarations.specs.Tables.{IsBehind, known_at, types_in}

-- the elements that a declarator gives
abbrev pub elements_at : Table → Declarator → ℕ
elements_at t d = elements_of (types_in t) (known_at t) (declarator_tree d)

-- those of several, behind so many
abbrev pub capped_with : Table → List Declarator → ℕ → ℕ
capped_with t ds n =
    capped (n + sum_by (elements_of (types_in t) (known_at t)) (map declarator_tree ds))

-- behind so many, there are too many, a declarator is too large, or one of several is
abbrev pub has_too_many_at : Table → Declarator → ℕ → Bool
has_too_many_at t d n = nat_lt 16777216 (n + elements_at t d)

abbrev pub is_too_large_at : Table → Declarator → ℕ → Bool
is_too_large_at t d n = is_too_large (types_in t) (known_at t) n (declarator_tree d)

abbrev pub have_too_large_at : Table → List Declarator → ℕ → Bool
have_too_large_at t ds n = have_too_large (types_in t) (known_at t) n (map declarator_tree ds)

-- a table and a number are those behind statements
pub record AreBehind (t : Table) (count : ℕ) (before : List ItemTree) : Type 0 where
  pub table : IsBehind t before
  pub elements : IsCapped count (elements_in (symbols_at t.symbols.now) [] before)

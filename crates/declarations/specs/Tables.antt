-- What is known of constants behind statements and in front of them.
use Rattle.std.specs.Prelude.{◌≡◌, ℕ, List, [], ◌∷◌, ◌++◌, map, Option}
use Rattle.std.specs.List.{fold}
use Rattle.std.specs.Borrow.{Bor}
use Rattle.meaning.specs.declared.ending.Value.{Value}
use Rattle.meaning.specs.declared.syntax.Expr.{Expr}
use Rattle.meaning.specs.declared.syntax.Item.{Item}
use Rattle.meaning.specs.declared.syntax.NamedConstant.{NamedConstant}
use Rattle.meaning.specs.Syntax.{ItemTree, constant_tree, expr_tree}
use Rattle.meaning.specs.Trees.{item_tree}
use Rattle.meaning.specs.Types.{Types}
use Rattle.meaning.specs.Values.{Known}
use Rattle.meaning.specs.Scopes.{constant_value, known_behind, known_of, with_constant}
use Rattle.symbols.specs.SymbolsAt.{symbols_at}
use Rattle.declarations.specs.declared.known.Table.{Table}
use Rattle.declarations.specs.declared.known.Own.{Own}
use Rattle.declarations.specs.declared.known.Scope.{Scope}
use Rattle.declarations.specs.KnownNames.{known_in, with_name}

-- the types of the names, and the constants of a table
abbrev pub types_in : Table → Types
types_in t = (symbols_at t.symbols.now).names.types

abbrev pub known_at : Table → Known
known_at t = known_in t.values

-- the table has the constants that these statements define
abbrev pub IsBehind : Table → List ItemTree → Type 0
IsBehind t before = known_at t ≡ known_of (types_in t) before

-- the constants behind those of a PARAMETER statement, and behind a statement
abbrev pub known_with : Table → List NamedConstant → Known
known_with t cs = fold (with_constant (types_in t)) (known_at t) (map constant_tree cs)

abbrev pub known_passing : Table → Item → Known
known_passing t x = known_behind (types_in t) (known_at t) (item_tree x).shape

-- what an expression of constants comes to
abbrev pub value_at : Types → Known → Expr → Option Value
value_at types known e = constant_value types known (expr_tree e)

-- a name more, with its value or with none
abbrev pub PutsName : Table → Table → List ℕ → Option Value → Type 0
PutsName old new name value = known_at new ≡ with_name name value (known_at old)

-- names of one's own in front of a table, the last first
abbrev pub with_own : Known → List Own → Known
with_own known os = fold (λ k o. with_name o.name.now o.value k) known os

abbrev pub scope_types : Scope → Types
scope_types s = types_in s.table.now

abbrev pub scope_known : Scope → Known
scope_known s = with_own (known_at s.table.now) s.own.items

-- a name of one's own more, and one less
abbrev pub EntersName : Scope → Scope → List ℕ → Option Value → Type 0
EntersName old new name value = scope_known new ≡ with_name name value (scope_known old)

abbrev pub EntersOwn : Scope → Scope → Bor (List ℕ) → Option Value → Type 0
EntersOwn old new name value =
    new.own.items ≡ old.own.items ++ record { name = name; value = value } ∷ []

abbrev pub LeavesOwn : Scope → Scope → Type 0
LeavesOwn old new =
    (outer : List Own) (one : Own) → old.own.items ≡ outer ++ one ∷ [] → new.own.items ≡ outer

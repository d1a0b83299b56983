-- A statement function by what is known of those before it.
use Rattle.std.specs.Prelude.{◌≡◌, ℕ, suc, Bool, false, not, ◌&&◌, ◌||◌, nat_lt, List, [], ◌∷◌}
use Rattle.std.specs.Prelude.{reverse, is_some, if◌then◌else◌, Option, Some, None, option_map}
use Rattle.std.specs.List.{list_any}
use Rattle.std.specs.Str.{bytes_eq}
use Rattle.meaning.specs.NameRules.{greatest, has_bad_dummies, level_by, nodes_by, nodes_in}
use Rattle.meaning.specs.Scopes.{Definition, definitions_of, is_dummy}
use Rattle.meaning.specs.Syntax.{ExprTree, ItemTree}
use Rattle.meaning.specs.Uses.{Symbols, Use, is_function, is_one_of, uses_in}
use Rattle.function_rules.specs.Measured.{capped}

-- a name stands twice
abbrev pub stands_twice : List (List ℕ) → Bool
stands_twice [] = false
stands_twice (n ∷ ns) = is_one_of ns n || stands_twice ns

-- a dummy that is used as a function, and a statement function that isn't known
abbrev pub is_dummy_use : List ExprTree → Use → Bool
is_dummy_use dummies u = is_some u.arguments && is_dummy dummies u.name

abbrev pub is_later_use : Symbols → (List ℕ → Bool) → Use → Bool
is_later_use r known u = is_some u.arguments && (is_function r u.name && not (known u.name))

-- the rule on a statement function and its uses
abbrev pub is_ill_by : Symbols → (List ℕ → Bool) → (List ℕ → ℕ) → (List ℕ → Option ℕ) → Definition →
    List Use → Bool
is_ill_by r known level nodes d us =
    list_any (is_dummy_use d.dummies) us
    || (list_any (is_later_use r known) us
    || (nat_lt 32 (capped (suc (greatest level us)))
    || nat_lt 65536 (capped (nodes_in nodes d.body))))

abbrev pub is_bad_by : Symbols → (List ℕ → Bool) → (List ℕ → ℕ) → (List ℕ → Option ℕ) → Definition →
    Bool
is_bad_by r known level nodes d =
    has_bad_dummies d || is_ill_by r known level nodes d (uses_in d.body)

-- what is known behind a statement that may define one
abbrev pub level_behind : (List ℕ → ℕ) → Option Definition → List ℕ → ℕ
level_behind level None n = level n
level_behind level (Some d) n =
    if bytes_eq n d.name then capped (suc (greatest level (uses_in d.body))) else level n

abbrev pub nodes_behind : (List ℕ → Option ℕ) → Option Definition → List ℕ → Option ℕ
nodes_behind nodes None n = nodes n
nodes_behind nodes (Some d) n =
    if bytes_eq n d.name then Some (capped (nodes_in nodes d.body)) else nodes n

-- the statement functions before a statement, the last first
abbrev pub earlier : Symbols → List ItemTree → List Definition
earlier r before = reverse (definitions_of r.names.arrays before)

-- what is known of them, and how far one has come
pub record Describes (Stage : Type 0) (r : Symbols) (before : List ItemTree) (level : List ℕ → ℕ)
    (known : List ℕ → Option ℕ) : Type 0 where
  pub stage : Stage
  pub levels : (n : List ℕ) → level n ≡ capped (level_by (earlier r before) n)
  pub nodes : (n : List ℕ) → known n ≡ option_map capped (nodes_by (earlier r before) n)

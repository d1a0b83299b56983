-- The variables of a program unit and then its arrays, each in the order of their first appearance,
-- and their cells (ANSI X3.9-1978, 2.5, 5.4, chapters 8, 9 and 17).
use Rattle.std.specs.Prelude.{ℕ, Bool, ◌||◌, List, [], ◌∷◌, ◌++◌, map}
use Rattle.std.specs.List.{filter}
use Rattle.meaning.specs.Syntax.{ItemTree}
use Rattle.meaning.specs.Arrays.{Named}
use Rattle.meaning.specs.Values.{Arrays, dimensions_in}
use Rattle.meaning.specs.Scopes.{declarators_in, arrays_of}
use Rattle.meaning.specs.Uses.{Symbols, symbols_of, is_array, is_other, uses_at}
use Rattle.name_maps.specs.NameSets.{with_names}

-- the names that a statement declares, and then those that it sets and has values of
abbrev pub names_at : Symbols → List ItemTree → ItemTree → List (List ℕ)
names_at r before x =
    map (λ d. d.name) (declarators_in x.shape) ++ map (λ u. u.name) (uses_at r before x)

-- those of statements that stand behind others
unfoldable pub names_from : Symbols → List ItemTree → List ItemTree → List (List ℕ)
names_from r before [] = []
names_from r before (x ∷ xs) = names_at r before x ++ names_from r (before ++ x ∷ []) xs

-- no constants, and no statement functions
abbrev pub is_variable : Symbols → List ℕ → Bool
is_variable r n = is_array r n || is_other r n

-- those of the names that pass a test behind others, in the order of their first appearance
abbrev pub with_those : (List ℕ → Bool) → List (List ℕ) → List (List ℕ) → List (List ℕ)
with_those test names more = with_names names (filter test more)

abbrev pub with_variables : Symbols → List (List ℕ) → List (List ℕ) → List (List ℕ)
with_variables r names more = with_those (is_variable r) names more

-- the variables and arrays as they appear first
abbrev pub appearing_by : Symbols → List ItemTree → List (List ℕ)
appearing_by r all = with_variables r [] (names_from r [] all)

-- the variables of such names, and then their arrays
abbrev pub variables_first : Symbols → List (List ℕ) → List (List ℕ)
variables_first r names = with_those (is_array r) (with_those (is_other r) [] names) names

abbrev pub variables_by : Symbols → List ItemTree → List (List ℕ)
variables_by r all = variables_first r (appearing_by r all)

abbrev pub variables_of : List ItemTree → List (List ℕ)
variables_of all = variables_by (symbols_of all) all

-- names with their dimensions
abbrev pub named : Arrays → List (List ℕ) → List Named
named arrays names = map (λ n. record { name = n; dimensions = dimensions_in (arrays n) }) names

abbrev pub named_of : List ItemTree → List Named
named_of all = named (arrays_of all) (variables_of all)

-- The arrays and the cells of a program unit that keeps the rules (ANSI X3.9-1978, 5.1, 5.4 and
-- chapter 9).
use Rattle.std.specs.Prelude.{◌≡◌, ◌≤◌, true, ℕ, [], length, List, Some}
use Rattle.std.specs.List.{AllByRecursion, list_any}
use Rattle.std.specs.Str.{bytes_eq}
use Rattle.meaning.specs.Arrays.{Dimension, cells_of, extent, size}
use Rattle.meaning.specs.Initial.{starts_from}
use Rattle.meaning.specs.Scopes.{arrays_of}
use Rattle.meaning.specs.Trees.{Nested, flatten}
use Rattle.meaning.specs.Uses.{symbols_of}
use Rattle.storage.specs.Numbered.{named_of, variables_of}

-- one to seven, in each of which a subscript may have some value, with 16,777,216 elements at most
-- (own)
pub record AreDimensions (ds : List Dimension) : Type 0 where
  pub some : 1 ≤ length ds
  pub few : length ds ≤ 7
  pub values : AllByRecursion (λ d. 1 ≤ extent d) ds
  pub elements : size ds ≤ 16777216

abbrev pub AreSized : Nested → Type 0
AreSized t =
    (n : List ℕ) (dims : List Dimension) → arrays_of (flatten t) n ≡ Some dims → AreDimensions dims

-- a variable or an array
abbrev pub IsVariable : Nested → List ℕ → Type 0
IsVariable t n = list_any (bytes_eq n) (variables_of (flatten t)) ≡ true

-- each name that DATA statements give a value is one
abbrev pub AreStartsNamed : Nested → Type 0
AreStartsNamed t =
    AllByRecursion (λ s. IsVariable t s.target.name)
    (starts_from (symbols_of (flatten t)) [] (flatten t))

abbrev pub count_of : Nested → ℕ
count_of t = cells_of (named_of (flatten t))

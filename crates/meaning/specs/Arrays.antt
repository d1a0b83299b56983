-- Arrays (ANSI X3.9-1978, 5.1 to 5.4): their dimensions, and the places of their elements among the
-- cells of a program.
use Rattle.std.specs.Prelude.{◌≡◌, ◌<◌, ℕ, ◌+◌, ◌*◌, ℤ, pos, negsuc, ◌+ℤ◌, ◌-ℤ◌, List, [], ◌∷◌}
use Rattle.std.specs.Prelude.{nat_lt, map, flat_map, if◌then◌else◌, Option, Some, None, option_map}
use Rattle.std.specs.List.{range_with_len}
use Rattle.std.specs.Str.{bytes_eq}
use Rattle.meaning.specs.Characters.{at_least_zero}

-- a dimension by its bounds (5.1.1.1)
pub record Dimension : Type 0 where
  pub lower : ℤ
  pub upper : ℤ

-- how many values a subscript may have (5.1.2)
abbrev pub extent : Dimension → ℕ
extent d = at_least_zero (d.upper -ℤ d.lower +ℤ pos 1)

-- how many elements there are (5.1.2); a variable is as an array without dimensions
abbrev pub size : List Dimension → ℕ
size [] = 1
size (d ∷ ds) = extent d * size ds

-- ---- the order of elements

-- a number from 0 on, and below n
abbrev pub within : ℕ → ℤ → Option ℕ
within n (pos k) = if nat_lt k n then Some k else None
within n (negsuc k) = None

-- how far a subscript stands above the lower bound, where it lies within the bounds (5.4.2)
abbrev pub above : Dimension → ℤ → Option ℕ
above d s = within (extent d) (s -ℤ d.lower)

-- a place in the first dimension, of n, and a place in the others
abbrev pub combined : ℕ → Option ℕ → Option ℕ → Option ℕ
combined n (Some k) (Some i) = Some (k + n * i)
combined n (Some k) None = None
combined n None o = None

-- the place of the element with these subscripts, counted from 0: the first subscript varies
-- fastest (5.2.4, 5.4.3)
abbrev pub place : List Dimension → List ℤ → Option ℕ
place [] [] = Some 0
place [] (s ∷ ss) = None
place (d ∷ ds) [] = None
place (d ∷ ds) (s ∷ ss) = combined (extent d) (above d s) (place ds ss)

-- the subscripts of the elements in that order
abbrev pub values_between : Dimension → List ℤ
values_between d = map (λ k. d.lower +ℤ pos k) (range_with_len 0 (extent d))

unfoldable pub elements : List Dimension → List (List ℤ)
elements [] = [] ∷ []
elements (d ∷ ds) = flat_map (λ rest. map (λ s. s ∷ rest) (values_between d)) (elements ds)

-- ---- cells

-- a name with its dimensions
pub record Named : Type 0 where
  pub name : List ℕ
  pub dimensions : List Dimension

-- how many cells the names have, one name's behind another's
abbrev pub cells_of : List Named → ℕ
cells_of [] = 0
cells_of (x ∷ xs) = size x.dimensions + cells_of xs

-- the cell of a variable or of an array element
abbrev pub cell_of : List Named → List ℕ → List ℤ → Option ℕ
cell_of [] n ss = None
cell_of (x ∷ xs) n ss =
    if bytes_eq n x.name then place x.dimensions ss
    else option_map (λ c. size x.dimensions + c) (cell_of xs n ss)

-- ---- laws

-- each element has a place of its own, and each place an element
pub record AreOneToOne (ds : List Dimension) : Type 0 where
  pub small : (ss : List ℤ) (i : ℕ) → place ds ss ≡ Some i → i < size ds
  pub own : (ss ts : List ℤ) (i : ℕ) → place ds ss ≡ Some i → place ds ts ≡ Some i → ss ≡ ts
  pub all : (i : ℕ) → i < size ds → (ss : List ℤ) × (place ds ss ≡ Some i)

-- each variable and each element has a cell of its own
pub record HaveOwnCells (names : List Named) : Type 0 where
  pub small : (n : List ℕ) (ss : List ℤ) (c : ℕ) → cell_of names n ss ≡ Some c → c < cells_of names
  pub own : (n p : List ℕ) (ss ts : List ℤ) (c : ℕ) → cell_of names n ss ≡ Some c →
      cell_of names p ts ≡ Some c → (n ≡ p) × (ss ≡ ts)

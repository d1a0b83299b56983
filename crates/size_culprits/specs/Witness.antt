-- What is told is a witness: by it a statement breaks the rule on sizes behind others.
use Rattle.std.specs.Prelude.{◌≡◌, ℕ, ◌+◌, ℤ, Bool, false, nat_lt, length, List, [], ◌∷◌, IsTrue}
use Rattle.std.specs.Prelude.{◌⊎◌}
use Rattle.std.specs.List.{Contains}
use Rattle.finding.specs.Answers.{IsAnswer}
use Rattle.meaning.specs.Arrays.{Dimension}
use Rattle.meaning.specs.NumberRules.{dimensions_by, elements_in, elements_of, has_large_array}
use Rattle.meaning.specs.NumberRules.{is_reversed, known_behind_all, lacks_bound}
use Rattle.meaning.specs.Scopes.{declarators_in}
use Rattle.meaning.specs.Syntax.{DeclaratorTree, ItemTree}
use Rattle.meaning.specs.Types.{Types}
use Rattle.meaning.specs.Uses.{Symbols}
use Rattle.meaning.specs.Values.{Known}
use Rattle.expressions.specs.Places.{capped}
use Rattle.size_culprits.specs.Sizes.{large_in}
use Rattle.size_culprits.specs.Told.{Told, dimensioned, reversed, crowded}

-- a dimension has these bounds, the lower one above the upper one
pub record IsReversedBy (ds : List Dimension) (lower upper : ℤ) : Type 0 where
  pub dimension : Dimension
  pub stands : Contains ds dimension
  pub lower_is : dimension.lower ≡ lower
  pub upper_is : dimension.upper ≡ upper
  pub is_reversed : IsTrue (is_reversed dimension)

-- the array has so many elements, and so many stand before it, 2^64-1 where there are more; all are
-- too many
pub record IsCrowdedBy (elements all_before own before : ℕ) : Type 0 where
  pub own_is : capped elements ≡ own
  pub before_is : capped all_before ≡ before
  pub are_too_many : IsTrue (nat_lt 16777216 (all_before + elements))

-- an array of that name, whose bounds have values, behind so many elements
abbrev pub IsLargeBy : Types → Known → ℕ → DeclaratorTree → Told → Type 0
IsLargeBy types known n d (dimensioned name number) =
    (d.name ≡ name) × (length d.bounds ≡ number) × IsTrue (nat_lt 7 number)
IsLargeBy types known n d (reversed name lower upper) =
    (d.name ≡ name) × (lacks_bound types known d ≡ false)
    × IsReversedBy (dimensions_by types known d) lower upper
IsLargeBy types known n d (crowded name own before) =
    (d.name ≡ name) × (lacks_bound types known d ≡ false)
    × IsCrowdedBy (elements_of types known d) n own before

-- one of several
abbrev pub IsLargeAmong : Types → Known → ℕ → List DeclaratorTree → Told → Type 0
IsLargeAmong types known n [] k = ⊥
IsLargeAmong types known n (d ∷ ds) k =
    IsLargeBy types known n d k ⊎ IsLargeAmong types known (n + elements_of types known d) ds k

-- one that the statement declares
abbrev pub IsBy : Symbols → List ItemTree → ItemTree → Told → Type 0
IsBy r before x k =
    IsLargeAmong r.names.types (known_behind_all r before) (elements_in r [] before)
    (declarators_in x.shape) k

abbrev pub TellsWitnesses : Type 0
TellsWitnesses =
    (r : Symbols) (before : List ItemTree) (x : ItemTree) →
    IsAnswer (IsBy r before x) (has_large_array r before x) (large_in r before x)

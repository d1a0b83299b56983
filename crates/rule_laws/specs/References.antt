-- What a name with parentheses refers to (ANSI X3.9-1978, 5.4, 15.3 and 15.4).
use Rattle.std.specs.Prelude.{◌≡◌, ◌<◌, ◌≤◌, ℕ, ℤ, IsTrue, List, length, Option, Some, None}
use Rattle.std.specs.Prelude.{slice_get}
use Rattle.meaning.specs.Arrays.{Dimension}
use Rattle.meaning.specs.Intrinsics.{Intrinsic, intrinsic_named, takes}
use Rattle.meaning.specs.Maps.{CellNumbers}
use Rattle.meaning.specs.Scopes.{Definition}
use Rattle.meaning.specs.Uses.{Use}
use Rattle.expressions.specs.Calls.{AreOthers}
use Rattle.expressions.specs.Glossaries.{Glossary}

-- the name with these subscripts has a cell
pub record HasCell (numbers : CellNumbers) (n : List ℕ) (ss : List ℤ) : Type 0 where
  pub cell : ℕ
  pub found : numbers n ss ≡ Some cell

-- some element of the array has one
pub record HasElement (numbers : CellNumbers) (n : List ℕ) : Type 0 where
  pub subscripts : List ℤ
  pub kept : HasCell numbers n subscripts

-- an intrinsic function that takes so many arguments (15.3)
pub record IsIntrinsic (n : List ℕ) (count : ℕ) : Type 0 where
  pub function : Intrinsic
  pub named : intrinsic_named n ≡ Some function
  pub taken : IsTrue (takes function count)

-- so many arguments of a function: one of the first so many statement functions, or, where none of
-- them has the name, an intrinsic one
pub record IsCalled (ds : List Definition) (callable : ℕ) (n : List ℕ) (count : ℕ) : Type 0 where
  pub defined : (at : ℕ) (d : Definition) → at < callable → slice_get ds at ≡ Some d → d.name ≡ n →
      length d.dummies ≡ count
  pub intrinsic : AreOthers ds callable n → IsIntrinsic n count

-- so many subscripts of an array that has a cell, or arguments
abbrev pub IsReferenceAs : Glossary → CellNumbers → ℕ → List ℕ → ℕ → Option (List Dimension) →
    Type 0
IsReferenceAs g numbers callable n count (Some ds) =
    (1 ≤ count) × (count ≡ length ds) × HasElement numbers n
IsReferenceAs g numbers callable n count None = IsCalled g.definitions callable n count

abbrev pub IsReferenceBy : Glossary → CellNumbers → ℕ → List ℕ → Option ℕ → Type 0
IsReferenceBy g numbers callable n None = Unit {0}
IsReferenceBy g numbers callable n (Some count) =
    IsReferenceAs g numbers callable n count (g.arrays n)

-- a use of a name with parentheses is a reference; one without is free
abbrev pub IsReference : Glossary → CellNumbers → ℕ → Use → Type 0
IsReference g numbers callable u = IsReferenceBy g numbers callable u.name u.arguments

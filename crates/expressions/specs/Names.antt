-- What a numbering says of a name.
use Rattle.std.specs.Prelude.{◌≡◌, ◌≤◌, ◌<◌, ◌^◌, ℕ, ℤ, true, false, List, length, Option, Some}
use Rattle.std.specs.Prelude.{None, slice_get}
use Rattle.std.specs.Str.{bytes_eq}
use Rattle.meaning.specs.Syntax.{expr_tree, exprs_tree}
use Rattle.meaning.specs.Maps.{CellNumbers}
use Rattle.meaning.specs.Values.{dimensions_in}
use Rattle.meaning.specs.Scopes.{Definition, listed}
use Rattle.expressions.specs.declared.numbering.Cells.{Cells}
use Rattle.expressions.specs.declared.numbering.Named.{Named}
use Rattle.expressions.specs.declared.numbering.Named.TheVariants.{Constant, Variable}
use Rattle.expressions.specs.declared.numbering.Function.{Function}
use Rattle.expressions.specs.Glossaries.{Glossary}
use Rattle.expressions.specs.Places.{left, behind, limit}

module _ (g : Glossary) (numbers : CellNumbers) (count : ℕ) (n : List ℕ) where
  -- a variable's or an array's cells and its type
  pub record AreCells (c : Cells) : Type 0 where
    pub dimensions : left c.place ≡ dimensions_in (g.arrays n)
    pub cells : (ss : List ℤ) → behind c.place ss ≡ numbers n ss
    pub typed : c.data_type ≡ g.types n
    pub limited : limit c.place ≤ count
    pub few : limit c.place < 2 ^ 64

  abbrev pub IsNamed : Named → Type 0
  IsNamed (Constant v) = g.known n ≡ Some v
  IsNamed (Variable c) = (g.known n ≡ None) × AreCells c

  abbrev pub IsArray : Option Cells → Type 0
  IsArray None = g.arrays n ≡ None
  IsArray (Some c) = (g.arrays n ≡ Some (left c.place)) × AreCells c

-- ---- statement functions

abbrev pub definition_by : List ℕ → Function → Definition
definition_by n f =
    record { name = n; dummies = listed (exprs_tree f.dummies.now); body = expr_tree f.body.now }

-- it stands at its place, no other has its name, and it has sixteen dummies at most
pub record IsDefined (ds : List Definition) (n : List ℕ) (f : Function) : Type 0 where
  pub found : slice_get ds f.at ≡ Some (definition_by n f)
  pub only : (k : ℕ) (d : Definition) → slice_get ds k ≡ Some d → bytes_eq n d.name ≡ true → k
      ≡ f.at
  pub few : length (listed (exprs_tree f.dummies.now)) ≤ 16

abbrev pub IsFunction : List Definition → List ℕ → Option Function → Type 0
IsFunction ds n None =
    (k : ℕ) (d : Definition) → slice_get ds k ≡ Some d → bytes_eq n d.name ≡ false
IsFunction ds n (Some f) = IsDefined ds n f

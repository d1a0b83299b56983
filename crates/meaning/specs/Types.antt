-- The data types of names (ANSI X3.9-1978, 4.1.2, 8.4 and 8.5). There is no data of type REAL here:
-- a name of that type has none.
use Rattle.std.specs.Prelude.{ℕ, Bool, true, false, ◌&&◌, nat_le, List, [], ◌∷◌, map, flat_map}
use Rattle.std.specs.Prelude.{if◌then◌else◌, Option, Some, None, unwrap_or}
use Rattle.std.specs.List.{list_any}
use Rattle.std.specs.Option.{option_or}
use Rattle.std.specs.Str.{bytes_eq}
use Rattle.meaning.specs.declared.syntax.DataType.{DataType}
use Rattle.meaning.specs.declared.syntax.DataType.TheVariants as types
use Rattle.meaning.specs.Syntax.{LettersTree, ImplicitTree, DeclaratorTree, ShapeTree, typing}
use Rattle.meaning.specs.Syntax.{logical_typing, implying, implicit_none, ItemTree}

-- a type for each name that has one
abbrev pub Types : Type 0
Types = List ℕ → Option DataType

-- a letter is among those of an IMPLICIT statement; a range out of order holds none (own)
abbrev pub is_among : ℕ → LettersTree → Bool
is_among c l = nat_le l.first_letter c && nat_le c (unwrap_or l.last_letter l.first_letter)

-- the type that IMPLICIT statements give a letter, the first that does (own)
abbrev pub implied_by : List ImplicitTree → ℕ → Option DataType
implied_by [] c = None
implied_by (p ∷ ps) c =
    if list_any (is_among c) p.letters then Some p.data_type else implied_by ps c

-- without one a name is INTEGER from I to N
abbrev pub by_letter : ℕ → Option DataType
by_letter c = if nat_le 73 c && nat_le c 78 then Some types.Integer else None

-- under IMPLICIT NONE no letter gives a type (own)
abbrev pub unless_none : Bool → Option DataType → Option DataType
unless_none true k = None
unless_none false k = k

abbrev pub by_first_letter : Bool → List ImplicitTree → Types
by_first_letter alone ps [] = None
by_first_letter alone ps (c ∷ cs) = unless_none alone (option_or (implied_by ps c) (by_letter c))

-- a name in a type statement, and the type that it is given
pub record TypedName : Type 0 where
  pub name : List ℕ
  pub data_type : DataType

abbrev pub typed_as : DataType → List DeclaratorTree → List TypedName
typed_as k ds = map (λ d. record { name = d.name; data_type = k }) ds

abbrev pub typed_in : ShapeTree → List TypedName
typed_in (typing ds) = typed_as types.Integer ds
typed_in (logical_typing ds) = typed_as types.Logical ds
typed_in s = []

abbrev pub implied_in : ShapeTree → List ImplicitTree
implied_in (implying ps) = ps
implied_in s = []

-- the type that type statements give a name, the first that does (own)
abbrev pub declared_by : List TypedName → Types
declared_by [] n = None
declared_by (t ∷ ts) n = if bytes_eq n t.name then Some t.data_type else declared_by ts n

-- IMPLICIT NONE stands in the program unit (own)
abbrev pub is_implicit_none : ShapeTree → Bool
is_implicit_none implicit_none = true
is_implicit_none s = false

abbrev pub has_implicit_none : List ItemTree → Bool
has_implicit_none all = list_any (λ (x : ItemTree). is_implicit_none x.shape) all

-- the types of the names of a program unit; a type statement holds for the whole unit (own)
abbrev pub types_of : List ItemTree → Types
types_of all n =
    option_or (declared_by (flat_map (λ x. typed_in x.shape) all) n)
    (by_first_letter (has_implicit_none all) (flat_map (λ x. implied_in x.shape) all) n)

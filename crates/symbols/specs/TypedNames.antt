-- The types of names, in short.
use Rattle.std.specs.Prelude.{ℕ, Bool, List, flat_map, Option}
use Rattle.std.specs.Option.{option_or}
use Rattle.std.specs.Borrow.{Bor}
use Rattle.meaning.specs.declared.syntax.DataType.{DataType}
use Rattle.meaning.specs.declared.syntax.ImplicitPart.{ImplicitPart}
use Rattle.meaning.specs.Syntax.{ImplicitTree, ItemTree, implicit_tree}
use Rattle.meaning.specs.Types.{TypedName, typed_in, implied_in, implied_by, by_letter, unless_none}

-- the names in type statements, and the parts of IMPLICIT statements
abbrev pub typed_names : List ItemTree → List TypedName
typed_names all = flat_map (λ x. typed_in x.shape) all

abbrev pub implicit_parts : List ItemTree → List ImplicitTree
implicit_parts all = flat_map (λ x. implied_in x.shape) all

abbrev pub part_at : Bor ImplicitPart → ImplicitTree
part_at p = implicit_tree p.now

-- the type of the names that begin with a letter
abbrev pub letter_type : Bool → List ImplicitTree → ℕ → Option DataType
letter_type alone ps c = unless_none alone (option_or (implied_by ps c) (by_letter c))

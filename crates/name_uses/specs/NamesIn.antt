-- Names in what a statement says.
use Rattle.std.specs.Prelude.{ℕ, Bool, List, [], if◌then◌else◌, map}
use Rattle.std.specs.Borrow.{Bor}
use Rattle.std.specs.Global.{Vec}
use Rattle.std.specs.List.{filter}
use Rattle.meaning.specs.declared.syntax.Declarator.{Declarator}
use Rattle.meaning.specs.declared.syntax.NamedConstant.{NamedConstant}
use Rattle.meaning.specs.NameRules.{has_bounds, is_logical_type}
use Rattle.meaning.specs.Scopes.{constants_in, defined_by}
use Rattle.meaning.specs.Syntax.{ShapeTree, constant_tree, declarator_tree}
use Rattle.meaning.specs.Types.{typed_in}
use Rattle.meaning.specs.Typing.{option_list}
use Rattle.meaning.specs.Uses.{Symbols}
use Rattle.name_uses.specs.Held.{AreNames}

-- names that are declared, those that are given bounds, and those of constants
abbrev pub declared : List Declarator → List (List ℕ)
declared ds = map (λ d. d.name) (map declarator_tree ds)

abbrev pub bounded : List Declarator → List (List ℕ)
bounded ds = map (λ d. d.name) (filter has_bounds (map declarator_tree ds))

abbrev pub constant : List NamedConstant → List (List ℕ)
constant cs = map (λ c. c.name) (map constant_tree cs)

-- those that a statement gives a type, the type LOGICAL, and a value
abbrev pub typed : ShapeTree → List (List ℕ)
typed s = map (λ t. t.name) (typed_in s)

abbrev pub logical : ShapeTree → List (List ℕ)
logical s = map (λ t. t.name) (filter (λ t. is_logical_type t.data_type) (typed_in s))

abbrev pub valued : ShapeTree → List (List ℕ)
valued s = map (λ c. c.name) (constants_in s)

-- that of a statement function
abbrev pub defined : Symbols → ShapeTree → List (List ℕ)
defined r s = map (λ d. d.name) (option_list (defined_by r.names.arrays s))

-- references to it, if the statement defines one
abbrev pub AreDefined : Bool → Symbols → ShapeTree → Vec (Bor (List ℕ)) → Type 0
AreDefined defines r s ns = AreNames (if defines then defined r s else []) ns

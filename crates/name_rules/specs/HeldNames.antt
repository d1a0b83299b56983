-- The names that statements gave something, and those that are used in one way or another, in sets.
use Rattle.std.specs.Prelude.{◌≡◌, ℕ, Bool, ◌||◌, List, [], ◌++◌, flat_map}
use Rattle.std.specs.Borrow.{Bor}
use Rattle.std.specs.Global.{Vec}
use Rattle.std.specs.List.{list_any}
use Rattle.meaning.specs.NameRules.{Given, is_function_use, is_intrinsic_use, is_variable_use}
use Rattle.meaning.specs.NameRules.{logical_names, names_used, repeats}
use Rattle.meaning.specs.declared.syntax.Shape.{Shape}
use Rattle.meaning.specs.Syntax.{ItemTree, shape_tree}
use Rattle.meaning.specs.Uses.{Symbols, is_one_of, parts_from}
use Rattle.symbols.specs.declared.names.Symbols.{Symbols as Kept}
use Rattle.name_maps.specs.NameSets.{texts}
use Rattle.symbols.specs.SymbolsAt.{symbols_at}
use Rattle.symbols.specs.Stages.{IsBehind}
use Rattle.name_uses.specs.Held.{Holds, names_at}
use Rattle.name_uses.specs.UsesIn.{reads_in, uses_in}
use Rattle.name_rules.specs.declared.logicals.Logicals.{Logicals}
use Rattle.name_rules.specs.declared.twofold.Twofold.{Twofold}

-- names that a set holds or that stand here, or others that another set holds
abbrev pub are_held : List (Vec ℕ) → List (List ℕ) → List (List ℕ) → List (Vec ℕ) → List (List ℕ) →
    Bool
are_held first here names second others =
    (list_any (is_one_of (texts first)) names || list_any (is_one_of here) names)
    || list_any (is_one_of (texts second)) others

-- the rule on what names are given, by the names that were given a type, bounds, a value, an
-- expression
abbrev pub is_given_twice : List (List ℕ) → List (List ℕ) → List (List ℕ) → List (List ℕ) → Given →
    Bool
is_given_twice typed bounded valued defined g =
    repeats typed g.typed
    || (repeats bounded g.bounded || (repeats valued g.valued || repeats defined g.defined))

abbrev pub is_two_things : List (List ℕ) → List (List ℕ) → List (List ℕ) → Given → Bool
is_two_things bounded valued defined g =
    (list_any (is_one_of bounded) g.valued || list_any (is_one_of defined) g.valued)
    || (list_any (is_one_of valued) g.bounded || list_any (is_one_of valued) g.defined)

-- four sets hold what statements gave
pub record HoldsGiven (Stage : Type 0) (typed bounded valued defined : List (Vec ℕ))
    (gs : List Given) : Type 0 where
  pub stage : Stage
  pub typed_held : Holds typed (flat_map (λ g. g.typed) gs)
  pub bounded_held : Holds bounded (flat_map (λ g. g.bounded) gs)
  pub valued_held : Holds valued (flat_map (λ g. g.valued) gs)
  pub defined_held : Holds defined (flat_map (λ g. g.defined) gs)

-- two sets hold the names that are used as variables and as functions
pub record HoldsUsed (Stage : Type 0) (r : Symbols) (before : List ItemTree)
    (variables functions : List (Vec ℕ)) : Type 0 where
  pub stage : Stage
  pub variables_held : Holds variables
      (names_used (is_variable_use r)
      ((parts_from r [] before).sets ++ (parts_from r [] before).reads))
  pub functions_held : Holds functions
      (names_used (is_function_use r) (parts_from r [] before).reads)

-- two sets hold the functions of the standard that are used, and the names in LOGICAL statements
pub record HoldsLogical (Stage : Type 0) (r : Symbols) (before : List ItemTree)
    (intrinsics logicals : List (Vec ℕ)) : Type 0 where
  pub stage : Stage
  pub intrinsics_held : Holds intrinsics
      (names_used (is_intrinsic_use r) (parts_from r [] before).reads)
  pub logicals_held : Holds logicals (flat_map logical_names before)

-- ---- names of uses in a statement

abbrev pub variables_at : Kept → Bool → Shape → List (List ℕ)
variables_at r defines s =
    names_used (is_variable_use (symbols_at r)) (uses_in (symbols_at r) defines (shape_tree s))

abbrev pub functions_at : Kept → Bool → Shape → List (List ℕ)
functions_at r defines s =
    names_used (is_function_use (symbols_at r)) (reads_in (symbols_at r) defines (shape_tree s))

abbrev pub intrinsics_at : Kept → Bool → Shape → List (List ℕ)
intrinsics_at r defines s =
    names_used (is_intrinsic_use (symbols_at r)) (reads_in (symbols_at r) defines (shape_tree s))

-- ---- the values that keep the sets

-- what is known behind statements
abbrev pub KnowsUsed : Twofold → List ItemTree → Type 0
KnowsUsed s before =
    HoldsUsed (IsBehind s.symbols.now s.stage before) (symbols_at s.symbols.now) before
    s.variables.keys
    s.functions.keys

abbrev pub KnowsLogical : Logicals → List ItemTree → Type 0
KnowsLogical s before =
    HoldsLogical (IsBehind s.symbols.now s.stage before) (symbols_at s.symbols.now) before
    s.intrinsics.keys s.logicals.keys

-- a statement's variables and functions, against each other and against those before
abbrev pub is_twofold : Twofold → List (List ℕ) → List (Bor (List ℕ)) → List (Bor (List ℕ)) → Bool
is_twofold s here variables functions =
    are_held s.functions.keys here (names_at variables) s.variables.keys (names_at functions)

abbrev pub IsTwofold : Twofold → List (Bor (List ℕ)) → List (Bor (List ℕ)) → Bool → Type 0
IsTwofold s variables functions b = b ≡ is_twofold s (names_at functions) variables functions

-- the same of names in a LOGICAL statement and of functions of the standard
abbrev pub is_logical : Logicals → List (List ℕ) → List (Bor (List ℕ)) → List (Bor (List ℕ)) → Bool
is_logical s here names functions =
    are_held s.intrinsics.keys here (names_at names) s.logicals.keys (names_at functions)

abbrev pub IsLogical : Logicals → List (Bor (List ℕ)) → List (Bor (List ℕ)) → Bool → Type 0
IsLogical s names functions b = b ≡ is_logical s (names_at functions) names functions

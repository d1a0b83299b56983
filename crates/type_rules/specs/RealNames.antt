-- Names of data of type REAL in what a statement says.
use Rattle.std.specs.Prelude.{ℕ, Bool, ◌||◌, List, flat_map, Some}
use Rattle.std.specs.List.{list_any}
use Rattle.meaning.specs.declared.syntax.Shape.{Shape}
use Rattle.meaning.specs.NameRules.{function_names, is_real, is_real_use, names_defined}
use Rattle.meaning.specs.Scopes.{dummy_name, listed}
use Rattle.meaning.specs.Syntax.{ExprsTree, shape_tree}
use Rattle.meaning.specs.Uses.{Symbols}
use Rattle.symbols.specs.declared.functions.Function.{Function}
use Rattle.symbols.specs.declared.names.Symbols.{Symbols as Kept}
use Rattle.name_uses.specs.declared.uses.NameUse.{NameUse}
use Rattle.symbols.specs.Functions.{definition_at}
use Rattle.symbols.specs.SymbolsAt.{symbols_at}
use Rattle.name_uses.specs.UsesAt.{uses_at}
use Rattle.name_uses.specs.NamesIn.{}

abbrev pub any_real : Symbols → List (List ℕ) → Bool
any_real r ns = list_any (is_real r) ns

abbrev pub dummies : ExprsTree → List (List ℕ)
dummies es = flat_map dummy_name (listed es)

abbrev pub of_function : Function → List (List ℕ)
of_function f = function_names (Some (definition_at f))

abbrev pub any_defined_real : Kept → Bool → Shape → Bool
any_defined_real r defines s =
    any_real (symbols_at r) (names_defined (symbols_at r) defines (shape_tree s))

-- one that a statement defines, or a use of one
abbrev pub has_real : Kept → Bool → Shape → List NameUse → Bool
has_real r defines s us =
    any_defined_real r defines s || list_any (is_real_use (symbols_at r)) (uses_at us)

-- Statement functions by the measures that are kept of those before them.
use Rattle.std.specs.Prelude.{◌≡◌, ℕ, Bool, List, if◌then◌else◌, Option, Some, option_map}
use Rattle.std.specs.Str.{bytes_eq}
use Rattle.meaning.specs.declared.syntax.Item.{Item}
use Rattle.meaning.specs.NameRules.{defined_here}
use Rattle.meaning.specs.Syntax.{ItemTree}
use Rattle.meaning.specs.Trees.{item_tree}
use Rattle.meaning.specs.Typing.{option_list}
use Rattle.symbols.specs.declared.functions.Function.{Function}
use Rattle.symbols.specs.declared.names.Symbols.{Symbols}
use Rattle.symbols.specs.declared.stage.Stage.{Stage}
use Rattle.name_uses.specs.declared.uses.NameUse.{NameUse}
use Rattle.symbols.specs.Functions.{definition_at}
use Rattle.name_maps.specs.Keeping.{kept_at}
use Rattle.symbols.specs.SymbolsAt.{symbols_at}
use Rattle.symbols.specs.Stages.{IsBehind}
use Rattle.name_uses.specs.UsesAt.{uses_at}
use Rattle.function_rules.specs.declared.measures.Measure.{Measure}
use Rattle.function_rules.specs.Earlier.{Describes, is_bad_by, is_ill_by, level_behind}
use Rattle.function_rules.specs.Earlier.{nodes_behind}
use Rattle.function_rules.specs.Measured.{Kept, is_kept, level_at, nodes_at}

-- the rule on a statement function, and on its expression by the uses in that
abbrev pub is_bad : {S : Type 0} → Symbols → Kept S → Function → Bool
is_bad r kept f =
    is_bad_by (symbols_at r) (is_kept kept) (level_at kept) (nodes_at kept) (definition_at f)

abbrev pub is_ill : {S : Type 0} → Symbols → Kept S → Function → List NameUse → Bool
is_ill r kept f us =
    is_ill_by (symbols_at r) (is_kept kept) (level_at kept) (nodes_at kept) (definition_at f)
    (uses_at us)

-- the statement function that a statement defines, by how far one has come
abbrev pub IsHere : Symbols → Stage → Item → Option Function → Type 0
IsHere r s x f =
    (before : List ItemTree) → IsBehind r s before → option_list (option_map definition_at f)
    ≡ defined_here (symbols_at r) before (item_tree x)

-- one more measure is kept
abbrev pub Keeps : {S T : Type 0} → Kept S → Kept T → List ℕ → Measure → Type 0
Keeps old new name measure =
    (n : List ℕ) → kept_at new n ≡ (if bytes_eq n name then Some measure else kept_at old n)

-- that of a statement function, if there is one
abbrev pub KeepsLevel : {S T : Type 0} → Kept S → Kept T → Option Function → Type 0
KeepsLevel old new f =
    (n : List ℕ) → level_at new n ≡ level_behind (level_at old) (option_map definition_at f) n

abbrev pub KeepsNodes : {S T : Type 0} → Kept S → Kept T → Option Function → Type 0
KeepsNodes old new f =
    (n : List ℕ) → nodes_at new n ≡ nodes_behind (nodes_at old) (option_map definition_at f) n

-- what is known behind statements
abbrev pub DescribesAt : {S : Type 0} → Symbols → Stage → Kept S → List ItemTree → Type 0
DescribesAt r s kept before =
    Describes (IsBehind r s before) (symbols_at r) before (level_at kept) (nodes_at kept)

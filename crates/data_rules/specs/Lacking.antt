-- Names that have no value, in DATA statements.
use Rattle.std.specs.Prelude.{◌≡◌, ℕ, Bool, ◌++◌, List, [], ◌∷◌, map, flat_map, Option, option_map}
use Rattle.std.specs.List.{filter, list_any}
use Rattle.std.specs.Borrow.{Bor}
use Rattle.std.specs.Global.{Vec}
use Rattle.meaning.specs.declared.syntax.DataConstant.{DataConstant}
use Rattle.meaning.specs.declared.syntax.DataSet.{DataSet}
use Rattle.meaning.specs.declared.syntax.DataValue.{DataValue}
use Rattle.meaning.specs.declared.syntax.Declarator.{Declarator}
use Rattle.meaning.specs.declared.syntax.RepeatCount.{RepeatCount}
use Rattle.meaning.specs.Initial.{lacks_value, set_uses, sets_by, sets_of}
use Rattle.meaning.specs.NumberRules.{lacks_bound, sizeless_in}
use Rattle.meaning.specs.Syntax.{DataSetTree, ItemTree, ShapeTree, data_constant_tree}
use Rattle.meaning.specs.Syntax.{data_set_tree}
use Rattle.meaning.specs.Syntax.{data_value_tree, declarator_tree, repeat_tree}
use Rattle.meaning.specs.Typing.{option_list}
use Rattle.meaning.specs.Uses.{Use, bare_use, data_constant_uses, data_value_uses, is_one_of}
use Rattle.meaning.specs.Uses.{repeat_uses}
use Rattle.symbols.specs.SymbolsAt.{symbols_at}
use Rattle.declarations.specs.declared.known.Table.{Table}
use Rattle.declarations.specs.Tables.{IsBehind, known_at, types_in}
use Rattle.data_rules.specs.declared.lacking.Known.{Known}

-- the names that are kept
abbrev pub names_kept : List (Bor (List ℕ)) → List (List ℕ)
names_kept ns = map (λ n. n.now) ns

abbrev pub is_sizeless_at : List (Bor (List ℕ)) → List ℕ → Bool
is_sizeless_at ns n = is_one_of (names_kept ns) n

-- a use of a name that has no value where these are known
abbrev pub lacks : Known → Use → Bool
lacks k u =
    lacks_value (symbols_at k.table.now.symbols.now) (known_at k.table.now)
    (names_kept k.sizeless.now)
    u

abbrev pub lacks_name : Known → List ℕ → Bool
lacks_name k n = lacks k (bare_use n)

abbrev pub any_lacks : Known → List Use → Bool
any_lacks k us = list_any (lacks k) us

-- the uses in the parts of a set
abbrev pub count_uses : Option RepeatCount → List Use
count_uses n = flat_map repeat_uses (option_list (option_map repeat_tree n))

abbrev pub constant_uses : DataConstant → List Use
constant_uses c = data_constant_uses (data_constant_tree c)

abbrev pub values_uses : List DataValue → List Use
values_uses vs = flat_map data_value_uses (map data_value_tree vs)

abbrev pub sets_lack : Known → List DataSet → Bool
sets_lack k sets = any_lacks k (flat_map set_uses (map data_set_tree sets))

-- the sets of a statement that count
abbrev pub sets_counted : Known → ShapeTree → List DataSetTree
sets_counted k s =
    sets_by (symbols_at k.table.now.symbols.now) (known_at k.table.now) (names_kept k.sizeless.now)
    (sets_of s)

-- the names of declarators one of whose bounds has no value come behind those before
abbrev pub sizeless_by : Table → List Declarator → List (List ℕ)
sizeless_by t ds =
    map (λ d. d.name) (filter (lacks_bound (types_in t) (known_at t)) (map declarator_tree ds))

abbrev pub GainsSizeless : Table → List Declarator → Vec (Bor (List ℕ)) → Vec (Bor (List ℕ)) →
    Type 0
GainsSizeless t ds old new = names_kept new.items ≡ names_kept old.items ++ sizeless_by t ds

-- what is known behind statements, and behind one more: the constants, and the arrays without a
-- size
abbrev pub AreKnown : Table → List (List ℕ) → List ItemTree → Type 0
AreKnown t sizeless before =
    IsBehind t before × (sizeless ≡ sizeless_in (symbols_at t.symbols.now) [] before)

abbrev pub GoOn : Table → Table → List (List ℕ) → List (List ℕ) → ItemTree → Type 0
GoOn t u old new x =
    (before : List ItemTree) → AreKnown t old before → AreKnown u new (before ++ x ∷ [])

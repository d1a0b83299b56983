-- DATA statements behind others, of which some may break the rule on them.
use Rattle.std.specs.Prelude.{◌≡◌, ℕ, Bool, false, List, [], ◌∷◌, ◌++◌}
use Rattle.meaning.specs.Initial.{has_bad_data}
use Rattle.meaning.specs.NumberRules.{sizeless_in}
use Rattle.meaning.specs.Syntax.{ItemTree}
use Rattle.symbols.specs.SymbolsAt.{symbols_at}
use Rattle.declarations.specs.declared.known.Table.{Table}
use Rattle.declarations.specs.Tables.{IsBehind}
use Rattle.data_rules.specs.declared.filling.Filling.{Filling}
use Rattle.data_rules.specs.declared.filling.Way.{Way}
use Rattle.data_rules.specs.declared.filling.Way.TheVariants as ways
use Rattle.data_rules.specs.declared.further.OneMore.{OneMore}
use Rattle.data_rules.specs.DataSets.{IsFilledBy, stage_by}

-- whether a place that had a value was given another
abbrev pub gave_twice : Way → Bool
gave_twice ways.Once = false
gave_twice (ways.Again twice) = twice
gave_twice ways.Dry = false

-- what was given behind a statement, and whether that breaks the rule, by what was given before it
pub record IsOneMore (t : Table) (before : List ItemTree) (x : ItemTree) (b : OneMore) : Type 0
  where
    pub filled : IsFilledBy (symbols_at t.symbols.now) (before ++ x ∷ []) (stage_by b.filling)
    pub is_bad : b.is_bad ≡ has_bad_data (symbols_at t.symbols.now) before x

abbrev pub PassesOneMore : Table → List (List ℕ) → ItemTree → Filling → OneMore → Type 0
PassesOneMore t sizeless x old b =
    (before : List ItemTree) → IsBehind t before → sizeless
    ≡ sizeless_in (symbols_at t.symbols.now) [] before →
    IsFilledBy (symbols_at t.symbols.now) before (stage_by old) → IsOneMore t before x b

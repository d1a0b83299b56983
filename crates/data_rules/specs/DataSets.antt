-- The sets of DATA statements, filled one after another (ANSI X3.9-1978, 9.1).
use Rattle.std.specs.Prelude.{◌≡◌, ℕ, List, [], ◌∷◌, map, option_map, unwrap_or, is_some}
use Rattle.std.specs.Prelude.{if◌then◌else◌, Option, Some, None}
use Rattle.std.specs.List.{list_any}
use Rattle.std.specs.Borrow.{Bor}
use Rattle.meaning.specs.declared.ending.Value.{Value}
use Rattle.meaning.specs.declared.syntax.DataSet.{DataSet}
use Rattle.meaning.specs.Arrays.{place}
use Rattle.meaning.specs.Syntax.{DataSetTree, ItemTree, ListItemsTree, data_set_tree}
use Rattle.meaning.specs.Typing.{Names}
use Rattle.meaning.specs.Uses.{Symbols}
use Rattle.meaning.specs.Values.{Known, dimensions_in}
use Rattle.meaning.specs.Initial.{Start, Target, and_also, same_target, starts_from, targets_in}
use Rattle.symbols.specs.SymbolsAt.{symbols_at}
use Rattle.declarations.specs.declared.known.Table.{Table}
use Rattle.declarations.specs.Tables.{known_at}
use Rattle.data_rules.specs.declared.filling.Filling.{Filling}
use Rattle.data_rules.specs.declared.filling.Way.{Way}
use Rattle.data_rules.specs.declared.filling.Way.TheVariants as ways
use Rattle.data_rules.specs.DataRuns.{values_of}
use Rattle.data_rules.specs.DataStages.{Found, Stage, filled, is_empty_list, with_found}
use Rattle.data_rules.specs.Slots.{given_in}

-- where a variable or an element stands among the elements of its name
abbrev pub place_at : Names → Target → Option ℕ
place_at ns t = place (dimensions_in (ns.arrays t.name)) t.subscripts

abbrev pub HasPlace : Names → Target → Type 0
HasPlace ns t = (i : ℕ) × (place_at ns t ≡ Some i)

abbrev pub place_of : Names → Start → ℕ
place_of ns s = unwrap_or (place_at ns s.target) 0

-- what starts give, one behind another
abbrev pub given_behind : Names → List Start → Found → Found
given_behind ns [] found = found
given_behind ns (s ∷ ss) found =
    given_behind ns ss (with_found s.target.name (place_of ns s) s.value found)

abbrev pub nothing : Found
nothing = λ n i. None

abbrev pub given_by : Names → List Start → Found
given_by ns ss = given_behind ns ss nothing

-- a stage with these values in place of those that are left
abbrev pub with_values : List (Option Value) → Stage → Stage
with_values os s = record { given = s.given; values = os; way = s.way }

abbrev pub if_used_up : Stage → Option Stage
if_used_up s = if is_empty_list s.values then Some (with_values [] s) else None

-- the targets of a list, which use up the values that are left
abbrev pub fill_list : Symbols → Known → ListItemsTree → Stage → Option Stage
fill_list r known xs s = and_also (filled r.names (targets_in r xs known) s) if_used_up

abbrev pub fill_set : Symbols → Known → DataSetTree → Stage → Option Stage
fill_set r known x s = fill_list r known x.list (with_values (values_of known x.values) s)

abbrev pub fill_sets : Symbols → Known → List DataSetTree → Stage → Option Stage
fill_sets r known [] s = Some s
fill_sets r known (x ∷ xs) s = and_also (fill_set r known x s) (fill_sets r known xs)

-- what was given between two sets
abbrev pub stage_by : Filling → Stage
stage_by f = record { given = given_in f.given; values = []; way = f.way }

-- where nothing was given so far
abbrev pub stage_empty : Way → Stage
stage_empty w = record { given = nothing; values = []; way = w }

-- a set is filled, or several are
abbrev pub FillsSet : Table → Bor DataSet → Filling → Option Filling → Type 0
FillsSet t x old new =
    option_map stage_by new
    ≡ fill_set (symbols_at t.symbols.now) (known_at t) (data_set_tree x.now) (stage_by old)

abbrev pub FillsSets : Table → Bor (List DataSet) → Filling → Option Filling → Type 0
FillsSets t xs old new =
    option_map stage_by new
    ≡ fill_sets (symbols_at t.symbols.now) (known_at t) (map data_set_tree xs.now) (stage_by old)

-- those that have a place and were given a value are the earlier ones
abbrev pub Agrees : Names → Found → List Start → Type 0
Agrees ns found earlier =
    (t : Start) → HasPlace ns t.target → is_some (found t.target.name (place_of ns t))
    ≡ list_any (λ e. same_target e.target t.target) earlier

-- what the DATA statements among these gave, where each place is given a value once
pub record IsFilledBy (r : Symbols) (before : List ItemTree) (s : Stage) : Type 0 where
  pub marked : Agrees r.names s.given (starts_from r [] before)
  pub given : s.given ≡ given_by r.names (starts_from r [] before)
  pub values : s.values ≡ []
  pub way : s.way ≡ ways.Once

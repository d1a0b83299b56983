-- The first thing by which a DATA statement breaks the rule on them (ANSI X3.9-1978, chapter 9).
use Rattle.std.specs.Prelude.{List, [], ◌∷◌, Option, Some, None}
use Rattle.meaning.specs.Initial.{sets_at, starts_from}
use Rattle.meaning.specs.NumberRules.{known_behind_all}
use Rattle.meaning.specs.Syntax.{DataSetTree, ItemTree}
use Rattle.meaning.specs.Uses.{Symbols}
use Rattle.meaning.specs.Values.{Known}
use Rattle.data_rules.specs.declared.filling.Way.TheVariants as ways
use Rattle.data_rules.specs.DataRuns.{values_of}
use Rattle.data_rules.specs.DataSets.{given_by, with_values}
use Rattle.data_rules.specs.DataStages.{Stage}
use Rattle.data_culprits.specs.Lists.{to_list}
use Rattle.data_culprits.specs.Outcomes.{Outcome, went, stopped, then_go, told_in}
use Rattle.data_culprits.specs.Told.{Told}
use Rattle.data_culprits.specs.Values.{values_fault}

-- a set: its values, and then its list
abbrev pub unless_bad : Option Told → Outcome → Outcome
unless_bad None o = o
unless_bad (Some k) o = stopped k

abbrev pub to_set : Symbols → Known → DataSetTree → Stage → Outcome
to_set r known x s =
    unless_bad (values_fault known x.values)
    (to_list r known x.list (with_values (values_of known x.values) s))

abbrev pub to_sets : Symbols → Known → List DataSetTree → Stage → Outcome
to_sets r known [] s = went s
to_sets r known (x ∷ xs) s = then_go (to_set r known x s) (to_sets r known xs)

-- what the DATA statements among these gave: nothing those that don't fit, all the others
abbrev pub stage_behind : Symbols → List ItemTree → Stage
stage_behind r before = record {
  given = given_by r.names (starts_from r [] before);
  values = [];
  way = ways.Once;
}

-- K10, at a statement behind others
abbrev pub bad_in : Symbols → List ItemTree → ItemTree → Option Told
bad_in r before x =
    told_in (to_sets r (known_behind_all r before) (sets_at r before x) (stage_behind r before))

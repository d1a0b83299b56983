-- What is told of DATA statements by what is known where they stand.
use Rattle.std.specs.Prelude.{ℕ, List, Option}
use Rattle.meaning.specs.Initial.{sets_by, sets_of}
use Rattle.meaning.specs.Syntax.{DataSetTree, ShapeTree}
use Rattle.symbols.specs.SymbolsAt.{symbols_at}
use Rattle.declarations.specs.declared.known.Table.{Table}
use Rattle.declarations.specs.Tables.{known_at}
use Rattle.data_rules.specs.declared.filling.Filling.{Filling}
use Rattle.data_rules.specs.DataSets.{stage_by}
use Rattle.data_rules.specs.DataStages.{Stage}
use Rattle.data_culprits.specs.declared.statements.SetsOutcome.{SetsOutcome}
use Rattle.data_culprits.specs.declared.statements.SetsOutcome.TheVariants as outcomes
use Rattle.data_culprits.specs.Outcomes.{Outcome, went, stopped, told_in}
use Rattle.data_culprits.specs.Sets.{to_sets}
use Rattle.data_culprits.specs.Told.{Told, told_at}

-- what a value of the Rust type stands for
abbrev pub outcome_at : SetsOutcome → Outcome
outcome_at (outcomes.Filled f) = went (stage_by f)
outcome_at (outcomes.Stopped c) = stopped (told_at c)

-- by the constants of a table, where these arrays have no size
abbrev pub counted_by : Table → List (List ℕ) → ShapeTree → List DataSetTree
counted_by t sizeless shape =
    sets_by (symbols_at t.symbols.now) (known_at t) sizeless (sets_of shape)

abbrev pub tell_counted : Table → List (List ℕ) → ShapeTree → Stage → Option Told
tell_counted t sizeless shape s =
    told_in (to_sets (symbols_at t.symbols.now) (known_at t) (counted_by t sizeless shape) s)

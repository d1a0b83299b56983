-- What comes of giving values: how far one has come, or what is told.
use Rattle.std.specs.Prelude.{◌≡◌, Option, Some, None}
use Rattle.data_rules.specs.DataStages.{Stage}
use Rattle.data_culprits.specs.declared.culprit.DataCulprit.{DataCulprit}
use Rattle.data_culprits.specs.Told.{Told, tell}

pub data Outcome : Type 0 where
  went : Stage → Outcome
  stopped : Told → Outcome

abbrev pub then_go : Outcome → (Stage → Outcome) → Outcome
then_go (went s) f = f s
then_go (stopped k) f = stopped k

abbrev pub outcome_of : Stage → Option Told → Outcome
outcome_of s None = went s
outcome_of s (Some k) = stopped k

-- what is told, and how far one has come
abbrev pub told_in : Outcome → Option Told
told_in (went s) = None
told_in (stopped k) = Some k

abbrev pub stage_in : Outcome → Option Stage
stage_in (went s) = Some s
stage_in (stopped k) = None

-- this comes of it where nothing is told
abbrev pub Tells : Outcome → Stage → Option DataCulprit → Type 0
Tells o s c = o ≡ outcome_of s (tell c)

use Rattle.meaning.proofs.Limits.{fold_trips-bounded, exec-bounded}
use Rattle.meaning.specs.Execution.{exec}
use Rattle.meaning.proofs.laws.trips_are_bounded.Goals as goal

pub returns : goal.returns
returns c = λ program line variable by range is m. fold_trips-bounded (exec program) line variable by range (exec-bounded program) is m

use Rattle.std.proofs.Common.{◌≡◌, drop}
use Rattle.meaning.specs.Uses.{is_one_of}
use Rattle.statement_rules.specs.Counters.{counters}
use Rattle.statement_rules.proofs.counters.is_counter.Given as goal

abbrev pub invariant-loop-variable : goal.invariant-loop-variable
invariant-loop-variable l = is_one_of (counters (drop l.variable-index l.variables)) l.name ≡ is_one_of (counters l.variables) l.name

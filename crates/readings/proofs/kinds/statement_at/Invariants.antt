use Rattle.std.proofs.Common.{◌≡◌, drop, map}
use Rattle.std.specs.List.{find}
use Rattle.meaning.specs.Statements.{entry_of}
use Rattle.readings.specs.Readings.{begins_at}
use Rattle.readings.proofs.kinds.statement_at.Given as goal

abbrev pub invariant-loop-statement : goal.invariant-loop-statement
invariant-loop-statement l =
    find (begins_at l.line) (map entry_of (drop l.statement-index l.found)) ≡ find (begins_at l.line) (map entry_of l.found)

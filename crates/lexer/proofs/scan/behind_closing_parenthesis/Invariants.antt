use Rattle.std.proofs.Common.{◌≡◌, ◌+◌, ◌≤◌, false, length}
use Rattle.meaning.specs.Kinds.{behind_closing}
use Rattle.lexer.proofs.scan.behind_closing_parenthesis.Given as goal

abbrev pub invariant-loop-c : goal.invariant-loop-c
invariant-loop-c l = record {
  low : l.place.depth + length l.rest ≤ length l.text;
  same : behind_closing l.place.depth l.place.inside l.rest ≡ behind_closing 0 false l.text;
}

abbrev pub decreases-loop-c : goal.decreases-loop-c
decreases-loop-c l = length l.rest

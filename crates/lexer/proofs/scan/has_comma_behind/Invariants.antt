use Rattle.std.proofs.Common.{◌≡◌, ◌≤◌, eqb, drop, false, if◌then◌else◌}
use Rattle.std.specs.List.{list_any}
use Rattle.meaning.specs.Kinds.{marks_at, has_limits}
use Rattle.lexer.proofs.scan.has_comma_behind.Given as goal

abbrev pub invariant-loop-c : goal.invariant-loop-c
invariant-loop-c l = record {
  low : l.place.depth ≤ l.c-index;
  same : (if l.equals then list_any (λ d. eqb d 44) (marks_at l.place.depth l.place.inside (drop l.c-index l.text)) else has_limits (marks_at l.place.depth l.place.inside (drop l.c-index l.text))) ≡ has_limits (marks_at 0 false l.text);
}

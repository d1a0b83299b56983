use Rattle.std.proofs.Common.{◌≡◌, ◌≤◌, drop, false}
use Rattle.meaning.specs.Spelling.{balanced}
use Rattle.lexer.proofs.scan.is_balanced.Given as goal

abbrev pub invariant-loop-c : goal.invariant-loop-c
invariant-loop-c l = record {
  low : l.place.depth ≤ l.c-index;
  same : balanced l.place.depth l.place.inside (drop l.c-index l.text) ≡ balanced 0 false l.text;
}

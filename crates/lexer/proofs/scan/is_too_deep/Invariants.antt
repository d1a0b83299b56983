use Rattle.std.proofs.Common.{◌≡◌, ◌≤◌, drop, false, ltb}
use Rattle.meaning.specs.Reading.{most_open}
use Rattle.lexer.proofs.scan.is_too_deep.Given as goal

abbrev pub invariant-loop-c : goal.invariant-loop-c
invariant-loop-c l = record {
  low : l.place.depth ≤ 64;
  same : ltb 64 (most_open l.place.depth l.place.inside (drop l.c-index l.text)) ≡ ltb 64 (most_open 0 false l.text);
}

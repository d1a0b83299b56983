use Rattle.std.proofs.Common.{◌≡◌, ◌≤◌, ◌++◌, drop, length}
use Rattle.meaning.specs.BareText.{bare_behind, bare}
use Rattle.lexer.proofs.bare_text.bare_bytes.Given as goal

abbrev pub invariant-loop-c : goal.invariant-loop-c
invariant-loop-c l = record {
  short : length l.bare.items ≤ l.c-index;
  same : l.bare.items ++ bare_behind l.inside (drop l.c-index l.text) ≡ bare l.text;
}

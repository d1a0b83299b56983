use Rattle.std.proofs.Common.{◌≡◌, ◌≤◌, eqb, drop}
use Rattle.std.specs.List.{list_any}
use Rattle.meaning.specs.Kinds.{marks_at, has_equals}
use Rattle.lexer.proofs.scan.has_equals_sign.Given as goal

abbrev pub invariant-loop-c : goal.invariant-loop-c
invariant-loop-c l = record {
  low : l.place.depth ≤ l.c-index;
  same : list_any (λ c. eqb c 61) (marks_at l.place.depth l.place.inside (drop l.c-index l.text)) ≡ has_equals l.text;
}

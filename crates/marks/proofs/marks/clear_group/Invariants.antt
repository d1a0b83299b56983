use Rattle.std.proofs.Common.{◌≡◌, ◌*◌, ◌<◌, ◌≤◌, ℕ, length}
use Rattle.std.specs.Prelude.{◌⊎◌}
use Rattle.marks.specs.Words.{word_at}
use Rattle.marks.proofs.marks.clear_group.Given as goal

abbrev pub invariant-loop-at : goal.invariant-loop-at
invariant-loop-at l = record {
  len : length l.words.items ≡ length l.initial.words.items;
  none : (k : ℕ) → 8 * l.group ≤ k → k < l.at → word_at l.words.items k ≡ 0;
  others : (k : ℕ) → (k < 8 * l.group) ⊎ (l.at ≤ k) → word_at l.words.items k ≡ word_at l.initial.words.items k;
}

use Rattle.std.proofs.Common.{◌≡◌, ◌<◌, ◌≤◌, ◌-◌, ◌^◌, ℕ, length}
use Rattle.std.specs.Prelude.{◌⊎◌}
use Rattle.marks.specs.Words.{word_at}
use Rattle.marks.proofs.marks.fill_words.Given as goal

abbrev pub invariant-loop-at : goal.invariant-loop-at
invariant-loop-at l = record {
  len : length l.words ≡ length l.initial.words;
  most : l.at ≤ l.to;
  full : (k : ℕ) → l.from ≤ k → k < l.at → word_at l.words k ≡ 2 ^ 64 - 1;
  others : (k : ℕ) → (k < l.from) ⊎ (l.at ≤ k) → word_at l.words k ≡ word_at l.initial.words k;
}

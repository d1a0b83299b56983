use Rattle.std.proofs.Common.{◌≡◌, ◌≢◌, ◌/◌, ◌+◌, ℕ, true, length}
use Rattle.marks.specs.Words.{tells}
use Rattle.marks.proofs.Bits.{Passed}
use Rattle.marks.proofs.marks.clear_groups.Given as goal

abbrev pub decreases-bits : goal.decreases-bits
decreases-bits l = l.left

abbrev pub invariant-bits : goal.invariant-bits
invariant-bits l = record {
  len : length l.words.items ≡ length l.initial.words.items;
  left : (c : ℕ) → tells l.words.items c ≡ true → (tells l.initial.words.items c ≡ true) × Passed l.mask l.left (λ j. c / 512 ≢ l.first + j);
}

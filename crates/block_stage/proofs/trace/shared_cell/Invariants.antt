use Rattle.std.proofs.Common.{◌≡◌, ◌<◌, ◌/◌, ℕ, true}
use Rattle.marks.specs.Words.{tells}
use Rattle.block_stage.proofs.trace.shared_cell.Given as goal

abbrev pub invariant-loop-at : goal.invariant-loop-at
invariant-loop-at l = (c : ℕ) → c / 64 < l.at → tells l.mine c ≡ true → tells l.others c ≡ true → ⊥

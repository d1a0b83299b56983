use Rattle.std.proofs.Common.{◌<◌, ◌≤◌, ◌-◌, ℕ, length, take}
use Rattle.command_line.specs.Culprits.{IsWrong}
use Rattle.command_line.specs.Matches.{texts_in}
use Rattle.command_line.proofs.culprits.place_of.Given as goal

abbrev pub invariant-loop-place : goal.invariant-loop-place
invariant-loop-place l = record {
  apart : l.before < l.place;
  within : l.place ≤ length l.words;
  right : IsWrong l.wrong (take l.before (texts_in l.words)) → ⊥;
  wrong : (n : ℕ) → l.place ≤ n → IsWrong l.wrong (take n (texts_in l.words));
}

abbrev pub decreases-loop-place : goal.decreases-loop-place
decreases-loop-place l = l.place - l.before

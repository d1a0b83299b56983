use Rattle.std.proofs.Common.{◌≡◌, drop}
use Rattle.std.specs.Prelude.{fold, max}
use Rattle.block_stage.specs.Cuts.{longest_in, turns_in}
use Rattle.block_stage.proofs.posted.longest_of.Given as goal

abbrev pub invariant-loop-place : goal.invariant-loop-place
invariant-loop-place l =
    fold (λ most p. max most (turns_in p)) l.longest (drop l.place-index l.places) ≡ longest_in l.places

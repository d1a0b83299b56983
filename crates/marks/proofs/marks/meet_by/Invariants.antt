use Rattle.std.proofs.Common.{ℕ, ◌<◌, ◌*◌}
use Rattle.std.specs.Prelude.{bit_and}
use Rattle.marks.specs.Words.{MeetTold, word_at}
use Rattle.marks.proofs.marks.meet_by.Given as goal

abbrev pub invariant-loop-at : goal.invariant-loop-at
invariant-loop-at l =
    (k : ℕ) → k < l.at → MeetTold l.a l.b (bit_and (word_at l.mine k) (word_at l.others k)) (64 * k) 64 → ⊥

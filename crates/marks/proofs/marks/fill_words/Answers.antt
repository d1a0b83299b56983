use Rattle.std.proofs.Common.{arith, ◌<◌, ◌≤◌, ℕ, inl, inr}
use Rattle.std.specs.Prelude.{◌⊎◌}
use Rattle.marks.proofs.Runs.{filled}
use Rattle.marks.proofs.marks.fill_words.Goals as goal

beyond : (from to at k : ℕ) → at ≤ to → (k < from) ⊎ (to ≤ k) → (k < from) ⊎ (at ≤ k)
beyond from to at k most (inl low) = inl low
beyond from to at k most (inr high) = inr (omega arith)

pub returns-clause-told : goal.returns-clause-told
returns-clause-told c =
    let kept = c.loop-at.invariant in
    let ended = c.loop-at-test.false in
    let most = kept.most in
    filled c.args.words.now c.loop-at.words c.args.from c.args.to (λ k low high. kept.full k low (omega arith)) (λ k out. kept.others k (beyond c.args.from c.args.to c.loop-at.at k most out))

use Rattle.std.proofs.Common.{◌+◌, ◌&&◌, ◌||◌, ◌==◌, subst, sym, ap, ◌∙◌}
use Rattle.std.specs.Prelude.{nat_lt}
use Rattle.command_line.specs.Culprits.{edits, is_near}
use Rattle.command_line.proofs.Nearest.{SoFar, nearer, no_nearer}
use Rattle.command_line.proofs.culprits.near_option.Goals as goal
use Rattle.command_line.proofs.culprits.near_option.Goals.{then-is_nearer, else-is_nearer}

pub loop-at-preserved : goal.loop-at-preserved
loop-at-preserved c =
    let text = c.args.text.now in
    let here = c.in_ok-more.ensures ∙ ap (edits text) c.option_named.ensures in
    let known = c.is_nearer.ensures (c.in_ok-more.ensures ∙ ap (edits text) (c.option_named.ensures ∙ sym c.option_named-in-loop-at.ensures))
    ∙ ap (λ o. is_near text o && ((c.loop-at.nearest == 12) || nat_lt c.in_ok-more.more c.loop-at.least)) c.option_named-in-loop-at.ensures in
    elim c.if-is_nearer.branch [
      | then-is_nearer w ↦ subst (λ n. SoFar text (c.loop-at.at + 1) n c.if-is_nearer.least) (sym w.nearest-is)
          (subst (λ n. SoFar text (c.loop-at.at + 1) c.loop-at.at n) (sym w.least-is)
          (nearer text c.loop-at.at c.loop-at.nearest c.loop-at.least c.in_ok-more.more here (sym known ∙ w.if-is_nearer.true) c.loop-at-test.true c.loop-at.invariant))
      | else-is_nearer w ↦ subst (λ n. SoFar text (c.loop-at.at + 1) n c.if-is_nearer.least) (sym w.nearest-is)
          (subst (λ n. SoFar text (c.loop-at.at + 1) c.loop-at.nearest n) (sym w.least-is)
          (no_nearer text c.loop-at.at c.loop-at.nearest c.loop-at.least c.in_ok-more.more here (sym known ∙ w.if-is_nearer.false) c.loop-at.invariant))
    ]

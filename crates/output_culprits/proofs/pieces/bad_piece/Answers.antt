use Rattle.std.proofs.Common.{◌≡◌, ◌+◌, ◌≤◌, [], get_or, take, drop, sym, subst, ◌∙◌, arith}
use Rattle.output_culprits.specs.Pieces.{piece_from, scan_start}
use Rattle.output_culprits.proofs.Piecing.{piece_end, piece_hit, piece_miss, scan_grows}
use Rattle.output_culprits.proofs.pieces.bad_piece.Goals as goal

pub returns-then-branch : goal.returns-then-branch
returns-then-branch c =
    c.from_place.ensures ∙ sym (piece_hit c.loop-place.scan c.args.text.now c.loop-place.place 0 c.loop-place-test.true (sym c.in_ok-ends_badly.ensures ∙ c.if-branch.true))
    ∙ c.loop-place.invariant.left

pub loop-place-preserved : goal.loop-place-preserved
loop-place-preserved c =
    let scan = c.loop-place.scan in
    let text = c.args.text.now in
    let place = c.loop-place.place in
    let misses = piece_miss scan text place 0 c.loop-place-test.true (sym c.in_ok-ends_badly.ensures ∙ c.if-branch.false) in
    record {
      left = subst (λ s. piece_from s (take (place + 1) text) (drop (place + 1) text) ≡ piece_from scan_start [] text) (sym c.behind-scan.ensures) (misses ∙ c.loop-place.invariant.left);
      few = subst (λ s. s.depth ≤ place + 1) (sym c.behind-scan.ensures) (scan_grows place (get_or text place 0) scan place c.loop-place.invariant.few);
    }

pub returns : goal.returns
returns c =
    c.from_place-2.ensures ∙ sym (piece_end c.loop-place.scan c.args.text.now c.loop-place.place (omega arith))
    ∙ c.loop-place.invariant.left

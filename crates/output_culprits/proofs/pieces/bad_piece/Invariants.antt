use Rattle.std.proofs.Common.{◌≡◌, ◌≤◌, [], take, drop}
use Rattle.output_culprits.specs.Pieces.{piece_from, scan_start}
use Rattle.output_culprits.proofs.pieces.bad_piece.Given as goal

abbrev pub invariant-loop-place : goal.invariant-loop-place
invariant-loop-place l = record {
  left : piece_from l.scan (take l.place l.text) (drop l.place l.text) ≡ piece_from scan_start [] l.text;
  few : l.scan.depth ≤ l.place;
}

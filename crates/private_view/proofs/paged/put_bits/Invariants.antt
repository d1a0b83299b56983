use Rattle.std.proofs.Common.{◌≡◌, ◌<◌, ℕ, true, length}
use Rattle.private_view.specs.Views.{is_in, of_page}
use Rattle.private_view.proofs.Marked.{Remains}
use Rattle.private_view.proofs.paged.put_bits.Given as goal

abbrev pub decreases-bits : goal.decreases-bits
decreases-bits l = l.left

abbrev pub invariant-bits : goal.invariant-bits
invariant-bits l = record {
  remains : Remains l.initial.target l.target l.word l.left l.page (of_page l.part);
  within : (c : ℕ) → is_in l.left l.page c ≡ true → c < length l.target;
  len : length l.target ≡ length l.initial.target;
}

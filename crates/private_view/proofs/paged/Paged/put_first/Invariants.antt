use Rattle.std.proofs.Common.{◌≡◌}
use Rattle.marks.proofs.Bits.{IsOf}
use Rattle.private_view.proofs.Fronts.{ArePutBack}
use Rattle.private_view.proofs.paged.Paged.put_first.Given as goal

abbrev pub decreases-bits : goal.decreases-bits
decreases-bits l = l.left

abbrev pub invariant-bits : goal.invariant-bits
invariant-bits l = record {
  rest : l.self ≡ record l.initial.self { written = l.self.written };
  of : IsOf l.mask l.left;
  back : ArePutBack l.mask l.left l.values l.initial.self.written l.self.written;
}

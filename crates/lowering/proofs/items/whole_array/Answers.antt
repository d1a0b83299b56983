use Rattle.std.proofs.Common.{refl, sym}
use Rattle.lowering.proofs.Arrays.{whole}
use Rattle.lowering.proofs.items.whole_array.Goals as goal

pub returns : goal.returns
returns c = λ t e is.
    whole t e c.args.cells is c.in-Some.first (sym c.in-Some.ensures) (record { first = c.in-Some.first; size = c.size.result; is_logical = c.is_logical.result }) refl c.size.ensures c.is_logical.ensures

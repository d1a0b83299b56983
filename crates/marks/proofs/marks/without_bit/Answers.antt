use Rattle.std.proofs.Common.{w64}
use Rattle.std.proofs.lemmas.Nat.{and_le_l}
use Rattle.std.proofs.lemmas.Nat.Bits.{bit_at_clear_same, bit_at_clear_other}
use Rattle.marks.proofs.Bits.{less_by_bit}
use Rattle.marks.proofs.marks.without_bit.Goals as goal

pub returns-clause-gone : goal.returns-clause-gone
returns-clause-gone c = bit_at_clear_same w64 c.args.word c.args.bit c.requires.small

pub returns-clause-others : goal.returns-clause-others
returns-clause-others c = bit_at_clear_other w64 c.args.word c.args.bit c.requires.small

pub returns-clause-less : goal.returns-clause-less
returns-clause-less c =
    less_by_bit _ c.args.word c.args.bit (and_le_l c.args.word _) (bit_at_clear_same w64 c.args.word c.args.bit c.requires.small) c.requires.has

use Rattle.marks.proofs.Bits.{some_bit}
use Rattle.marks.proofs.marks.lowest_bit.Goals as goal

pub returns-clause-small : goal.returns-clause-small
returns-clause-small c = (some_bit c.args.word c.ranges.word.fits c.requires).0

pub returns-clause-has : goal.returns-clause-has
returns-clause-has c = (some_bit c.args.word c.ranges.word.fits c.requires).1

pub returns-clause-lowest : goal.returns-clause-lowest
returns-clause-lowest c = (some_bit c.args.word c.ranges.word.fits c.requires).2

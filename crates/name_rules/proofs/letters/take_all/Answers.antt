use Rattle.std.proofs.Common.{get_or}
use Rattle.meaning.specs.Types.{is_among}
use Rattle.name_rules.specs.Lettered.{letters_at}
use Rattle.name_rules.proofs.Lettering.{lent, told_more}
use Rattle.name_uses.proofs.Seeing.{read_is}
use Rattle.name_rules.proofs.letters.take_all.Goals as goal

pub loop-one-preserved : goal.loop-one-preserved
loop-one-preserved c = λ k.
    let letters = c.args.letters.now in
    let i = c.loop-one.one-index in
    told_more letters_at (is_among k) letters i (get_or letters i lent) _ _ _ c.loop-one-test.true (read_is letters i lent c.loop-one-test.true) (c.loop-one.invariant k) (c.in_ok-take_letters.ensures k)

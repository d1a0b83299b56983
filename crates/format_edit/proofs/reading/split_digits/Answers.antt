use Rattle.std.proofs.Common.{sym, arith}
use Rattle.std.proofs.lemmas.List.Sums.{prefix_len-le-length}
use Rattle.meaning.specs.Characters.{is_digit}
use Rattle.format_edit.proofs.Front.{run_is}
use Rattle.format_edit.proofs.reading.split_digits.Goals as goal

pub split_at-requires : goal.split_at-requires
split_at-requires c = omega (arith, prefix_len-le-length is_digit c.args.text.now, c.digit_count-count.ensures)

pub returns : goal.returns
returns c =
    rw (c.split_at.ensures.front, c.split_at.ensures.back, c.digit_count-count.ensures) (sym (run_is is_digit c.args.text.now))

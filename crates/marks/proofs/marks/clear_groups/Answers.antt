use Rattle.std.proofs.Common.{◌≢◌, ◌/◌, ◌+◌, refl, inl, ◌∙◌}
use Rattle.marks.proofs.Bits.{cleared, pass_one, passed_all}
use Rattle.marks.proofs.marks.clear_groups.Goals as goal

pub bits-init : goal.bits-init
bits-init c = record { len = refl; left = λ q told. (told, λ j lt has. inl has) }

pub bits-preserved : goal.bits-preserved
bits-preserved c =
    let bit = c.lowest_bit-bit.result in
    let one = c.without_bit-left.ensures in
    record {
      len = c.clear_group.ensures.len ∙ c.bits.invariant.len;
      left = λ q told.
          let was = cleared c.bits.words.items c.clear_group.new.words.items (c.args.first + bit) c.clear_group.ensures.none c.clear_group.ensures.others q told in
          let before = c.bits.invariant.left q was.0 in
          (before.0, pass_one c.args.mask c.bits.left c.without_bit-left.result bit one.gone one.others (λ j. q / 512 ≢ c.args.first + j) before.1 was.1);
    }

pub returns-clause-left : goal.returns-clause-left
returns-clause-left c q told =
    let before = c.bits.invariant.left q told in
    (before.0, passed_all c.args.mask c.bits.left (λ j. q / 512 ≢ c.args.first + j) c.bits-test.false before.1)

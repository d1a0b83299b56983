use Rattle.std.proofs.Common.{rules, FitsSigned, pos, refl, sym, ap, ◌∙◌}
use Rattle.std.specs.Prelude.{slice_index_or}
use Rattle.std.specs.Int.{w32}
use Rattle.std.proofs.lemmas.Int.{to_z-of_z}
use Rattle.std.specs.FinMap as map
use Rattle.marks.proofs.Bits.{of_one}
use Rattle.private_view.specs.Views.{Seen}
use Rattle.private_view.proofs.Fronts.{all_back, left_some, none_back, one_back}
use Rattle.private_view.proofs.paged.Paged.put_first.Goals as goal

pub bits-init : goal.bits-init
bits-init c =
    record { rest = refl; of = λ j lt has. has; back = none_back c.args.mask c.args.values.now c.args.self.now.written }

pub put_again-requires : goal.put_again-requires
put_again-requires c =
    let at = c.lowest_bit-at.result in
    let lowest = c.lowest_bit-at.ensures in
    let s = c.args.self.now in
    left_some c.args.mask c.args.values.now s.written c.bits.left at c.bits.self.written lowest.small lowest.has c.bits.invariant.back (c.requires at lowest.small (c.bits.invariant.of at lowest.small lowest.has))

pub bits-preserved : goal.bits-preserved
bits-preserved c =
    let s = c.args.self.now in
    let vs = c.args.values.now in
    let m = c.args.mask in
    let at = c.lowest_bit-at.result in
    let lowest = c.lowest_bit-at.ensures in
    let less = c.without_bit-left.result in
    let one = c.without_bit-left.ensures in
    let before = c.bits.self in
    let v = slice_index_or vs at (pos 0) in
    let fits : FitsSigned w32 v = search rules in
    let w = map.insert before.written at v in
    let put = c.put_again.ensures ∙ ap (λ x. record before { written = map.insert before.written at x }) (to_z-of_z w32 v fits) in
    record {
      rest = put ∙ ap (λ (t : Seen). record t { written = w }) c.bits.invariant.rest ∙ ap (λ ws. record s { written = ws }) (sym (ap (λ (t : Seen). t.written) put));
      of = of_one m c.bits.left less at one.gone one.others c.bits.invariant.of;
      back = λ q. ap (λ (t : Seen). map.get t.written q) put ∙ one_back m vs s.written c.bits.left less at before.written lowest.small (c.bits.invariant.of at lowest.small lowest.has) one.gone one.others c.bits.invariant.back q;
    }

pub returns : goal.returns
returns c =
    let s = c.args.self.now in
    c.bits.invariant.rest ∙ ap (λ ws. record s { written = ws }) (all_back c.args.mask c.args.values.now s.written c.bits.left c.bits.self.written c.bits-test.false c.bits.invariant.back)

use Rattle.std.proofs.Common.{arith, rules, pos, ◌≡◌, ◌+◌, ◌*◌, ◌<◌, ap, length, ◌∙◌}
use Rattle.std.specs.Prelude.{FitsSigned, slice_index_or, slice_set}
use Rattle.std.specs.Int.{w32}
use Rattle.std.proofs.lemmas.Int.{to_z-of_z}
use Rattle.std.proofs.Math.ListN.{length-set}
use Rattle.private_view.specs.Views.{of_page}
use Rattle.private_view.proofs.Marked.{has_cell, in_more, its_value, put_one}
use Rattle.private_view.proofs.paged.put_bits.Goals as goal

pub bits-init : goal.bits-init
bits-init c = search rules

pub write-requires : goal.write-requires
write-requires c =
    c.bits.invariant.within (64 * c.args.page + c.lowest_bit-bit.result) (has_cell c.args.page c.lowest_bit-bit.result c.lowest_bit-bit.ensures.small c.bits.left c.lowest_bit-bit.ensures.has)

pub bits-preserved : goal.bits-preserved
bits-preserved c =
    let now = c.bits.target in
    let next = c.write.new.self in
    let part = c.args.part.now in
    let page = c.args.page in
    let bit = c.lowest_bit-bit.result in
    let small = c.lowest_bit-bit.ensures.small in
    let has = c.lowest_bit-bit.ensures.has in
    let left = c.bits.left in
    let less = c.without_bit-left.result in
    let gone = c.without_bit-left.ensures.gone in
    let others = c.without_bit-left.ensures.others in
    let v = slice_index_or part bit (pos 0) in
    let fits : FitsSigned w32 v = search rules in
    let within : 64 * page + bit < length now = c.bits.invariant.within (64 * page + bit) (has_cell page bit small left has) in
    let set : next ≡ slice_set now (64 * page + bit) v = c.write.ensures ∙ ap (slice_set now (64 * page + bit)) (to_z-of_z w32 v fits) in
    let len : length next ≡ length now = ap length set ∙ length-set now (64 * page + bit) v in
    record {
      remains = put_one page bit small left less gone others c.args.target.now now next (of_page part) c.args.word v has (its_value page bit small part) within set c.bits.invariant.remains;
      within = λ q h. (let lt = c.bits.invariant.within q (in_more page bit small left less gone others q h) in omega arith);
      len = len ∙ c.bits.invariant.len;
    }

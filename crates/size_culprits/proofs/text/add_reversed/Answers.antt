use Rattle.std.proofs.Common.{◌++◌, ap, ◌∙◌}
use Rattle.std.specs.Prelude.{codes}
use Rattle.std.specs.Fmt.{signed_decimal}
use Rattle.std.specs.Int.{w32}
use Rattle.std.proofs.lemmas.Int.{to_z-of_z}
use Rattle.rule_passes.proofs.Answering.{on_ok_then}
use Rattle.size_culprits.proofs.Joining.{four_joined}
use Rattle.size_culprits.proofs.text.add_reversed.Goals as goal

pub returns : goal.returns
returns c =
    let lower = to_z-of_z w32 c.args.lower c.ranges.lower in
    let upper = to_z-of_z w32 c.args.upper c.ranges.upper in
    on_ok_then _ _ c.add_bound-2.result c.add_bound-2.ensures (λ last. four_joined c.args.bytes.now.items (codes " has bounds ") (signed_decimal c.args.lower) (codes " TO ") (signed_decimal c.args.upper) c.add.new.bytes.items c.add_bound.new.bytes.items c.add-2.new.bytes.items c.add_bound-2.new.bytes.items c.in_ok-add.ensures (c.in_ok-add_bound.ensures ∙ ap (λ z. c.add.new.bytes.items ++ signed_decimal z) lower) c.in_ok-add-2.ensures (last ∙ ap (λ z. c.add-2.new.bytes.items ++ signed_decimal z) upper))

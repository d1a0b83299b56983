use Rattle.std.proofs.Common.{ap, ◌∙◌}
use Rattle.meaning.specs.Nesting.{is_end}
use Rattle.nesting.proofs.Scans.{found_end}
use Rattle.nesting.proofs.nesting.has_no_end.Goals as goal

pub returns-then-closes_unit : goal.returns-then-closes_unit
returns-then-closes_unit c =
    found_end c.args.items.now c.loop-item.item-index c.item-item.result c.loop-item-test.true c.item-item.is (c.if-closes_unit.ensures ∙ ap is_end c.effect_of_item.ensures)

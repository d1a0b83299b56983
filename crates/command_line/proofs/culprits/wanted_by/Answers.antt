use Rattle.std.proofs.Common.{◌∙◌, sym}
use Rattle.command_line.proofs.Asking.{wanted_block, wanted_turns, wanted_window, wanted_workers}
use Rattle.command_line.proofs.culprits.wanted_by.Goals as goal

pub returns-then-eq : goal.returns-then-eq
returns-then-eq c = sym (wanted_workers c.args.option.now (sym c.eq.ensures ∙ c.if-eq.true))

pub returns-then-eq-2 : goal.returns-then-eq-2
returns-then-eq-2 c = sym (wanted_block c.args.option.now (sym c.eq.ensures ∙ c.if-eq.false) (sym c.eq-else-eq.ensures ∙ c.if-eq-2.true))

pub returns-then-eq-3 : goal.returns-then-eq-3
returns-then-eq-3 c =
    sym (wanted_window c.args.option.now (sym c.eq.ensures ∙ c.if-eq.false) (sym c.eq-else-eq.ensures ∙ c.if-eq-2.false) (sym c.eq-else-eq-2.ensures ∙ c.if-eq-3.true))

pub returns-then-eq-4 : goal.returns-then-eq-4
returns-then-eq-4 c =
    sym (wanted_turns c.args.option.now (sym c.eq.ensures ∙ c.if-eq.false) (sym c.eq-else-eq.ensures ∙ c.if-eq-2.false) (sym c.eq-else-eq-2.ensures ∙ c.if-eq-3.false) (sym c.eq-else-eq-3.ensures ∙ c.if-eq-4.true))

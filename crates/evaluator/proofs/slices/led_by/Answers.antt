use Rattle.std.proofs.Common.{sym, subst}
use Rattle.evaluator.specs.Places.{IsLedTo}
use Rattle.evaluator.proofs.Sliced.{first_leads, last_leads, none_leads}
use Rattle.evaluator.proofs.slices.led_by.Goals as goal

pub returns-in-Some-clause-is : goal.returns-in-Some-clause-is
returns-in-Some-clause-is c =
    first_leads c.args.member.now c.in-Block.block c.in-Block.is c.deref.result.now c.deref.ensures.value c.in-Some.label c.in-Some.ensures

pub returns-in_ok-block-in-None-clause-is : goal.returns-in_ok-block-in-None-clause-is
returns-in_ok-block-in-None-clause-is c =
    last_leads c.args.member.now c.in-Block.block c.in-Block.is c.deref.result.now c.deref.ensures.value c.in_ok-block-in-None.field-0 c.in-None.ensures c.in_ok-block-in-None.was

pub returns-in_err-block-in-None-clause-is : goal.returns-in_err-block-in-None-clause-is
returns-in_err-block-in-None-clause-is c =
    subst (λ o. IsLedTo c.args.member.now o) (sym c.from_residual-in_err-block-in-None.ensures) (none_leads c.args.member.now c.in-Block.block c.in-Block.is c.deref.result.now c.deref.ensures.value c.in-None.ensures c.in_err-block-in-None.was)

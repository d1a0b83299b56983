use Rattle.std.proofs.Common.{◌≡◌, sym, ap, subst, ◌∙◌, Some, None, option_map}
use Rattle.std.specs.Result.{IfOk}
use Rattle.meaning.specs.Trees.{nested}
use Rattle.list_culprits.specs.Seats.{seat_at}
use Rattle.culprits.specs.Told.{tell}
use Rattle.culprits.proofs.Asking.{listed_at}
use Rattle.culprits.proofs.asked.list_culprit.Goals as goal

pub returns-in-None : goal.returns-in-None
returns-in-None c =
    listed_at c.args.rule c.args.line (nested c.args.unit.now) None (ap (option_map seat_at) (sym c.in-None.is) ∙ c.in_ok-seat_of.ensures)

pub returns-in-Some : goal.returns-in-Some
returns-in-Some c =
    subst (λ m. IfOk c.listed_culprit.result (λ k. tell k ≡ m)) (listed_at c.args.rule c.args.line (nested c.args.unit.now) (Some (seat_at c.in-Some.seat)) (ap (option_map seat_at) (sym c.in-Some.is) ∙ c.in_ok-seat_of.ensures)) c.listed_culprit.ensures

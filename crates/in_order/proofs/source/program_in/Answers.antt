use Rattle.std.proofs.Common.{◌≡◌, Ok, sym, subst}
use Rattle.meaning.specs.Rules.{checked}
use Rattle.meaning.specs.Trees.{nested}
use Rattle.rule_laws.specs.Units.{IsSpelled}
use Rattle.in_order.proofs.source.program_in.Goals as goal

pub lowered-requires : goal.lowered-requires
lowered-requires c =
    let program = c.in_ok-program.program in
    let same = sym c.in_ok-program.ensures.tree in
    record {
      spelled = subst (λ t. IsSpelled (nested t)) same (record { source = c.args.source.now; spells = c.in_ok-unit.ensures });
      accepted = subst (λ t. checked (nested t) ≡ Ok (nested program)) same c.in_ok-program.ensures.exact;
    }

pub check-requires : goal.check-requires
check-requires c = record { source = c.args.source.now; spells = c.in_ok-unit.ensures }

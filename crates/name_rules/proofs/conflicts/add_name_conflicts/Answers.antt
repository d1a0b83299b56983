use Rattle.std.proofs.Common.{subst}
use Rattle.std.specs.Prelude.{OnOk}
use Rattle.meaning.specs.declared.refusal.Rule.TheVariants.{K4}
use Rattle.rule_passes.specs.Telling.{AddsTold}
use Rattle.name_rules.proofs.Conflicting.{one_rule}
use Rattle.name_rules.proofs.conflicts.add_name_conflicts.Goals as goal

pub returns : goal.returns
returns c =
    subst (λ f. OnOk c.add_told.result (AddsTold f K4 c.args.items.now c.args.pairs.now.items c.add_told.new.pairs.items)) (one_rule c.args.symbols.now c.new.result.symbols.now c.new-2.result.symbols.now c.new-3.result.symbols.now c.new-4.result.symbols.now c.new.ensures.same c.new-2.ensures.same c.new-3.ensures.same c.new-4.ensures.same) c.add_told.ensures

pub add_told-requires : goal.add_told-requires
add_told-requires c =
    (c.new.ensures.none, (c.new-2.ensures.none, (c.new-3.ensures.none, (c.new-4.ensures.none, (c.new-5.ensures, c.new-6.ensures)))))

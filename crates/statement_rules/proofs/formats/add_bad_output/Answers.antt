use Rattle.std.proofs.Common.{◌||◌, ap, subst, ◌∙◌}
use Rattle.std.specs.Prelude.{OnOk}
use Rattle.meaning.specs.declared.refusal.Rule.TheVariants.{K11}
use Rattle.rule_passes.specs.Telling.{AddsTold}
use Rattle.statement_rules.specs.FormatLabels.{breaks_places, breaks_reading}
use Rattle.statement_rules.proofs.Misformed.{both_break}
use Rattle.statement_rules.proofs.formats.add_bad_output.Goals as goal

pub returns-clause-told : goal.returns-clause-told
returns-clause-told c =
    subst (λ f. OnOk c.add_and_read.result (AddsTold f K11 c.args.symbols.now.items.now c.args.pairs.now.items c.add_and_read.new.pairs.items))
    (ap (λ r before x. breaks_places r before x || breaks_reading before x) c.in_ok-output.ensures.symbols ∙ both_break c.args.symbols.now) c.add_and_read.ensures.told

pub add_and_read-requires : goal.add_and_read-requires
add_and_read-requires c = c.in_ok-output.ensures.known

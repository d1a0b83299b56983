use Rattle.std.proofs.Common.{ap}
use Rattle.rule_passes.proofs.Answering.{on_ok_then}
use Rattle.statement_rules.specs.FormatLabels.{breaks_places}
use Rattle.statement_rules.proofs.formats.BadOutputBehind.pass.Goals as goal

pub returns-clause-same : goal.returns-clause-same
returns-clause-same c =
    on_ok_then _ _ c.pass_constants.result c.pass_constants.ensures.symbols (λ same. ap (λ r. breaks_places r.now) same)

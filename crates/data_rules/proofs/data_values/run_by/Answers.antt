use Rattle.std.proofs.Common.{Some, sym, ap₂, ◌∙◌}
use Rattle.std.specs.Prelude.{replicate}
use Rattle.meaning.specs.Initial.{and_also}
use Rattle.data_rules.specs.DataRuns.{or_one_none}
use Rattle.data_rules.proofs.DataRunning.{some_run}
use Rattle.data_rules.proofs.data_values.run_by.Goals as goal

pub returns-in-Some-constant_of-clause-run : goal.returns-in-Some-constant_of-clause-run
returns-in-Some-constant_of-clause-run c =
    some_run c.in-Some.count c.in-Some-constant_of.value
    ∙ ap₂ (λ o p. or_one_none (and_also o (λ k. and_also p (λ x. Some (replicate k x))))) (sym c.in-Some.is ∙ c.count_of.ensures.value) (sym c.in-Some-constant_of.is ∙ c.constant_of.ensures)

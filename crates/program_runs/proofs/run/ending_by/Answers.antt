use Rattle.std.proofs.Common.{ap, sym, ◌∙◌}
use Rattle.meaning.specs.declared.ending.Ending.TheVariants as endings
use Rattle.meaning.specs.Answers.{ending_of}
use Rattle.storage.specs.Checked.{items_in}
use Rattle.evaluator.specs.Statements.{outcome_of}
use Rattle.program_runs.proofs.run.ending_by.Goals as goal

pub returns-in-Normal-clause-told : goal.returns-in-Normal-clause-told
returns-in-Normal-clause-told c =
    ap (λ o. ending_of (items_in c.args.program) (outcome_of o)) (sym c.in-Normal.is)

pub returns-in-Left-clause-told : goal.returns-in-Left-clause-told
returns-in-Left-clause-told c =
    ap (λ o. ending_of (items_in c.args.program) (outcome_of o)) (sym c.in-Left.is)

pub returns-in-Stopped-clause-told : goal.returns-in-Stopped-clause-told
returns-in-Stopped-clause-told c =
    ap endings.Stopped c.into_message.ensures ∙ ap (λ o. ending_of (items_in c.args.program) (outcome_of o)) (sym c.in-Stopped.is)

pub returns-in-Fault-clause-told : goal.returns-in-Fault-clause-told
returns-in-Fault-clause-told c =
    ap (λ o. ending_of (items_in c.args.program) (outcome_of o)) (sym c.in-Fault.is)

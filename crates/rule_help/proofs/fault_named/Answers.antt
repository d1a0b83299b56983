use Rattle.std.proofs.Common.{arith, below_more, sym, ap, map, ◌∙◌}
use Rattle.std.specs.Char.{to_ascii_lowercase}
use Rattle.std.proofs.lemmas.Bool.{false≢true}
use Rattle.std.proofs.lemmas.List.{get_or_default}
use Rattle.meaning.specs.Names.{fault_name}
use Rattle.rule_help.specs.declared.TheConstants.{FAULTS}
use Rattle.rule_help.proofs.Tables.{each_fault, no_name}
use Rattle.rule_help.proofs.fault_named.Goals as goal

pub loop-kind-preserved : goal.loop-kind-preserved
loop-kind-preserved c =
    below_more _ _ c.loop-kind.invariant
    (λ d e. false≢true (sym c.if-eq_ignore_ascii_case.false ∙ c.eq_ignore_ascii_case.ensures.test.1 (ap (map to_ascii_lowercase) (c.name.ensures ∙ ap fault_name (get_or_default FAULTS.now c.loop-kind.kind-index _ d c.loop-kind-test.true)) ∙ e)))

pub returns : goal.returns
returns c kind e = no_name fault_name FAULTS.now c.args.name.now kind (each_fault kind) (λ k lt. c.loop-kind.invariant k (omega (arith, lt, c.loop-kind-test.false))) e

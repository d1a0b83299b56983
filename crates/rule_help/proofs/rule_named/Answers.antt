use Rattle.std.proofs.Common.{arith, below_more, sym, ap, map, ◌∙◌}
use Rattle.std.specs.Char.{to_ascii_lowercase}
use Rattle.std.proofs.lemmas.Bool.{false≢true}
use Rattle.std.proofs.lemmas.List.{get_or_default}
use Rattle.meaning.specs.Names.{rule_name}
use Rattle.rule_help.specs.declared.TheConstants.{RULES}
use Rattle.rule_help.proofs.Tables.{each_rule, no_name}
use Rattle.rule_help.proofs.rule_named.Goals as goal

pub loop-rule-preserved : goal.loop-rule-preserved
loop-rule-preserved c =
    below_more _ _ c.loop-rule.invariant
    (λ d e. false≢true (sym c.if-eq_ignore_ascii_case.false ∙ c.eq_ignore_ascii_case.ensures.test.1 (ap (map to_ascii_lowercase) (c.name.ensures ∙ ap rule_name (get_or_default RULES.now c.loop-rule.rule-index _ d c.loop-rule-test.true)) ∙ e)))

pub returns : goal.returns
returns c rule e = no_name rule_name RULES.now c.args.name.now rule (each_rule rule) (λ k lt. c.loop-rule.invariant k (omega (arith, lt, c.loop-rule-test.false))) e

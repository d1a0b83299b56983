use Rattle.std.proofs.Common.{◌≡◌, ◌<◌, ℕ}
use Rattle.std.specs.Prelude.{slice_index_or}
use Rattle.meaning.specs.Names.{rule_name}
use Rattle.rule_help.specs.Named.{Spells}
use Rattle.rule_help.specs.declared.TheConstants.{RULES}
use Rattle.rule_help.proofs.rule_named.Given as goal

abbrev pub invariant-loop-rule : goal.invariant-loop-rule
invariant-loop-rule l = (k : ℕ) → k < l.rule-index → (d : _) → Spells l.name (rule_name (slice_index_or RULES.now k d)) → ⊥

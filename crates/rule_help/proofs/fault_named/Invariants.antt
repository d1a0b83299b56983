use Rattle.std.proofs.Common.{◌≡◌, ◌<◌, ℕ}
use Rattle.std.specs.Prelude.{slice_index_or}
use Rattle.meaning.specs.Names.{fault_name}
use Rattle.rule_help.specs.Named.{Spells}
use Rattle.rule_help.specs.declared.TheConstants.{FAULTS}
use Rattle.rule_help.proofs.fault_named.Given as goal

abbrev pub invariant-loop-kind : goal.invariant-loop-kind
invariant-loop-kind l = (k : ℕ) → k < l.kind-index → (d : _) → Spells l.name (fault_name (slice_index_or FAULTS.now k d)) → ⊥

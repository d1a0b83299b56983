use Rattle.std.proofs.Common.{◌≡◌, ℕ, map, take}
use Rattle.std.specs.Prelude.{count_by}
use Rattle.meaning.specs.LabelRules.{has_label}
use Rattle.statement_rules.specs.Counted.{count_in}
use Rattle.rule_passes.specs.Listed.{tree_at}
use Rattle.statement_rules.proofs.transfers.lines_of.Given as goal

abbrev pub invariant-loop-item : goal.invariant-loop-item
invariant-loop-item l = (s : ℕ) → count_in l.lines s ≡ count_by (has_label s) (map tree_at (take l.item-index l.items))

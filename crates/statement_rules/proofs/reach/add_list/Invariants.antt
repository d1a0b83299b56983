use Rattle.std.proofs.Common.{◌≡◌, ◌≤◌, ◌+◌, ◌^◌, ℕ, drop}
use Rattle.std.specs.Prelude.{count_by}
use Rattle.meaning.specs.LabelRules.{has_label}
use Rattle.meaning.specs.Surroundings.{own_items}
use Rattle.meaning.specs.Trees.{members_tree}
use Rattle.statement_rules.specs.Counted.{count_in}
use Rattle.statement_rules.proofs.reach.add_list.Given as goal

abbrev pub invariant-loop-member : goal.invariant-loop-member
invariant-loop-member l = record {
  counted : (s : ℕ) → count_by (has_label s) (own_items (members_tree (drop l.member-index l.members))) + count_in l.lines s ≡ count_by (has_label s) (own_items (members_tree l.members)) + count_in l.initial.lines s;
  small : (s : ℕ) → 2 ^ 32 ≤ s → count_by (has_label s) (own_items (members_tree (drop l.member-index l.members))) ≡ count_by (has_label s) (own_items (members_tree l.members));
}

use Rattle.std.proofs.Common.{◌≡◌, ◌||◌, ℕ, drop}
use Rattle.std.specs.BTreeSet.{contains}
use Rattle.std.specs.Ordering.{nat_cmp}
use Rattle.meaning.specs.Trees.{arms_tree, members_tree}
use Rattle.label_targets.specs.Output.{has_output, has_output_in_arms}
use Rattle.label_targets.proofs.output.+output.Given as goal

abbrev pub invariant-put_arms-loop-arm : goal.invariant-put_arms-loop-arm
invariant-put_arms-loop-arm l =
    (line : ℕ) → (contains nat_cmp l.lines line || has_output_in_arms line (arms_tree (drop l.arm-index l.arms))) ≡ (contains nat_cmp l.fn.lines line || has_output_in_arms line (arms_tree l.arms))

abbrev pub invariant-put_list-loop-member : goal.invariant-put_list-loop-member
invariant-put_list-loop-member l =
    (line : ℕ) → (contains nat_cmp l.lines line || has_output line (members_tree (drop l.member-index l.members))) ≡ (contains nat_cmp l.fn.lines line || has_output line (members_tree l.members))

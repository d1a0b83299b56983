use Rattle.std.proofs.Common.{◌≡◌, drop}
use Rattle.meaning.specs.Trees.{arms_tree, members_tree}
use Rattle.label_targets.specs.Quiet.{are_quiet, is_quiet}
use Rattle.label_targets.proofs.quiet.+quiet.Given as goal

abbrev pub invariant-is_quiet_list-loop-member : goal.invariant-is_quiet_list-loop-member
invariant-is_quiet_list-loop-member l = record {
  left : is_quiet (members_tree l.members) ≡ is_quiet (members_tree (drop l.member-index l.members));
}

abbrev pub invariant-are_quiet_arms-loop-arm : goal.invariant-are_quiet_arms-loop-arm
invariant-are_quiet_arms-loop-arm l = record {
  left : are_quiet (arms_tree l.arms) ≡ are_quiet (arms_tree (drop l.arm-index l.arms));
}

use Rattle.std.proofs.Common.{◌≡◌, ◌++◌, drop}
use Rattle.meaning.specs.Surroundings.{Around, told_in, told_in_arms}
use Rattle.meaning.specs.Trees.{arms_tree, members_tree}
use Rattle.rule_passes.proofs.within.+adding.Given as goal

abbrev pub invariant-add_in-loop-member : goal.invariant-add_in-loop-member
invariant-add_in-loop-member g l = record {
  so_far : (a : Around) → g.W.Within.knows l.initial.within a → l.pairs.items ++ told_in (g.W.Within.breaks l.initial.within) l.rule a (members_tree (drop l.member-index l.members)) ≡ l.initial.pairs.items ++ told_in (g.W.Within.breaks l.initial.within) l.rule a (members_tree l.members);
  knows : (a : Around) → g.W.Within.knows l.initial.within a → g.W.Within.knows l.within a;
  same : g.W.Within.breaks l.within ≡ g.W.Within.breaks l.initial.within;
}

abbrev pub invariant-add_in_arms-loop-arm : goal.invariant-add_in_arms-loop-arm
invariant-add_in_arms-loop-arm g l = record {
  so_far : (a : Around) → g.W.Within.knows l.initial.within a → l.pairs.items ++ told_in_arms (g.W.Within.breaks l.initial.within) l.rule a (arms_tree (drop l.arm-index l.arms)) ≡ l.initial.pairs.items ++ told_in_arms (g.W.Within.breaks l.initial.within) l.rule a (arms_tree l.arms);
  knows : (a : Around) → g.W.Within.knows l.initial.within a → g.W.Within.knows l.within a;
  same : g.W.Within.breaks l.within ≡ g.W.Within.breaks l.initial.within;
}

-- Lists of statements in a program unit: its body, ranges of DO statements, and bodies of arms
-- (ANSI X3.9-1978, 11.6 to 11.10).
use Rattle.std.specs.Prelude.{◌≡◌, ◌⊎◌}
use Rattle.meaning.specs.declared.syntax.Tree.{Tree}
use Rattle.meaning.specs.Trees.{Members, none, plain, loop, block, Arms, no_arms, arm, members_tree}

-- the second list stands further in, in the first
abbrev mutual
  pub HasList : Members → Members → Type 0
  HasList none r = ⊥
  HasList (plain x ms) r = HasList ms r
  HasList (loop x range ms) r = (range ≡ r) ⊎ (HasList range r ⊎ HasList ms r)
  HasList (block arms x ms) r = HasListInArms arms r ⊎ HasList ms r

  pub HasListInArms : Arms → Members → Type 0
  HasListInArms no_arms r = ⊥
  HasListInArms (arm x body arms) r = (body ≡ r) ⊎ (HasList body r ⊎ HasListInArms arms r)

-- in a program unit: its body, or a list further in
abbrev pub IsListIn : Tree → Members → Type 0
IsListIn t r = (members_tree t.body.items ≡ r) ⊎ HasList (members_tree t.body.items) r

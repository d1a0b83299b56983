-- DO statements in whose ranges output stands (ANSI X3.9-1978, 11.10 and 12.8), by their initial
-- lines.
use Rattle.std.specs.Prelude.{ℕ, Bool, false, ◌==◌, ◌&&◌, ◌||◌, not}
use Rattle.meaning.specs.declared.syntax.Tree.{Tree}
use Rattle.meaning.specs.Trees.{Members, none, plain, loop, block, Arms, no_arms, arm, members_tree}
use Rattle.label_targets.specs.Quiet.{is_quiet}

-- a DO statement with this line, in the list or further in, has a WRITE or PRINT statement in its
-- range
abbrev mutual
  pub has_output : ℕ → Members → Bool
  has_output line none = false
  has_output line (plain x ms) = has_output line ms
  has_output line (loop x range ms) =
      ((x.line == line) && not (is_quiet range)) || (has_output line range || has_output line ms)
  has_output line (block arms x ms) = has_output_in_arms line arms || has_output line ms

  pub has_output_in_arms : ℕ → Arms → Bool
  has_output_in_arms line no_arms = false
  has_output_in_arms line (arm x body arms) = has_output line body || has_output_in_arms line arms

-- in a program unit
abbrev pub has_output_in : Tree → ℕ → Bool
has_output_in t line = has_output line (members_tree t.body.items)

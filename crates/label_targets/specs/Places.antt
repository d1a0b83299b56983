-- Where in their lists statements with labels stand (ANSI X3.9-1978, 3.4 and 11.1 to 11.9).
use Rattle.std.specs.Prelude.{◌+◌, ℕ, if◌then◌else◌, Option, Some, None}
use Rattle.std.specs.Option.{option_or}
use Rattle.meaning.specs.declared.syntax.Tree.{Tree}
use Rattle.meaning.specs.Execution.{heads}
use Rattle.meaning.specs.LabelRules.{has_label}
use Rattle.meaning.specs.Trees.{Members, none, plain, loop, block, Arms, no_arms, arm, members_tree}

-- at which place of a list, the first of which has a number, a transfer to a label goes on, if the
-- list has the label: at the statement, or, at the label of END IF, behind the block IF
abbrev pub own_place : ℕ → ℕ → Members → Option ℕ
own_place s i none = None
own_place s i (plain x ms) = if has_label s x then Some i else own_place s (i + 1) ms
own_place s i (loop x range ms) = if has_label s x then Some i else own_place s (i + 1) ms
own_place s i (block arms x ms) =
    if heads s arms then Some i
    else (if has_label s x then Some (i + 1) else own_place s (i + 1) ms)

-- the same, in the first list that has the label: this one or one further in
abbrev mutual
  pub place_from : ℕ → ℕ → Members → Option ℕ
  place_from s i none = None
  place_from s i (plain x ms) = if has_label s x then Some i else place_from s (i + 1) ms
  place_from s i (loop x range ms) =
      if has_label s x then Some i else option_or (place_from s 0 range) (place_from s (i + 1) ms)
  place_from s i (block arms x ms) =
      if heads s arms then Some i
      else option_or (place_in_arms s arms)
      (if has_label s x then Some (i + 1) else place_from s (i + 1) ms)

  pub place_in_arms : ℕ → Arms → Option ℕ
  place_in_arms s no_arms = None
  place_in_arms s (arm x body arms) = option_or (place_from s 0 body) (place_in_arms s arms)

-- in a program unit
abbrev pub place_in : Tree → ℕ → Option ℕ
place_in t s = place_from s 0 (members_tree t.body.items)

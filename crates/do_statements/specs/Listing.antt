-- The DO statements of a list, and where they stand (ANSI X3.9-1978, 11.10 and 12.8).
use Rattle.std.specs.Prelude.{ℕ, Bool, true, false, List, [], ◌∷◌, ◌++◌, Option, Some, None}
use Rattle.std.specs.Prelude.{if◌then◌else◌}
use Rattle.meaning.specs.Syntax.{ShapeTree, doing_while}
use Rattle.meaning.specs.Trees.{Members, none, plain, loop, block, Arms, no_arms, arm}
use Rattle.label_targets.specs.Quiet.{is_quiet}
use Rattle.do_statements.specs.declared.listing.DoStatement.{DoStatement}
use Rattle.do_statements.specs.declared.listing.Standing.{Standing}
use Rattle.do_statements.specs.declared.listing.Standing.TheVariants.{While, Output, Inside, Apart}

abbrev pub is_while : ShapeTree → Bool
is_while (doing_while label comma e) = true
is_while s = false

abbrev pub quiet_standing : Option ℕ → Standing
quiet_standing None = Apart
quiet_standing (Some line) = Inside line

-- where a DO statement with this range stands, in the range of one without output, or in none
abbrev pub standing_of : Option ℕ → ShapeTree → Members → Standing
standing_of around s range =
    if is_while s then While else (if is_quiet range then quiet_standing around else Output)

-- the innermost one without output around its range
abbrev pub inner_of : Option ℕ → ℕ → Standing → Option ℕ
inner_of around line While = around
inner_of around line Output = around
inner_of around line (Inside n) = Some line
inner_of around line Apart = Some line

abbrev mutual
  -- those of a list, in their order
  pub listed_in : Option ℕ → Members → List DoStatement
  listed_in around none = []
  listed_in around (plain x ms) = listed_in around ms
  listed_in around (loop x range ms) =
      (record { line = x.line; standing = standing_of around x.shape range } ∷ listed_in
      (inner_of around x.line (standing_of around x.shape range)) range) ++ listed_in around ms
  listed_in around (block arms x ms) = listed_in_arms around arms ++ listed_in around ms

  pub listed_in_arms : Option ℕ → Arms → List DoStatement
  listed_in_arms around no_arms = []
  listed_in_arms around (arm x body arms) = listed_in around body ++ listed_in_arms around arms

-- a DO statement, and those in its range
abbrev pub listed_of : Option ℕ → ℕ → ShapeTree → Members → List DoStatement
listed_of around line s range =
    record { line = line; standing = standing_of around s range } ∷ listed_in
    (inner_of around line (standing_of around s range)) range

-- What a member of a list of statements does.
use Rattle.std.specs.Prelude.{ℕ, List, true}
use Rattle.meaning.specs.declared.syntax.Block.{Block'}
use Rattle.meaning.specs.declared.syntax.Member.{Member, Plain, Loop', Block}
use Rattle.meaning.specs.Maps.{Map}
use Rattle.meaning.specs.Execution.{Ran, Meaning, Follow, Ways, step, while_of, loop_by, arms_from}
use Rattle.meaning.specs.Syntax.{ItemTree, shape_tree}
use Rattle.meaning.specs.Scopes.{scope_of}
use Rattle.meaning.specs.Trees.{item_tree, row_members, row_arms}

-- what a member does before what follows it; a DO WHILE whose range ended normally goes on with
-- what it is again
abbrev pub member_does : List ItemTree → Meaning → Member → Follow → Map → ℕ → Ways → Ran
member_does program rec (Plain x) again m t go =
    step program (shape_tree x.form.shape.value) x.line m t go
member_does program rec (Loop' head shape range) again m t go =
    loop_by (while_of (shape_tree head.form.shape.value)) (scope_of program) rec (item_tree head)
    (row_members range) again m t go
member_does program rec (Block (Block' shape arms end)) again m t go =
    arms_from (scope_of program) rec true (row_arms arms) m t go

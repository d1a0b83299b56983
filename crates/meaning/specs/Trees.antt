-- A program unit as a tree: lists of statements, in which a DO statement stands with its range, and
-- a block IF with its arms (ANSI X3.9-1978, 3.5, 11.6 to 11.10), and what values of the Rust types
-- stand for.
use Rattle.std.specs.Prelude.{List, [], ◌∷◌, ◌++◌}
use Rattle.meaning.specs.declared.syntax.Item.{Item}
use Rattle.meaning.specs.declared.syntax.Arm.{Arm}
use Rattle.meaning.specs.declared.syntax.Block.{Block', Row_of-Arm, end_of-Arm, more_of-Arm}
use Rattle.meaning.specs.declared.syntax.Member.{Member, Plain, Loop', Block, Row_of-Member}
use Rattle.meaning.specs.declared.syntax.Member.{end_of-Member, more_of-Member}
use Rattle.meaning.specs.declared.syntax.Tree.{Tree}
use Rattle.meaning.specs.Syntax.{ItemTree, shape_tree}

mutual
  -- the members of a list: a statement and what follows it, or a DO statement, its range and what
  -- follows, or the arms of a block IF, its END IF statement and what follows
  pub data Members : Type 0 where
    none : Members
    plain : ItemTree → Members → Members
    loop : ItemTree → Members → Members → Members
    block : Arms → ItemTree → Members → Members

  -- the arms of a block IF: an IF THEN, ELSE IF or ELSE statement, the members behind it, and
  -- further arms
  pub data Arms : Type 0 where
    no_arms : Arms
    arm : ItemTree → Members → Arms → Arms

-- a program unit: its body, whose last statement is END
pub record Nested : Type 0 where
  pub body : Members

-- the statements of a list in order
abbrev mutual
  pub flat : Members → List ItemTree
  flat none = []
  flat (plain x ms) = x ∷ flat ms
  flat (loop x range ms) = x ∷ (flat range ++ flat ms)
  flat (block arms x ms) = flat_arms arms ++ (x ∷ flat ms)

  pub flat_arms : Arms → List ItemTree
  flat_arms no_arms = []
  flat_arms (arm x ms arms) = x ∷ (flat ms ++ flat_arms arms)

abbrev pub flatten : Nested → List ItemTree
flatten t = flat t.body

-- ---- what the Rust values stand for

abbrev pub item_tree : Item → ItemTree
item_tree x = record { line = x.line; label = x.label; shape = shape_tree x.form.shape.value }

abbrev mutual
  -- a member before others
  pub member_before : Member → Members → Members
  member_before (Plain x) ms = plain (item_tree x) ms
  member_before (Loop' head shape range) ms = loop (item_tree head) (row_members range) ms
  member_before (Block (Block' shape arms end)) ms = block (row_arms arms) (item_tree end) ms

  pub row_members : {m : _} → Row_of-Member m → Members
  row_members end_of-Member = none
  row_members (more_of-Member x xs) = member_before x (row_members xs)

  pub row_arms : {m : _} → Row_of-Arm m → Arms
  row_arms end_of-Arm = no_arms
  row_arms (more_of-Arm head shape body arms) =
      arm (item_tree head) (row_members body) (row_arms arms)

abbrev pub members_tree : List Member → Members
members_tree [] = none
members_tree (x ∷ xs) = member_before x (members_tree xs)

abbrev pub arms_tree : List Arm → Arms
arms_tree [] = no_arms
arms_tree (x ∷ xs) = arm (item_tree x.head) (members_tree x.body.items) (arms_tree xs)

abbrev pub nested : Tree → Nested
nested t = record { body = members_tree t.body.items }

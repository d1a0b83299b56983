-- One member more at the end of a list of members, and a loop as a member.
use Rattle.std.proofs.Common.{rules, ◌≡◌, List, [], ◌∷◌, ◌++◌, refl, sym, ap, ◌∙◌}
use Rattle.meaning.specs.declared.syntax.Item.{Item}
use Rattle.meaning.specs.declared.syntax.Member.{Member, Plain, Loop', Block, Row_of-Member, end_of-Member, more_of-Member, items-the_row-Member, the_lemmas}
use Rattle.meaning.specs.declared.syntax.Member.TheViews as views
use Rattle.meaning.specs.declared.syntax.Arm.{Arm}
use Rattle.meaning.specs.declared.syntax.Block.{Block'}
use Rattle.meaning.proofs.Ranges.{row_arms-items}
use Rattle.meaning.specs.Trees.{Members, none, loop, block, arm, no_arms, arms_tree, member_before, row_members, members_tree, item_tree}
use Rattle.meaning.specs.Nesting.{joined, joined_arms}

joined_before : (m : Member) (ms others : Members) → joined (member_before m ms) others ≡ member_before m (joined ms others)
joined_before (Plain x) ms others = refl
joined_before (Loop' head shape xs) ms others = refl
joined_before (Block (Block' shape arms end)) ms others = refl

pub tree_push : (xs : List Member) (m : Member) → members_tree (xs ++ m ∷ []) ≡ joined (members_tree xs) (member_before m none)
tree_push [] m = refl
tree_push (x ∷ xs) m = ap (member_before x) (tree_push xs m) ∙ sym (joined_before x (members_tree xs) (member_before m none))

rows_are : (m : _) (row : Row_of-Member m) → row_members row ≡ members_tree (items-the_row-Member m row)
rows_are m end_of-Member = refl
rows_are m (more_of-Member x xs) = ap (member_before x) (rows_are _ xs)

pub loop_before : (head : Item) (v : _) → member_before (views.Loop (record { head = head; range = v })) none ≡ loop (item_tree head) (members_tree v.items) none
loop_before head v = search (rules, the_lemmas, rows_are)

-- a block IF as a member, and one arm more
pub block_before : (v : _) (x : Item) → member_before (views.made-Block (views.roll-Block (record { arms = v; end = x }))) none ≡ block (arms_tree v.items) (item_tree x) none
block_before v x = search (rules, the_lemmas, row_arms-items)

pub arms_push : (xs : List Arm) (a : Arm) → arms_tree (xs ++ a ∷ []) ≡ joined_arms (arms_tree xs) (arm (item_tree a.head) (members_tree a.body.items) no_arms)
arms_push [] a = refl
arms_push (x ∷ xs) a = ap (arm (item_tree x.head) (members_tree x.body.items)) (arms_push xs a)

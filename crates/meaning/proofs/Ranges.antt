-- The range of a DO statement as a list of members, and the members that a loop over a list has left.
use Rattle.std.proofs.Common.{◌≡◌, ℕ, ◌+◌, ◌<◌, List, length, get_or, drop, refl, sym, ap, ◌∙◌}
use Rattle.std.proofs.lemmas.List.{drop_more}
use mathlib.Core.Former.{Count}
use Rattle.meaning.specs.declared.syntax.Member.{Member, Plain, Loop, Loop', Block, Row_of-Member, end_of-Member, more_of-Member, items-the_row-Member, items_hidden-the_row-Member-0}
use Rattle.meaning.specs.declared.syntax.Arm.{Arm}
use Rattle.meaning.specs.declared.syntax.Block.{out-Block, Block', Row_of-Arm, end_of-Arm, more_of-Arm, items-the_row-Arm, items_shown-the_row-Arm-1, items_shown-the_row-Member-0}
use Rattle.meaning.specs.Syntax.{ItemTree}
use Rattle.meaning.specs.Trees.{Members, loop, block, Arms, arm, item_tree, member_before, row_members, row_arms, members_tree, arms_tree}

row_members-items : (n : _) (row : Row_of-Member n) → row_members row ≡ members_tree (items-the_row-Member n row)
row_members-items n end_of-Member = refl
row_members-items n (more_of-Member x xs) = ap (member_before x) (row_members-items _ xs)

abbrev pub row_of : Member → (n : Count) × Row_of-Member n
row_of (Plain x) = (_, end_of-Member)
row_of (Block b) = (_, end_of-Member)
row_of (Loop' head shape row) = (_, row)

-- a range as its DO statement holds it, and as the list
pub range_is : (outer : _) → row_members (row_of (Loop outer)).1 ≡ members_tree outer.range.items
range_is outer =
    let row = row_of (Loop outer) in
    row_members-items row.0 row.1 ∙ ap members_tree (items_hidden-the_row-Member-0 outer.range)

-- a DO statement before others, with the members of its range
pub member_before-loop : (outer : _) (ms : Members) → member_before (Loop outer) ms ≡ loop (item_tree outer.head) (members_tree outer.range.items) ms
member_before-loop outer ms = ap (λ range. loop (item_tree outer.head) range ms) (range_is outer)

-- a function of the members that are left, one step on
pub left_more : {X : Type 0} (f : Members → X) (ms : List Member) (i : ℕ) (m : Member) → i < length ms → m ≡ get_or ms i m → f (members_tree (drop i ms)) ≡ f (member_before m (members_tree (drop (i + 1) ms)))
left_more f ms i m lt is = ap (λ xs. f (members_tree xs)) (drop_more ms i m lt) ∙ ap (λ x. f (member_before x (members_tree (drop (i + 1) ms)))) (sym is)

-- the arms of a block IF as it holds them, and as the list
arm_same : (x : ItemTree) (ms ns : Members) (xs ys : Arms) → ms ≡ ns → xs ≡ ys → arm x ms xs ≡ arm x ns ys
arm_same x ms ns xs ys e f = rw (e, f) refl

pub row_arms-items : (n : _) (row : Row_of-Arm n) → row_arms row ≡ arms_tree (items-the_row-Arm n row)
row_arms-items n end_of-Arm = refl
row_arms-items n (more_of-Arm head shape row rest) =
    arm_same (item_tree head) (row_members row) _ (row_arms rest) _ (row_members-items _ row ∙ ap members_tree (sym (items_shown-the_row-Member-0 shape row))) (row_arms-items _ rest)

-- a block IF before others, with its arms
pub member_before-block : (b : _) (ms : Members) → member_before (Block b) ms ≡ block (arms_tree (out-Block b).arms.items) (item_tree (out-Block b).end) ms
unfolding out-Block Rattle.meaning.specs.declared.syntax.Member.TheBlock.shown-the_row-Arm-1 denote.Hole.Carrier.out denote.Hole.Carrier.shown
member_before-block (Block' shape arms end) ms =
    ap (λ xs. block xs (item_tree end) ms) (row_arms-items _ arms ∙ ap arms_tree (sym (items_shown-the_row-Arm-1 shape arms)))

-- a function of the arms that are left, one step on
pub left_arms : {X : Type 0} (f : Arms → X) (xs : List Arm) (i : ℕ) (a : Arm) → i < length xs → a ≡ get_or xs i a → f (arms_tree (drop i xs)) ≡ f (arm (item_tree a.head) (members_tree a.body.items) (arms_tree (drop (i + 1) xs)))
left_arms f xs i a lt is =
    ap (λ ys. f (arms_tree ys)) (drop_more xs i a lt) ∙ ap (λ x. f (arm (item_tree x.head) (members_tree x.body.items) (arms_tree (drop (i + 1) xs)))) (sym is)

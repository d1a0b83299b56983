-- Lists of statements without output.
use Rattle.std.proofs.Common.{◌≡◌, ℕ, zero, suc, ◌+◌, ◌<◌, Bool, true, false, List, [], ◌∷◌, length, get_or, drop, refl, sym, ap, ◌∙◌, arith, subst}
use Rattle.std.specs.Prelude.{◌&&◌, not, IsTrue}
use Rattle.meaning.specs.declared.syntax.Arm.{Arm}
use Rattle.meaning.specs.declared.syntax.Member.{Member, Plain, Loop, Loop', Block}
use Rattle.meaning.specs.declared.syntax.Block.{Block', out-Block}
use Rattle.meaning.specs.declared.syntax.Loop.{Loop as LoopOf, out-Loop}
use Rattle.meaning.specs.Syntax.{shape_tree}
use Rattle.meaning.specs.Trees.{Members, none, member_before, members_tree, arms_tree, row_members, row_arms}
use Rattle.meaning.proofs.Ranges.{range_is, left_more, left_arms, member_before-block}
use Rattle.label_targets.specs.Quiet.{is_writing, is_quiet, are_quiet, WritesNothing, ArmsWriteNothing}

and-true : (b : Bool) → b && true ≡ b
and-true true = refl
and-true false = refl

quiet_before : (x : Member) (ms : Members) → is_quiet (member_before x ms) ≡ (is_quiet (member_before x none) && is_quiet ms)
quiet_before (Plain x) ms = ap (λ b. b && is_quiet ms) (sym (and-true (not (is_writing (shape_tree x.form.shape.value)))))
quiet_before (Loop' head shape range) ms = ap (λ b. b && is_quiet ms) (sym (and-true (is_quiet (row_members range))))
quiet_before (Block (Block' shape arms end)) ms = ap (λ b. b && is_quiet ms) (sym (and-true (are_quiet (row_arms arms))))

-- the members and the arms that are left, one step on
pub quiet_left : (ms : List Member) (i : ℕ) (x : Member) → i < length ms → x ≡ get_or ms i x → is_quiet (members_tree (drop i ms)) ≡ (is_quiet (member_before x none) && is_quiet (members_tree (drop (i + 1) ms)))
quiet_left ms i x lt is = left_more is_quiet ms i x lt is ∙ quiet_before x (members_tree (drop (i + 1) ms))

pub arms_quiet_left : (arms : List Arm) (i : ℕ) (a : Arm) → i < length arms → a ≡ get_or arms i a → are_quiet (arms_tree (drop i arms)) ≡ (is_quiet (members_tree a.body.items) && are_quiet (arms_tree (drop (i + 1) arms)))
arms_quiet_left arms i a lt is = left_arms are_quiet arms i a lt is

-- a range and arms by themselves
pub quiet_range_is : (l : LoopOf) → is_quiet (member_before (Loop l) none) ≡ is_quiet (members_tree (out-Loop l).range.items)
quiet_range_is l = and-true _ ∙ ap is_quiet (range_is l)

pub quiet_block_is : (b : _) → is_quiet (member_before (Block b) none) ≡ are_quiet (arms_tree (out-Block b).arms.items)
quiet_block_is b = ap is_quiet (member_before-block b none) ∙ and-true _

-- ---- of a list without output

both-left : (a b : Bool) → IsTrue (a && b) → IsTrue a
both-left true b h = refl
both-left false b h = h

both-right : (a b : Bool) → IsTrue (a && b) → IsTrue b
both-right true b h = h
both-right false b h = absurd cc

writes_at : (ms : List Member) (i : ℕ) (x : Member) → i < length ms → x ≡ get_or ms i x → IsTrue (is_quiet (members_tree ms)) → IsTrue (is_quiet (member_before x none))
writes_at [] i x lt is h = absurd (omega arith)
writes_at (y ∷ ys) zero x lt is h =
    subst (λ z. IsTrue (is_quiet (member_before z none))) (sym is) (both-left (is_quiet (member_before y none)) (is_quiet (members_tree ys)) (subst IsTrue (quiet_before y (members_tree ys)) h))
writes_at (y ∷ ys) (suc i) x lt is h =
    writes_at ys i x (omega arith) is (both-right (is_quiet (member_before y none)) (is_quiet (members_tree ys)) (subst IsTrue (quiet_before y (members_tree ys)) h))

pub quiet_at : (ms : List Member) (i : ℕ) (x : Member) → i < length ms → x ≡ get_or ms i x → WritesNothing (members_tree ms) → WritesNothing (member_before x none)
quiet_at ms i x lt is h = record { is = writes_at ms i x lt is h.is }

-- a statement by itself
pub quiet_statement : (x : Member) (y : _) → x ≡ Plain y → WritesNothing (member_before x none) → IsTrue (not (is_writing (shape_tree y.form.shape.value)))
quiet_statement x y is h =
    both-left _ true (subst (λ z. IsTrue (is_quiet (member_before z none))) is h.is)

pub quiet_range : (x : Member) (l : LoopOf) → x ≡ Loop l → WritesNothing (member_before x none) → WritesNothing (members_tree (out-Loop l).range.items)
quiet_range x l is h =
    record { is = subst (λ ms. IsTrue (is_quiet ms)) (range_is l) (both-left _ true (subst (λ z. IsTrue (is_quiet (member_before z none))) is h.is)) }

pub quiet_arms : (x : Member) (b : _) → x ≡ Block b → WritesNothing (member_before x none) → ArmsWriteNothing (arms_tree (out-Block b).arms.items)
quiet_arms x b is h =
    record { is = both-left (are_quiet (arms_tree (out-Block b).arms.items)) true (subst (λ ms. IsTrue (is_quiet ms)) (ap (λ y. member_before y none) is ∙ member_before-block b none) h.is) }

body_at : (arms : List Arm) (i : ℕ) (a : Arm) → i < length arms → a ≡ get_or arms i a → IsTrue (are_quiet (arms_tree arms)) → IsTrue (is_quiet (members_tree a.body.items))
body_at [] i a lt is h = absurd (omega arith)
body_at (b ∷ bs) zero a lt is h =
    subst (λ z. IsTrue (is_quiet (members_tree z.body.items))) (sym is) (both-left (is_quiet (members_tree b.body.items)) (are_quiet (arms_tree bs)) h)
body_at (b ∷ bs) (suc i) a lt is h = body_at bs i a (omega arith) is (both-right (is_quiet (members_tree b.body.items)) (are_quiet (arms_tree bs)) h)

pub quiet_body : (arms : List Arm) (i : ℕ) (a : Arm) → i < length arms → a ≡ get_or arms i a → ArmsWriteNothing (arms_tree arms) → WritesNothing (members_tree a.body.items)
quiet_body arms i a lt is h = record { is = body_at arms i a lt is h.is }

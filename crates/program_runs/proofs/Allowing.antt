-- What a list of a program is allowed to be, its members, their ranges and their arms are.
use Rattle.std.proofs.Common.{◌≡◌, ℕ, zero, suc, ◌<◌, List, [], ◌∷◌, length, get_or, sym, arith, subst}
use Rattle.meaning.specs.declared.syntax.Arm.{Arm}
use Rattle.meaning.specs.declared.syntax.Block.{Block', out-Block}
use Rattle.meaning.specs.declared.syntax.Loop.{Loop as LoopOf, out-Loop}
use Rattle.meaning.specs.declared.syntax.Member.{Member, Plain, Loop, Loop', Block}
use Rattle.meaning.specs.declared.syntax.Tree.{Tree}
use Rattle.meaning.specs.LoopLaws.{LeaveVariables, ArmsLeaveVariables}
use Rattle.meaning.specs.Trees.{Members, none, member_before, members_tree, arms_tree}
use Rattle.meaning.proofs.Ranges.{member_before-loop, member_before-block}
use Rattle.label_targets.proofs.Keeping.{kept_at, kept_range, kept_quiet, kept_arms, kept_body}
use Rattle.evaluator.specs.Unset.{LeavesItsVariable}
use Rattle.program_runs.specs.Allowed.{AreArmsAllowed, IsAllowed, IsPartAllowed}
use Rattle.program_runs.specs.Quiet.{IsQuietUnlessLoud}

split : (x : Member) (ms : Members) → LeaveVariables (member_before x ms) → LeaveVariables (member_before x none) × LeaveVariables ms
split (Plain x) ms h = (tt, h)
split (Loop' head shape range) ms h = ((h.0, h.1, tt), h.2)
split (Block (Block' shape arms end)) ms h = ((h.0, tt), h.1)

leaves_at : (ms : List Member) (i : ℕ) (x : Member) → i < length ms → x ≡ get_or ms i x → LeaveVariables (members_tree ms) → LeaveVariables (member_before x none)
leaves_at [] i x lt is h = absurd (omega arith)
leaves_at (y ∷ ys) zero x lt is h =
    subst (λ z. LeaveVariables (member_before z none)) (sym is) (split y (members_tree ys) h).0
leaves_at (y ∷ ys) (suc i) x lt is h = leaves_at ys i x (omega arith) is (split y (members_tree ys) h).1

body_leaves : (arms : List Arm) (i : ℕ) (a : Arm) → i < length arms → a ≡ get_or arms i a → ArmsLeaveVariables (arms_tree arms) → LeaveVariables (members_tree a.body.items)
body_leaves [] i a lt is h = absurd (omega arith)
body_leaves (b ∷ bs) zero a lt is h = subst (λ z. LeaveVariables (members_tree z.body.items)) (sym is) h.0
body_leaves (b ∷ bs) (suc i) a lt is h = body_leaves bs i a (omega arith) is h.1

-- a member of a list
pub allowed_at : (t : Tree) (ms : List Member) (i : ℕ) (x : Member) → i < length ms → x ≡ get_or ms i x → IsAllowed t (members_tree ms) → IsPartAllowed t (member_before x none)
allowed_at t ms i x lt is h = record { kept = kept_at t ms i x lt is h.kept; leaves = leaves_at ms i x lt is h.leaves }

module _ (t : Tree) (x : Member) (l : LoopOf) (is : x ≡ Loop l) (h : IsPartAllowed t (member_before x none)) where
  abbrev range : Members
  range = members_tree (out-Loop l).range.items

  loop_leaves : LeavesItsVariable l × LeaveVariables range × LeaveVariables none
  loop_leaves = subst LeaveVariables (member_before-loop l none) (subst (λ y. LeaveVariables (member_before y none)) is h.leaves)

  -- the range of a DO statement, which leaves its variable, and writes nothing where it isn't loud
  pub allowed_range : IsAllowed t range
  allowed_range = record { kept = kept_range t x l is h.kept; leaves = loop_leaves.1 }

  pub leaves_its_variable : LeavesItsVariable l
  leaves_its_variable = loop_leaves.0

  pub quiet_unless_loud : IsQuietUnlessLoud t l
  quiet_unless_loud = kept_quiet t x l is h.kept

-- the arms of a block IF, and the body of one
pub allowed_arms : (t : Tree) (x : Member) (b : _) → x ≡ Block b → IsPartAllowed t (member_before x none) → AreArmsAllowed t (arms_tree (out-Block b).arms.items)
allowed_arms t x b is h =
    let k = subst LeaveVariables (member_before-block b none) (subst (λ y. LeaveVariables (member_before y none)) is h.leaves) in
    record { kept = kept_arms t x b is h.kept; leaves = k.0 }

pub allowed_body : (t : Tree) (arms : List Arm) (i : ℕ) (a : Arm) → i < length arms → a ≡ get_or arms i a → AreArmsAllowed t (arms_tree arms) → IsAllowed t (members_tree a.body.items)
allowed_body t arms i a lt is h =
    record { kept = kept_body t arms i a lt is h.kept; leaves = body_leaves arms i a lt is h.leaves }

-- What is kept of a list is kept of its members, of their ranges and of their arms.
use Rattle.std.proofs.Common.{◌≡◌, ℕ, zero, suc, ◌<◌, Bool, false, List, [], ◌∷◌, length, get_or, Option, sym, arith, subst}
use Rattle.meaning.specs.declared.syntax.Arm.{Arm}
use Rattle.meaning.specs.declared.syntax.Block.{Block', out-Block}
use Rattle.meaning.specs.declared.syntax.Loop.{Loop as LoopOf, out-Loop}
use Rattle.meaning.specs.declared.syntax.Member.{Member, Plain, Loop, Loop', Block}
use Rattle.meaning.specs.declared.syntax.Tree.{Tree}
use Rattle.meaning.specs.Trees.{Members, none, member_before, members_tree, arms_tree}
use Rattle.meaning.proofs.Ranges.{member_before-loop, member_before-block}
use Rattle.label_targets.specs.Quiet.{WritesNothing}
use Rattle.label_targets.specs.Lists.{IsListIn}
use Rattle.label_targets.specs.Output.{has_output_in}
use Rattle.label_targets.specs.Places.{place_in}
use Rattle.label_targets.specs.Kept.{AreKept, AreKeptInArms, AreArmsKept, HasPlaces, IsKept, IsPartKept}

module _ (places : ℕ → Option ℕ) (output : ℕ → Bool) (listed : Members → Type 0) where
  split : (x : Member) (ms : Members) → AreKept places output listed (member_before x ms) → AreKept places output listed (member_before x none) × AreKept places output listed ms
  split (Plain x) ms h = (tt, h)
  split (Loop' head shape range) ms h = ((h.0, (h.1.0, tt)), h.1.1)
  split (Block (Block' shape arms end)) ms h = ((h.0, tt), h.1)

  inner_at : (ms : List Member) (i : ℕ) (x : Member) → i < length ms → x ≡ get_or ms i x → AreKept places output listed (members_tree ms) → AreKept places output listed (member_before x none)
  inner_at [] i x lt is h = absurd (omega arith)
  inner_at (y ∷ ys) zero x lt is h =
      subst (λ z. AreKept places output listed (member_before z none)) (sym is) (split y (members_tree ys) h).0
  inner_at (y ∷ ys) (suc i) x lt is h = inner_at ys i x (omega arith) is (split y (members_tree ys) h).1

  body_at : (arms : List Arm) (i : ℕ) (a : Arm) → i < length arms → a ≡ get_or arms i a → AreKeptInArms places output listed (arms_tree arms) → HasPlaces places (members_tree a.body.items) × listed (members_tree a.body.items) × AreKept places output listed (members_tree a.body.items)
  body_at [] i a lt is h = absurd (omega arith)
  body_at (b ∷ bs) zero a lt is h =
      subst (λ z. HasPlaces places (members_tree z.body.items) × listed (members_tree z.body.items) × AreKept places output listed (members_tree z.body.items)) (sym is) h.0
  body_at (b ∷ bs) (suc i) a lt is h = body_at bs i a (omega arith) is h.1

-- of a member of a list
pub kept_at : (t : Tree) (ms : List Member) (i : ℕ) (x : Member) → i < length ms → x ≡ get_or ms i x → IsKept t (members_tree ms) → IsPartKept t (member_before x none)
kept_at t ms i x lt is h = record { inner = inner_at (place_in t) (has_output_in t) (IsListIn t) ms i x lt is h.inner }

loop_kept : (t : Tree) (x : Member) (l : LoopOf) → x ≡ Loop l → IsPartKept t (member_before x none) → AreKept (place_in t) (has_output_in t) (IsListIn t) (member_before (Loop l) none)
loop_kept t x l is h = subst (λ y. AreKept (place_in t) (has_output_in t) (IsListIn t) (member_before y none)) is h.inner

-- of the range of a DO statement, and what is known where it isn't loud
pub kept_range : (t : Tree) (x : Member) (l : LoopOf) → x ≡ Loop l → IsPartKept t (member_before x none) → IsKept t (members_tree (out-Loop l).range.items)
kept_range t x l is h =
    let k = subst (AreKept (place_in t) (has_output_in t) (IsListIn t)) (member_before-loop l none) (loop_kept t x l is h) in
    record { list = k.1.0.1; own = k.1.0.0; inner = k.1.0.2 }

pub kept_quiet : (t : Tree) (x : Member) (l : LoopOf) → x ≡ Loop l → IsPartKept t (member_before x none) → has_output_in t (out-Loop l).head.line ≡ false → WritesNothing (members_tree (out-Loop l).range.items)
kept_quiet t x l is h quiet =
    let k = subst (AreKept (place_in t) (has_output_in t) (IsListIn t)) (member_before-loop l none) (loop_kept t x l is h) in
    record { is = k.0 quiet }

-- of the arms of a block IF, and of the body of one
pub kept_arms : (t : Tree) (x : Member) (b : _) → x ≡ Block b → IsPartKept t (member_before x none) → AreArmsKept t (arms_tree (out-Block b).arms.items)
kept_arms t x b is h =
    let k = subst (AreKept (place_in t) (has_output_in t) (IsListIn t)) (member_before-block b none) (subst (λ y. AreKept (place_in t) (has_output_in t) (IsListIn t) (member_before y none)) is h.inner) in
    record { inner = k.0 }

pub kept_body : (t : Tree) (arms : List Arm) (i : ℕ) (a : Arm) → i < length arms → a ≡ get_or arms i a → AreArmsKept t (arms_tree arms) → IsKept t (members_tree a.body.items)
kept_body t arms i a lt is h =
    let k = body_at (place_in t) (has_output_in t) (IsListIn t) arms i a lt is h.inner in
    record { list = k.1; own = k.0; inner = k.2 }

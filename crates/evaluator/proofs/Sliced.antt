-- Slices of lists: where they begin, by the labels that lead to their members, and what is kept of their members.
use Rattle.std.proofs.Common.{◌≡◌, ℕ, zero, suc, ◌+◌, ◌-◌, ◌<◌, ◌≤◌, true, false, List, [], ◌∷◌, length, get_or, drop, Option, Some, None, refl, sym, ap, subst, ◌∙◌, arith}
use Rattle.std.proofs.lemmas.Bool.{eq-eqb}
use Rattle.meaning.specs.declared.syntax.Arm.{Arm}
use Rattle.meaning.specs.declared.syntax.Block.{Block', out-Block}
use Rattle.meaning.specs.declared.syntax.Member.{Member, Plain, Loop', Block}
use Rattle.meaning.specs.declared.syntax.Tree.{Tree}
use Rattle.meaning.proofs.Ranges.{left_more}
use Rattle.meaning.specs.Execution.{heads}
use Rattle.meaning.specs.LabelRules.{is_label_at}
use Rattle.meaning.specs.Trees.{Members, none, arms_tree, member_before, members_tree}
use Rattle.label_targets.proofs.Labelled.{block_at, placed, placed-before}
use Rattle.label_targets.specs.Entries.{entry}
use Rattle.label_targets.specs.Kept.{AreKept, IsKept, IsPartKept}
use Rattle.label_targets.specs.Lists.{IsListIn}
use Rattle.label_targets.specs.Output.{has_output_in}
use Rattle.label_targets.specs.Places.{own_place, place_in}
use Rattle.evaluator.specs.Places.{IsLedTo}
use Rattle.evaluator.specs.Slices.{IsSlice, IsSliceFrom}

-- ---- whole lists, and members

pub whole_list : (t : Tree) (ms : Members) → IsKept t ms → IsSliceFrom t 0 ms
whole_list t ms kept = record { own = kept.own; inner = kept.inner }

module _ (t : Tree) where
  abbrev pub Inner : Members → Type 0
  Inner ms = AreKept (place_in t) (has_output_in t) (IsListIn t) ms

  pub split : (x : Member) (ms : Members) → Inner (member_before x ms) → Inner (member_before x none) × Inner ms
  split (Plain x) ms h = (tt, h)
  split (Loop' head shape range) ms h = ((h.0, (h.1.0, tt)), h.1.1)
  split (Block (Block' shape arms end)) ms h = ((h.0, tt), h.1)

  pub join : (x : Member) (ms : Members) → Inner (member_before x none) → Inner ms → Inner (member_before x ms)
  join (Plain x) ms h rest = rest
  join (Loop' head shape range) ms h rest = (h.0, (h.1.0, rest))
  join (Block (Block' shape arms end)) ms h rest = (h.0, rest)

  inner_at : (ms : List Member) (i : ℕ) (x : Member) → i < length ms → x ≡ get_or ms i x → Inner (members_tree ms) → Inner (member_before x none)
  inner_at [] i x lt is h = absurd (omega arith)
  inner_at (y ∷ ys) zero x lt is h = subst (λ z. Inner (member_before z none)) (sym is) (split y (members_tree ys) h).0
  inner_at (y ∷ ys) (suc i) x lt is h = inner_at ys i x (omega arith) is (split y (members_tree ys) h).1

  -- of a member of a slice
  pub part_at : (first : ℕ) (ms : List Member) (i : ℕ) (x : Member) → i < length ms → x ≡ get_or ms i x → IsSliceFrom t first (members_tree ms) → IsPartKept t (member_before x none)
  part_at first ms i x lt is h = record { inner = inner_at ms i x lt is h.inner }

-- ---- the label that leads to a block IF

module _ (x : Member) (b : _) (is : x ≡ Block b) (arms : List Arm) (same : arms ≡ (out-Block b).arms.items) where
  pub first_leads : (n : ℕ) → ((s : ℕ) → is_label_at (Some n) s ≡ heads s (arms_tree arms)) → IsLedTo x (Some (n, 0))
  first_leads n first = sym (block_at n x b is arms same true _ (sym (eq-eqb n n refl) ∙ first n) refl)

  pub last_leads : (n : ℕ) → ((s : ℕ) → is_label_at None s ≡ heads s (arms_tree arms)) → (out-Block b).end.label ≡ Some n → IsLedTo x (Some (n, 1))
  last_leads n first last =
      sym (block_at n x b is arms same false true (first n) (sym (ap (λ o. is_label_at o n) last ∙ eq-eqb n n refl)))

  pub none_leads : ((s : ℕ) → is_label_at None s ≡ heads s (arms_tree arms)) → (out-Block b).end.label ≡ None → IsLedTo x None
  none_leads first last = λ s. sym (block_at s x b is arms same false false (first s) (sym (ap (λ o. is_label_at o s) last)))

-- ---- the first member that a label leads to

-- no label leads to a member before this place
abbrev pub NoneBefore : List Member → ℕ → Type 0
NoneBefore ms i = (s k : ℕ) → own_place s k (members_tree ms) ≡ own_place s (k + i) (members_tree (drop i ms))

pub none_before_first : (ms : List Member) → NoneBefore ms 0
none_before_first ms = λ s k. ap (λ j. own_place s j (members_tree ms)) (and_none k)
  where
    and_none : (k : ℕ) → k ≡ k + 0
    and_none k = omega arith

nothing_left : (s k : ℕ) (ms : List Member) (i : ℕ) → length ms ≤ i → own_place s k (members_tree (drop i ms)) ≡ None
nothing_left s k [] zero le = refl
nothing_left s k [] (suc i) le = refl
nothing_left s k (x ∷ ms) zero le = absurd (omega arith)
nothing_left s k (x ∷ ms) (suc i) le = nothing_left s k ms i (omega arith)

placed_near : (i b : ℕ) (rest : Option ℕ) → b ≤ 1 → placed i rest (Some b) ≡ Some (i + b)
placed_near i zero rest le = ap (λ n. Some n) (and_none i)
  where
    and_none : (k : ℕ) → k ≡ k + 0
    and_none k = omega arith
placed_near i (suc zero) rest le = refl
placed_near i (suc (suc b)) rest le = absurd (omega arith)

module _ (ms : List Member) (i : ℕ) (x : Member) (lt : i < length ms) (is : x ≡ get_or ms i x) (before : NoneBefore ms i) where
  here : (s k : ℕ) → own_place s k (members_tree ms) ≡ placed (k + i) (own_place s (k + i + 1) (members_tree (drop (i + 1) ms))) (entry s x)
  here s k =
      before s k ∙ left_more (λ xs. own_place s (k + i) xs) ms i x lt is ∙ placed-before s (k + i) x (members_tree (drop (i + 1) ms))

  pub none_before_next : IsLedTo x None → NoneBefore ms (i + 1)
  none_before_next unled = λ s k. here s k ∙ ap (λ e. placed (k + i) (own_place s (k + i + 1) (members_tree (drop (i + 1) ms))) e) (unled s) ∙ ap (λ j. own_place s j (members_tree (drop (i + 1) ms))) (one_on k i)
    where
      one_on : (k i : ℕ) → k + i + 1 ≡ k + (i + 1)
      one_on k i = omega arith

  module _ (t : Tree) (slice : IsSlice t (members_tree ms)) (n b : ℕ) (led : IsLedTo x (Some (n, b))) (near : b ≤ 1) where
    leads : place_in t n ≡ Some (slice.first + i + b)
    leads =
        let rest = own_place n (slice.first + i + 1) (members_tree (drop (i + 1) ms)) in
        slice.is.own n (slice.first + i + b) (here n slice.first ∙ ap (λ e. placed (slice.first + i) rest e) led ∙ placed_near (slice.first + i) b rest near)

    -- so the place of that label tells where the slice begins
    pub begins_so : (p : ℕ) → Some p ≡ place_in t n → p ≡ slice.first + i + b
    begins_so p place = let e : Some p ≡ Some (slice.first + i + b) = place ∙ leads in cc

    pub slice_there : (p : ℕ) → Some p ≡ place_in t n → IsSliceFrom t (p - i - b) (members_tree ms)
    slice_there p place =
        subst (λ f. IsSliceFrom t f (members_tree ms)) (back slice.first i b p (begins_so p place)) slice.is
      where
        back : (f i b p : ℕ) → p ≡ f + i + b → f ≡ p - i - b
        back f i b p e = omega arith

    pub leads_somewhere : None ≡ place_in t n → ⊥
    leads_somewhere nowhere = let e : None ≡ Some (slice.first + i + b) = nowhere ∙ leads in cc

-- where no label leads to any of them, any place will do
pub slice_anywhere : (t : Tree) (ms : List Member) (i : ℕ) → length ms ≤ i → NoneBefore ms i → IsSlice t (members_tree ms) → IsSliceFrom t 0 (members_tree ms)
slice_anywhere t ms i le before slice =
    record { own = λ s n e. absurd (let none = sym e ∙ before s 0 ∙ nothing_left s (0 + i) ms i le in cc); inner = slice.is.inner }

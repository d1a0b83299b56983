-- Labels of a list of members.
use Rattle.std.proofs.Common.{◌≡◌, ℕ, zero, suc, ◌+◌, ◌-◌, ◌<◌, ◌≤◌, Bool, true, false, if◌then◌else◌, List, [], ◌∷◌, length, get_or, drop, Option, Some, None, option_map, refl, sym, ap, ◌∙◌, arith}
use Rattle.std.proofs.lemmas.Bool.{false≢true}
use Rattle.meaning.specs.declared.syntax.Arm.{Arm}
use Rattle.meaning.specs.declared.syntax.Member.{Member, Plain, Loop', Block}
use Rattle.meaning.specs.declared.syntax.Block.{Block', out-Block, items_shown-the_row-Arm-1}
use Rattle.meaning.proofs.Ranges.{row_arms-items}
use Rattle.meaning.specs.Trees.{Members, item_tree, member_before, members_tree, arms_tree, row_arms}
use Rattle.meaning.specs.LabelRules.{has_label}
use Rattle.meaning.specs.Execution.{heads, labelled}
use Rattle.label_targets.specs.Entries.{at_if, entry, is_number, is_entered_at}
use Rattle.label_targets.specs.Places.{own_place}

-- where a jump into a list goes on, by the entry of its first member: at it, behind it, or in the rest
abbrev entered : Members → Members → Option Members → Option ℕ → Option Members
entered here behind rest None = rest
entered here behind rest (Some zero) = Some here
entered here behind rest (Some (suc n)) = Some behind

entered-one : (b : Bool) (here behind : Members) (rest : Option Members) → (if b then Some here else rest) ≡ entered here behind rest (at_if b 0 None)
entered-one true here behind rest = refl
entered-one false here behind rest = refl

entered-two : (a b : Bool) (here behind : Members) (rest : Option Members) → (if a then Some here else (if b then Some behind else rest)) ≡ entered here behind rest (at_if a 0 (at_if b 1 None))
entered-two true b here behind rest = refl
entered-two false true here behind rest = refl
entered-two false false here behind rest = refl

labelled-before : (s : ℕ) (x : Member) (ms : Members) → labelled s (member_before x ms) ≡ entered (member_before x ms) ms (labelled s ms) (entry s x)
unfolding labelled
labelled-before s (Plain x) ms = entered-one (has_label s (item_tree x)) (member_before (Plain x) ms) ms (labelled s ms)
labelled-before s (Loop' head shape range) ms = entered-one (has_label s (item_tree head)) (member_before (Loop' head shape range) ms) ms (labelled s ms)
labelled-before s (Block (Block' shape arms end)) ms = entered-two (heads s (row_arms arms)) (has_label s (item_tree end)) (member_before (Block (Block' shape arms end)) ms) ms (labelled s ms)

-- the place of a label, by the entry of the first member
abbrev pub placed : ℕ → Option ℕ → Option ℕ → Option ℕ
placed i rest None = rest
placed i rest (Some zero) = Some i
placed i rest (Some (suc n)) = Some (i + 1)

placed-one : (b : Bool) (i : ℕ) (rest : Option ℕ) → (if b then Some i else rest) ≡ placed i rest (at_if b 0 None)
placed-one true i rest = refl
placed-one false i rest = refl

placed-two : (a b : Bool) (i : ℕ) (rest : Option ℕ) → (if a then Some i else (if b then Some (i + 1) else rest)) ≡ placed i rest (at_if a 0 (at_if b 1 None))
placed-two true b i rest = refl
placed-two false true i rest = refl
placed-two false false i rest = refl

pub placed-before : (s i : ℕ) (x : Member) (ms : Members) → own_place s i (member_before x ms) ≡ placed i (own_place s (i + 1) ms) (entry s x)
placed-before s i (Plain x) ms = placed-one (has_label s (item_tree x)) i (own_place s (i + 1) ms)
placed-before s i (Loop' head shape range) ms = placed-one (has_label s (item_tree head)) i (own_place s (i + 1) ms)
placed-before s i (Block (Block' shape arms end)) ms = placed-two (heads s (row_arms arms)) (has_label s (item_tree end)) i (own_place s (i + 1) ms)

-- ---- what a jump leads to is what is left at the place of the label

-- the members are what is left of a slice, whose first member has a place, from a place on
abbrev IsLeft : ℕ → List Member → ℕ → List Member → Type 0
IsLeft first whole i ms = (k : ℕ) → drop (i + k - first) whole ≡ drop k ms

left_on : (first : ℕ) (whole : List Member) (i : ℕ) (x : Member) (ms : List Member) → IsLeft first whole i (x ∷ ms) → IsLeft first whole (i + 1) ms
left_on first whole i x ms left k = ap (λ n. drop n whole) (one_on first i k) ∙ left (suc k)
  where
    one_on : (f i k : ℕ) → i + 1 + k - f ≡ i + suc k - f
    one_on f i k = omega arith

module _ (s first : ℕ) (whole : List Member) where
  abbrev left_at : Option ℕ → Option Members
  left_at o = option_map (λ i. members_tree (drop (i - first) whole)) o

  entered_left : (i : ℕ) (x : Member) (ms : List Member) (rest : Option Members) (o : Option ℕ) → IsLeft first whole i (x ∷ ms) → rest ≡ left_at o → (e : Option ℕ) → entered (members_tree (x ∷ ms)) (members_tree ms) rest e ≡ left_at (placed i o e)
  entered_left i x ms rest o left same None = same
  entered_left i x ms rest o left same (Some zero) =
      ap (λ xs. Some (members_tree xs)) (sym (ap (λ n. drop n whole) (at_it first i) ∙ left 0))
    where
      at_it : (f i : ℕ) → i - f ≡ i + 0 - f
      at_it f i = omega arith
  entered_left i x ms rest o left same (Some (suc n)) = ap (λ xs. Some (members_tree xs)) (sym (left 1))

  labelled_left : (ms : List Member) (i : ℕ) → IsLeft first whole i ms → labelled s (members_tree ms) ≡ left_at (own_place s i (members_tree ms))
  unfolding labelled
  labelled_left [] i left = refl
  labelled_left (x ∷ ms) i left =
      labelled-before s x (members_tree ms) ∙ entered_left i x ms (labelled s (members_tree ms)) (own_place s (i + 1) (members_tree ms)) left (labelled_left ms (i + 1) (left_on first whole i x ms left)) (entry s x) ∙ ap left_at (sym (placed-before s i x (members_tree ms)))

labelled_is : (s first : ℕ) (ms : List Member) → labelled s (members_tree ms) ≡ option_map (λ i. members_tree (drop (i - first) ms)) (own_place s first (members_tree ms))
labelled_is s first ms = labelled_left s first ms ms first (λ k. ap (λ n. drop n ms) (further first k))
  where
    further : (f k : ℕ) → f + k - f ≡ k
    further f k = omega arith

-- ---- a list has a label exactly if a member begins or ends with it

placed_one : (i n : ℕ) (rest : Option ℕ) (e : Option ℕ) → true ≡ is_number e n → placed i rest e ≡ None → ⊥
placed_one i n rest None is none = absurd cc
placed_one i n rest (Some zero) is none = absurd cc
placed_one i n rest (Some (suc k)) is none = absurd cc

placed_rest : (i : ℕ) (rest : Option ℕ) (e : Option ℕ) → placed i rest e ≡ None → rest ≡ None
placed_rest i rest None none = none
placed_rest i rest (Some zero) none = absurd cc
placed_rest i rest (Some (suc k)) none = absurd cc

entered_somewhere : (s : ℕ) (ms : List Member) (i k n : ℕ) → true ≡ is_entered_at s ms i n → own_place s k (members_tree ms) ≡ None → ⊥
entered_somewhere s [] i k n is none = absurd cc
entered_somewhere s (x ∷ ms) zero k n is none =
    placed_one k n (own_place s (k + 1) (members_tree ms)) (entry s x) is (sym (placed-before s k x (members_tree ms)) ∙ none)
entered_somewhere s (x ∷ ms) (suc i) k n is none =
    entered_somewhere s ms i (k + 1) n is (placed_rest k (own_place s (k + 1) (members_tree ms)) (entry s x) (sym (placed-before s k x (members_tree ms)) ∙ none))

-- a transfer goes on one behind a member at most
one-near : (b : Bool) (k : ℕ) → at_if b 0 None ≡ Some (suc k) → ⊥
one-near true k is = absurd cc
one-near false k is = absurd cc

two-near : (a b : Bool) (k : ℕ) → at_if a 0 (at_if b 1 None) ≡ Some (suc k) → is_number (at_if a 0 (at_if b 1 None)) 1 ≡ true
two-near true b k is = absurd cc
two-near false true k is = refl
two-near false false k is = absurd cc

entry-near : (s : ℕ) (x : Member) (k : ℕ) → entry s x ≡ Some (suc k) → is_number (entry s x) 1 ≡ true
entry-near s (Plain x) k is = absurd (one-near (has_label s (item_tree x)) k is)
entry-near s (Loop' head shape range) k is = absurd (one-near (has_label s (item_tree head)) k is)
entry-near s (Block (Block' shape arms end)) k is = two-near (heads s (row_arms arms)) (has_label s (item_tree end)) k is

-- a transfer goes on at the member at a place, or behind the one before it
data IsEntered (s : ℕ) (ms : List Member) (n : ℕ) : Type 0 where
  at_it : is_entered_at s ms n 0 ≡ true → IsEntered s ms n
  behind_it : (i : ℕ) → n ≡ i + 1 → is_entered_at s ms i 1 ≡ true → IsEntered s ms n

next_entered : (s : ℕ) (x : Member) (ms : List Member) (n : ℕ) → IsEntered s ms n → IsEntered s (x ∷ ms) (suc n)
next_entered s x ms n (at_it is) = at_it is
next_entered s x ms n (behind_it i same is) = behind_it (suc i) (omega arith) is

-- the same for what is left of a list from a place on
record IsEnteredFrom (s : ℕ) (ms : List Member) (i n : ℕ) : Type 0 where
  further : ℕ
  is : n ≡ i + further
  there : IsEntered s ms further

where_entered : (s : ℕ) (ms : List Member) (i n : ℕ) → own_place s i (members_tree ms) ≡ Some n → IsEnteredFrom s ms i n
where_entered s [] i n is = absurd cc
where_entered s (x ∷ ms) i n is =
    by (λ h. where_entered s ms (i + 1) n h) (entry s x) refl (sym (placed-before s i x (members_tree ms)) ∙ is)
  where
    later : IsEnteredFrom s ms (i + 1) n → IsEnteredFrom s (x ∷ ms) i n
    later h =
        let e = h.is in
        record { further = suc h.further; is = omega arith; there = next_entered s x ms h.further h.there }

    by : (own_place s (i + 1) (members_tree ms) ≡ Some n → IsEnteredFrom s ms (i + 1) n) → (e : Option ℕ) → entry s x ≡ e → placed i (own_place s (i + 1) (members_tree ms)) e ≡ Some n → IsEnteredFrom s (x ∷ ms) i n
    by rest None at h = later (rest h)
    by rest (Some zero) at h =
        let e : i ≡ n = cc in
        record { further = 0; is = omega arith; there = at_it (ap (λ o. is_number o 0) at) }
    by rest (Some (suc k)) at h =
        let e : i + 1 ≡ n = cc in
        record { further = 1; is = omega arith; there = behind_it 0 refl (entry-near s x k at) }

-- ---- in a slice of a list, whose label leads to its place in the list

module _ (place : Option ℕ) (s first : ℕ) (ms : List Member) (own : (n : ℕ) → own_place s first (members_tree ms) ≡ Some n → place ≡ Some n) where
  pub found_at : (p i n : ℕ) → place ≡ Some p → true ≡ is_entered_at s ms i n → Some (members_tree (drop (p - first) ms)) ≡ labelled s (members_tree ms)
  found_at p i n led is = by (own_place s first (members_tree ms)) refl
    where
      by : (o : Option ℕ) → own_place s first (members_tree ms) ≡ o → Some (members_tree (drop (p - first) ms)) ≡ labelled s (members_tree ms)
      by None at = absurd (entered_somewhere s ms i first n is at)
      by (Some q) at =
          let same : Some p ≡ Some q = sym led ∙ own q at in
          ap (λ o. option_map (λ k. members_tree (drop (k - first) ms)) o) (same ∙ sym at) ∙ sym (labelled_is s first ms)

  nowhere : ((p further : ℕ) → place ≡ Some p → p ≡ first + further → IsEntered s ms further → ⊥) → None ≡ labelled s (members_tree ms)
  nowhere never = by (own_place s first (members_tree ms)) refl
    where
      by : (o : Option ℕ) → own_place s first (members_tree ms) ≡ o → None ≡ labelled s (members_tree ms)
      by None at = ap (λ o. option_map (λ k. members_tree (drop (k - first) ms)) o) (sym at) ∙ sym (labelled_is s first ms)
      by (Some q) at =
          let h = where_entered s ms first q at in
          absurd (never q h.further (own q at) h.is h.there)

  -- a label that leads nowhere, or before the slice, or to a place where no member of it has the label
  pub found_nowhere : place ≡ None → None ≡ labelled s (members_tree ms)
  found_nowhere none = nowhere (λ p k is further there. absurd cc)

  pub found_before : (p : ℕ) → place ≡ Some p → p < first → None ≡ labelled s (members_tree ms)
  found_before p led lt =
      nowhere (λ q k is further there. let e : Some p ≡ Some q = sym led ∙ is in let same : p ≡ q = cc in absurd (omega arith))

  pub not_found : (p : ℕ) → place ≡ Some p → false ≡ is_entered_at s ms (p - first) 0 → ((i : ℕ) → p - first ≡ i + 1 → false ≡ is_entered_at s ms i 1) → None ≡ labelled s (members_tree ms)
  not_found p led not_at not_behind =
      nowhere (λ q k is further there. let e : Some p ≡ Some q = sym led ∙ is in let same : p ≡ q = cc in by k (omega arith) there)
    where
      by : (k : ℕ) → p - first ≡ k → IsEntered s ms k → ⊥
      by k same (at_it is) = absurd (false≢true (not_at ∙ ap (λ j. is_entered_at s ms j 0) same ∙ is))
      by k same (behind_it i next is) = absurd (false≢true (not_behind i (same ∙ next) ∙ is))

pub entered_within : (s : ℕ) (ms : List Member) (i n : ℕ) → true ≡ is_entered_at s ms i n → i < length ms
entered_within s [] i n is = absurd cc
entered_within s (x ∷ ms) zero n is = omega arith
entered_within s (x ∷ ms) (suc i) n is = let lt = entered_within s ms i n is in omega arith

-- ---- a member at a place

pub entered_is : (s : ℕ) (ms : List Member) (i : ℕ) (x : Member) (n : ℕ) → i < length ms → x ≡ get_or ms i x → is_number (entry s x) n ≡ is_entered_at s ms i n
entered_is s [] i x n lt is = absurd (omega arith)
entered_is s (y ∷ ms) zero x n lt is = ap (λ z. is_number (entry s z) n) is
entered_is s (y ∷ ms) (suc i) x n lt is = entered_is s ms i x n (omega arith) is

pub none_entered : (s : ℕ) (ms : List Member) (i n : ℕ) → length ms ≤ i → false ≡ is_entered_at s ms i n
none_entered s [] i n le = refl
none_entered s (y ∷ ms) zero n le = absurd (omega arith)
none_entered s (y ∷ ms) (suc i) n le = none_entered s ms i n (omega arith)

-- ---- a block IF

pub entry-block : (s : ℕ) (b : _) → entry s (Block b) ≡ at_if (heads s (arms_tree (out-Block b).arms.items)) 0 (at_if (has_label s (item_tree (out-Block b).end)) 1 None)
unfolding out-Block Rattle.meaning.specs.declared.syntax.Member.TheBlock.shown-the_row-Arm-1 denote.Hole.Carrier.out denote.Hole.Carrier.shown
entry-block s (Block' shape arms end) =
    ap (λ xs. at_if (heads s xs) 0 (at_if (has_label s (item_tree end)) 1 None)) (row_arms-items _ arms ∙ ap arms_tree (sym (items_shown-the_row-Arm-1 shape arms)))

pub block_at : (s : ℕ) (x : Member) (b : _) → x ≡ Block b → (arms : List Arm) → arms ≡ (out-Block b).arms.items → (h e : Bool) → h ≡ heads s (arms_tree arms) → e ≡ has_label s (item_tree (out-Block b).end) → at_if h 0 (at_if e 1 None) ≡ entry s x
block_at s x b is arms same h e first last =
    ap (λ z. at_if z 0 (at_if e 1 None)) (first ∙ ap (λ xs. heads s (arms_tree xs)) same) ∙ ap (λ z. at_if (heads s (arms_tree (out-Block b).arms.items)) 0 (at_if z 1 None)) last ∙ sym (entry-block s b) ∙ ap (entry s) (sym is)

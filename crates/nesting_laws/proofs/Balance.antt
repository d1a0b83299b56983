-- Well nested members end the ranges and block IFs that they begin.
use Rattle.std.proofs.Common.{◌≡◌, Option, Some, None, ℕ, suc, ◌+◌, ◌<◌, ◌≤◌, Bool, true, false, cond, List, [], ◌∷◌, ◌++◌, refl, sym, ap, subst, ◌∙◌, arith, inl, inr, append_assoc}
use Rattle.std.specs.Prelude.{◌⊎◌, IsTrue, count_by}
use Rattle.std.proofs.lemmas.List.Sums.{sum_by-cons, sum_by-append}
use Rattle.meaning.specs.Syntax.{ItemTree}
use Rattle.meaning.specs.Trees.{Members, none, plain, loop, block, Arms, no_arms, arm, flat, flat_arms}
use Rattle.meaning.specs.Nesting.{Effect, opens_range, closes_range, opens_block, opens_arm, closes_block, stands, effect_of, is_else, IsRange, IsEnded, IsPlain, IsEndDo, IsWell, AreFurther}
use Rattle.meaning.specs.RuleTold.{LackLabel}
use Rattle.nesting_laws.proofs.Names.{all_left, all_right}

-- ---- where a statement of two lists stands

pub record InFirst (xs ys g : List ItemTree) (h : ItemTree) (q : List ItemTree) : Type 0 where
  pub more : List ItemTree
  pub first : xs ≡ g ++ (h ∷ more)
  pub last : q ≡ more ++ ys

pub record InSecond (xs ys g : List ItemTree) (h : ItemTree) (q : List ItemTree) : Type 0 where
  pub more : List ItemTree
  pub first : g ≡ xs ++ more
  pub last : ys ≡ more ++ (h ∷ q)

same_head : (x y : ItemTree) (xs ys : List ItemTree) → x ∷ xs ≡ y ∷ ys → x ≡ y
same_head x y xs ys e = cc

same_tail : (x y : ItemTree) (xs ys : List ItemTree) → x ∷ xs ≡ y ∷ ys → xs ≡ ys
same_tail x y xs ys e = cc

pub both_cons : (x y : ItemTree) (xs ys : List ItemTree) → x ∷ xs ≡ y ∷ ys → (x ≡ y) × (xs ≡ ys)
both_cons x y xs ys e = (same_head x y xs ys e, same_tail x y xs ys e)

cons_is : (x y : ItemTree) (xs ys : List ItemTree) → x ≡ y → xs ≡ ys → x ∷ xs ≡ y ∷ ys
cons_is x y xs ys e f = cc

pub place : (xs ys g : List ItemTree) (h : ItemTree) (q : List ItemTree) → xs ++ ys ≡ g ++ (h ∷ q) → InFirst xs ys g h q ⊎ InSecond xs ys g h q
place [] ys g h q e = inr (record { more = g; first = refl; last = e })
place (x ∷ xs) ys [] h q e = let p = both_cons x h (xs ++ ys) q e in inl (record { more = xs; first = cons_is x h xs xs p.0 refl; last = sym p.1 })
place (x ∷ xs) ys (y ∷ g) h q e = let p = both_cons x y (xs ++ ys) (g ++ (h ∷ q)) e in by_rest p.0 (place xs ys g h q p.1)
  where
    by_rest : x ≡ y → InFirst xs ys g h q ⊎ InSecond xs ys g h q → InFirst (x ∷ xs) ys (y ∷ g) h q ⊎ InSecond (x ∷ xs) ys (y ∷ g) h q
    by_rest f (inl p) = inl (record { more = p.more; first = cons_is x y xs (g ++ (h ∷ p.more)) f p.first; last = p.last })
    by_rest f (inr p) = inr (record { more = p.more; first = cons_is y x g (xs ++ p.more) (sym f) p.first; last = p.last })

-- ---- numbers of block IFs

-- IF THEN and END IF statements among them
abbrev pub begins_block : Effect → Bool
begins_block opens_block = true
begins_block e = false

abbrev pub ends_block : Effect → Bool
ends_block closes_block = true
ends_block e = false

unfoldable pub blocks_begun : List ItemTree → ℕ
blocks_begun items = count_by (λ (x : ItemTree). begins_block (effect_of x.shape)) items

unfoldable pub blocks_ended : List ItemTree → ℕ
blocks_ended items = count_by (λ (x : ItemTree). ends_block (effect_of x.shape)) items

pub begun_cons : (x : ItemTree) (xs : List ItemTree) → blocks_begun (x ∷ xs) ≡ cond (begins_block (effect_of x.shape)) 1 0 + blocks_begun xs
unfolding blocks_begun
begun_cons x xs = sum_by-cons (λ (y : ItemTree). cond (begins_block (effect_of y.shape)) 1 0) x xs

pub ended_cons : (x : ItemTree) (xs : List ItemTree) → blocks_ended (x ∷ xs) ≡ cond (ends_block (effect_of x.shape)) 1 0 + blocks_ended xs
unfolding blocks_ended
ended_cons x xs = sum_by-cons (λ (y : ItemTree). cond (ends_block (effect_of y.shape)) 1 0) x xs

pub begun_append : (xs ys : List ItemTree) → blocks_begun (xs ++ ys) ≡ blocks_begun xs + blocks_begun ys
unfolding blocks_begun
begun_append xs ys = sum_by-append (λ (y : ItemTree). cond (begins_block (effect_of y.shape)) 1 0) xs ys

pub ended_append : (xs ys : List ItemTree) → blocks_ended (xs ++ ys) ≡ blocks_ended xs + blocks_ended ys
unfolding blocks_ended
ended_append xs ys = sum_by-append (λ (y : ItemTree). cond (ends_block (effect_of y.shape)) 1 0) xs ys

pub begun_none : blocks_begun [] ≡ 0
unfolding blocks_begun
begun_none = refl

pub ended_none : blocks_ended [] ≡ 0
unfolding blocks_ended
ended_none = refl

pub begun_as : (x : ItemTree) (xs : List ItemTree) (e : Effect) → effect_of x.shape ≡ e → blocks_begun (x ∷ xs) ≡ cond (begins_block e) 1 0 + blocks_begun xs
begun_as x xs e f = begun_cons x xs ∙ ap (λ (d : Effect). cond (begins_block d) 1 0 + blocks_begun xs) f

pub ended_as : (x : ItemTree) (xs : List ItemTree) (e : Effect) → effect_of x.shape ≡ e → blocks_ended (x ∷ xs) ≡ cond (ends_block e) 1 0 + blocks_ended xs
ended_as x xs e f = ended_cons x xs ∙ ap (λ (d : Effect). cond (ends_block d) 1 0 + blocks_ended xs) f

-- ---- each statement of well nested ones that stand in so many block IFs

-- ELSE IF, ELSE and END IF need a block IF
abbrev pub needs_block : Effect → Bool
needs_block opens_arm = true
needs_block closes_block = true
needs_block e = false

pub record IsWithin (around : ℕ) (g : List ItemTree) (h : ItemTree) (q : List ItemTree) : Type 0 where
  pub low : blocks_ended g ≤ around + blocks_begun g
  pub needed : IsTrue (needs_block (effect_of h.shape)) → blocks_ended g < around + blocks_begun g
  pub ends : (label : ℕ) → effect_of h.shape ≡ opens_range (Some label) → LackLabel label q → ⊥

pub record IsBalanced (around : ℕ) (xs : List ItemTree) : Type 0 where
  pub even : blocks_begun xs ≡ blocks_ended xs
  pub each : (g : List ItemTree) (h : ItemTree) (q : List ItemTree) → xs ≡ g ++ (h ∷ q) → IsWithin around g h q

pub never_cons : (g : List ItemTree) (h : ItemTree) (q : List ItemTree) → [] ≡ g ++ (h ∷ q) → ⊥
never_cons [] h q e = cc
never_cons (y ∷ g) h q e = cc

balanced_none : (k : ℕ) → IsBalanced k []
balanced_none k = record { even = begun_none ∙ sym ended_none; each = λ g h q e. absurd (never_cons g h q e) }

pub balanced_append : (k : ℕ) (xs ys : List ItemTree) → IsBalanced k xs → IsBalanced k ys → IsBalanced k (xs ++ ys)
balanced_append k xs ys a b = record {
  even = begun_append xs ys ∙ ap (λ (n : ℕ). n + blocks_begun ys) a.even ∙ ap (λ (n : ℕ). blocks_ended xs + n) b.even ∙ sym (ended_append xs ys);
  each = λ g h q e. by_place g h q (place xs ys g h q e);
}
  where
    by_place : (g : List ItemTree) (h : ItemTree) (q : List ItemTree) → InFirst xs ys g h q ⊎ InSecond xs ys g h q → IsWithin k g h q
    by_place g h q (inl p) =
        let w = a.each g h p.more p.first in
        record { low = w.low; needed = w.needed; ends = λ l f lack. w.ends l f (all_left _ p.more ys (subst (LackLabel l) p.last lack)) }
    by_place g h q (inr p) =
        let w = b.each p.more h q p.last in
        let c = ap blocks_begun p.first ∙ begun_append xs p.more in
        let d = ap blocks_ended p.first ∙ ended_append xs p.more in
        let even = a.even in
        let low = w.low in
        record { low = omega arith; needed = λ t. let n = w.needed t in omega arith; ends = w.ends }

-- a statement that begins or ends no block IF and no range, or a DO statement before its range
pub neutral_cons : (k : ℕ) (x : ItemTree) (xs : List ItemTree) (e : Effect) → effect_of x.shape ≡ e → begins_block e ≡ false → needs_block e ≡ false → ends_block e ≡ false
    → ((label : ℕ) → e ≡ opens_range (Some label) → LackLabel label xs → ⊥) → IsBalanced k xs → IsBalanced k (x ∷ xs)
neutral_cons k x xs e f no_begin no_need no_end ends b = record {
  even = c xs ∙ b.even ∙ sym (d xs);
  each = within;
}
  where
    c : (ys : List ItemTree) → blocks_begun (x ∷ ys) ≡ blocks_begun ys
    c ys = begun_as x ys e f ∙ ap (λ (t : Bool). cond t 1 0 + blocks_begun ys) no_begin ∙ omega arith

    d : (ys : List ItemTree) → blocks_ended (x ∷ ys) ≡ blocks_ended ys
    d ys = ended_as x ys e f ∙ ap (λ (t : Bool). cond t 1 0 + blocks_ended ys) no_end ∙ omega arith

    clash : (t : Bool) → t ≡ false → IsTrue t → ⊥
    clash t p q = cc

    within : (g : List ItemTree) (h : ItemTree) (q : List ItemTree) → x ∷ xs ≡ g ++ (h ∷ q) → IsWithin k g h q
    within [] h q same =
        let p = both_cons x h xs q same in
        let is : effect_of h.shape ≡ e = ap (λ (y : ItemTree). effect_of y.shape) (sym p.0) ∙ f in
        let b0 = begun_none in
        let e0 = ended_none in
        record {
          low = omega arith;
          needed = λ t. absurd (clash (needs_block (effect_of h.shape)) (ap needs_block is ∙ no_need) t);
          ends = λ l n lack. ends l (sym is ∙ n) (subst (LackLabel l) (sym p.1) lack);
        }
    within (y ∷ g) h q same =
        let p = both_cons x y xs (g ++ (h ∷ q)) same in
        let w = b.each g h q p.1 in
        let low = w.low in
        let c1 : blocks_begun (y ∷ g) ≡ blocks_begun g = ap (λ (z : ItemTree). blocks_begun (z ∷ g)) (sym p.0) ∙ c g in
        let d1 : blocks_ended (y ∷ g) ≡ blocks_ended g = ap (λ (z : ItemTree). blocks_ended (z ∷ g)) (sym p.0) ∙ d g in
        record { low = omega arith; needed = λ t. let n = w.needed t in omega arith; ends = w.ends }

-- ---- members and arms

plain_ends : (may : Bool) (label : ℕ) → stands may ≡ opens_range (Some label) → ⊥
plain_ends may label e = cc

do_ends : (label : ℕ) → closes_range ≡ opens_range (Some label) → ⊥
do_ends label e = cc

range_label : (s : Option ℕ) (label : ℕ) → opens_range s ≡ opens_range (Some label) → s ≡ Some label
range_label s label e = cc

-- the terminal statement has the label
range_ends : (s : ℕ) (range : List ItemTree) → IsRange s range → LackLabel s range → ⊥
range_ends s range r lack = let at = all_right _ r.front (r.last ∷ []) (subst (LackLabel s) r.parts lack) in clash _ r.labelled at.0
  where
    clash : (t : Bool) → IsTrue t → t ≡ false → ⊥
    clash t p q = cc

-- IF THEN, what stands in a block IF, and END IF
within_block : (k : ℕ) (g : List ItemTree) (h : ItemTree) (q : List ItemTree) → IsWithin (suc k) g h q → (x : ItemTree) → effect_of x.shape ≡ opens_block → IsWithin k (x ∷ g) h q
within_block k g h q w x e =
    let b = begun_as x g opens_block e in
    let d = ended_as x g opens_block e in
    let low = w.low in
    record { low = omega arith; needed = λ t. let n = w.needed t in omega arith; ends = w.ends }

pub block_parts : (k : ℕ) (x : ItemTree) (xs : List ItemTree) (y : ItemTree) → effect_of x.shape ≡ opens_block → effect_of y.shape ≡ closes_block → IsBalanced (suc k) xs → IsBalanced k (x ∷ (xs ++ y ∷ []))
block_parts k x xs y e f b = record { even = even; each = within }
  where
    even : blocks_begun (x ∷ (xs ++ y ∷ [])) ≡ blocks_ended (x ∷ (xs ++ y ∷ []))
    even =
        let b1 = begun_as x (xs ++ y ∷ []) opens_block e in
        let d1 = ended_as x (xs ++ y ∷ []) opens_block e in
        let b2 = begun_append xs (y ∷ []) in
        let d2 = ended_append xs (y ∷ []) in
        let b3 = begun_as y [] closes_block f in
        let d3 = ended_as y [] closes_block f in
        let b4 = begun_none in
        let d4 = ended_none in
        let same = b.even in
        omega arith

    no_range : (label : ℕ) → opens_block ≡ opens_range (Some label) → ⊥
    no_range label h = cc

    no_end_range : (label : ℕ) → closes_block ≡ opens_range (Some label) → ⊥
    no_end_range label h = cc

    not_needed : (d : Effect) → d ≡ opens_block → IsTrue (needs_block d) → ⊥
    not_needed d h t = let u : needs_block d ≡ false = ap needs_block h in cc

    by_place : (g : List ItemTree) (h : ItemTree) (q : List ItemTree) → InFirst xs (y ∷ []) g h q ⊎ InSecond xs (y ∷ []) g h q → IsWithin k (x ∷ g) h q
    by_place g h q (inl p) =
        let w = b.each g h p.more p.first in
        within_block k g h q (record { low = w.low; needed = w.needed; ends = λ l n lack. w.ends l n (all_left _ p.more (y ∷ []) (subst (LackLabel l) p.last lack)) }) x e
    by_place g h q (inr p) = at_end p.more p.first p.last
      where
        at_end : (more : List ItemTree) → g ≡ xs ++ more → y ∷ [] ≡ more ++ (h ∷ q) → IsWithin k (x ∷ g) h q
        at_end [] m l =
            let same = both_cons y h [] q l in
            let b1 = begun_as x g opens_block e in
            let d1 = ended_as x g opens_block e in
            let b2 = ap blocks_begun m ∙ begun_append xs [] in
            let d2 = ap blocks_ended m ∙ ended_append xs [] in
            let b3 = begun_none in
            let d3 = ended_none in
            let even = b.even in
            record {
              low = omega arith;
              needed = λ t. omega arith;
              ends = λ label n lack. no_end_range label (sym f ∙ ap (λ (z : ItemTree). effect_of z.shape) same.0 ∙ n);
            }
        at_end (z ∷ more) m l = absurd (never_cons more h q (both_cons y z [] (more ++ (h ∷ q)) l).1)

    within : (g : List ItemTree) (h : ItemTree) (q : List ItemTree) → x ∷ (xs ++ y ∷ []) ≡ g ++ (h ∷ q) → IsWithin k g h q
    within [] h q same =
        let p = both_cons x h (xs ++ y ∷ []) q same in
        let is : effect_of h.shape ≡ opens_block = ap (λ (z : ItemTree). effect_of z.shape) (sym p.0) ∙ e in
        let b0 = begun_none in
        let d0 = ended_none in
        record {
          low = omega arith;
          needed = λ t. absurd (not_needed (effect_of h.shape) is t);
          ends = λ label n lack. no_range label (sym is ∙ n);
        }
    within (z ∷ g) h q same =
        let p = both_cons x z (xs ++ y ∷ []) (g ++ (h ∷ q)) same in
        subst (λ (w : ItemTree). IsWithin k (w ∷ g) h q) p.0 (by_place g h q (place xs (y ∷ []) g h q p.1))

-- a further arm's statement, in a block IF
arm_cons : (k : ℕ) (x : ItemTree) (xs : List ItemTree) → effect_of x.shape ≡ opens_arm → IsBalanced (suc k) xs → IsBalanced (suc k) (x ∷ xs)
arm_cons k x xs f b = record { even = c xs ∙ b.even ∙ sym (d xs); each = within }
  where
    c : (ys : List ItemTree) → blocks_begun (x ∷ ys) ≡ blocks_begun ys
    c ys = begun_as x ys opens_arm f ∙ omega arith

    d : (ys : List ItemTree) → blocks_ended (x ∷ ys) ≡ blocks_ended ys
    d ys = ended_as x ys opens_arm f ∙ omega arith

    no_range : (label : ℕ) → opens_arm ≡ opens_range (Some label) → ⊥
    no_range label h = cc

    within : (g : List ItemTree) (h : ItemTree) (q : List ItemTree) → x ∷ xs ≡ g ++ (h ∷ q) → IsWithin (suc k) g h q
    within [] h q same =
        let p = both_cons x h xs q same in
        let b0 = begun_none in
        let e0 = ended_none in
        record { low = omega arith; needed = λ t. omega arith; ends = λ l n lack. no_range l (sym f ∙ ap (λ (z : ItemTree). effect_of z.shape) p.0 ∙ n) }
    within (y ∷ g) h q same =
        let p = both_cons x y xs (g ++ (h ∷ q)) same in
        let w = b.each g h q p.1 in
        let low = w.low in
        let c1 : blocks_begun (y ∷ g) ≡ blocks_begun g = ap (λ (z : ItemTree). blocks_begun (z ∷ g)) (sym p.0) ∙ c g in
        let d1 : blocks_ended (y ∷ g) ≡ blocks_ended g = ap (λ (z : ItemTree). blocks_ended (z ∷ g)) (sym p.0) ∙ d g in
        record { low = omega arith; needed = λ t. let n = w.needed t in omega arith; ends = w.ends }

loop_ends : (s : Option ℕ) (range : Members) → IsEnded s range → (label : ℕ) → s ≡ Some label → LackLabel label (flat range) → ⊥
loop_ends None range r label e lack = absurd (let k : None ≡ Some label = e in cc)
loop_ends (Some n) range r label e lack = range_ends n (flat range) r.ends (subst (λ (l : ℕ). LackLabel l (flat range)) (sym (some_is n label e)) lack)
  where
    some_is : (a b : ℕ) → Some a ≡ Some b → a ≡ b
    some_is a b h = cc

loop_balanced : (k : ℕ) (s : Option ℕ) (x : ItemTree) (range : Members) → effect_of x.shape ≡ opens_range s → IsEnded s range → IsBalanced k (flat range) → IsBalanced k (x ∷ flat range)
loop_balanced k s x range e r b = neutral_cons k x (flat range) (opens_range s) e refl refl refl (λ label f lack. loop_ends s range r label (range_label s label f) lack) b

block_balanced : (k : ℕ) (h : ItemTree) (inside : List ItemTree) (x : ItemTree) (rest : List ItemTree) → effect_of h.shape ≡ opens_block → effect_of x.shape ≡ closes_block
    → IsBalanced (suc k) inside → IsBalanced k rest → IsBalanced k (h ∷ (inside ++ (x ∷ rest)))
block_balanced k h inside x rest e f b c =
    subst (IsBalanced k) (ap (λ (xs : List ItemTree). h ∷ xs) (append_assoc inside (x ∷ []) rest)) (balanced_append k (h ∷ (inside ++ x ∷ [])) rest (block_parts k h inside x e f b) c)

mutual
  pub balanced : (r : Bool) (n k : ℕ) (ms : Members) → IsWell r n ms → IsBalanced k (flat ms)
  balanced i n k none w = balanced_none k
  balanced i n k (plain x ms) w = by w.0 (balanced i n k ms w.1)
    where
      by : IsPlain x.shape ⊎ IsEndDo i x.shape ms → IsBalanced k (flat ms) → IsBalanced k (x ∷ flat ms)
      by (inl p) b = neutral_cons k x (flat ms) (stands p.may) p.alone refl refl refl (λ label e lack. plain_ends p.may label e) b
      by (inr d) b = neutral_cons k x (flat ms) closes_range d.closes refl refl refl (λ label e lack. do_ends label e) b
  balanced i n k (loop x r ms) w = balanced_append k (x ∷ flat r) (flat ms) (loop_balanced k w.1.label x r w.1.names w.1.ends (balanced true (suc n) k r w.2)) (balanced i n k ms w.3)
  balanced i n k (block no_arms x ms) w = absurd w.1
  balanced i n k (block (arm h r more) x ms) w =
      block_balanced k h (flat r ++ flat_arms more) x (flat ms) w.1.0 w.2
      (balanced_append (suc k) (flat r) (flat_arms more) (balanced false (suc n) (suc k) r w.1.1) (further n k false more w.1.2)) (balanced i n k ms w.3)

  pub further : (n k : ℕ) (over : Bool) (arms : Arms) → AreFurther n over arms → IsBalanced (suc k) (flat_arms arms)
  further n k over no_arms w = balanced_none (suc k)
  further n k over (arm x r more) w =
      arm_cons k x (flat r ++ flat_arms more) w.1 (balanced_append (suc k) (flat r) (flat_arms more) (balanced false (suc n) (suc k) r w.2) (further n k (is_else x.shape) more w.3))

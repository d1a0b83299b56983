-- One thing at most is the innermost that is open.
use Rattle.std.proofs.Common.{◌≡◌, Option, Some, None, ℕ, suc, ◌+◌, ◌≤◌, Bool, true, false, List, [], ◌∷◌, ◌++◌, refl, sym, ap, subst, ◌∙◌, arith, inl, inr, append_assoc}
use Rattle.std.specs.Prelude.{◌⊎◌, if◌then◌else◌}
use Rattle.meaning.specs.Syntax.{ItemTree}
use Rattle.meaning.specs.Trees.{Members, none, plain, loop, block, Arms, no_arms, arm, flat, flat_arms}
use Rattle.meaning.specs.Nesting.{Unfinished, ended, body, range, branch, in_range, Effect, opens_range, closes_range, opens_block, opens_arm, closes_block, closes_unit, stands, effect_of, is_else, is_label_named, IsPlain, IsEndDo, IsEnded, IsWell, AreFurther, add, joined, past, past_by, behind}
use Rattle.meaning.specs.RuleTold.{IsOpenBehind, IsInnermost}
use Rattle.nesting_laws.proofs.Joined.{flat_joined}
use Rattle.nesting_laws.proofs.Fits.{Fits, last_label}
use Rattle.nesting_laws.proofs.Goes.{behind_append, add_fresh}
use Rattle.nesting_laws.proofs.Passed.{past_is}
use Rattle.nesting_laws.proofs.Complete.{goes_members, split_end, stays_open}
use Rattle.nesting_laws.proofs.Balance.{InFirst, InSecond, both_cons, place, never_cons, needs_block, blocks_begun, blocks_ended, begun_append, begun_as, ended_append, ended_as, IsWithin, balanced}

-- ---- the END DO of a DO statement without a label

-- behind it well nested statements and END DO come
record HasItsEnd (q : List ItemTree) : Type 0 where
  front : Members
  last : ItemTree
  rest : List ItemTree
  depth : ℕ
  parts : q ≡ flat front ++ (last ∷ rest)
  well : IsWell false (suc depth) front
  closes : effect_of last.shape ≡ closes_range

still_ends : (q more : List ItemTree) → HasItsEnd q → HasItsEnd (q ++ more)
still_ends q more k = record { front = k.front; last = k.last; rest = k.rest ++ more; depth = k.depth; parts = ap (λ (xs : List ItemTree). xs ++ more) k.parts ∙ append_assoc (flat k.front) (k.last ∷ k.rest) more; well = k.well; closes = k.closes }

abbrev EndsDo : List ItemTree → Type 0
EndsDo xs = (g : List ItemTree) (h : ItemTree) (q : List ItemTree) → xs ≡ g ++ (h ∷ q) → effect_of h.shape ≡ opens_range None → HasItsEnd q

both_end : (xs ys : List ItemTree) → EndsDo xs → EndsDo ys → EndsDo (xs ++ ys)
both_end xs ys a b g h q e f = by (place xs ys g h q e)
  where
    by : InFirst xs ys g h q ⊎ InSecond xs ys g h q → HasItsEnd q
    by (inl p) = subst HasItsEnd (sym p.last) (still_ends p.more ys (a g h p.more p.first f))
    by (inr p) = b p.more h q p.last f

one_ends : (x : ItemTree) (xs : List ItemTree) (d : Effect) → effect_of x.shape ≡ d → (d ≡ opens_range None → HasItsEnd xs) → EndsDo xs → EndsDo (x ∷ xs)
one_ends x xs d is here rest [] h q e f =
    let p = both_cons x h xs q e in subst HasItsEnd p.1 (here (sym is ∙ ap (λ (y : ItemTree). effect_of y.shape) p.0 ∙ f))
one_ends x xs d is here rest (y ∷ g) h q e f = rest g h q (both_cons x y xs (g ++ (h ∷ q)) e).1 f

none_ends : EndsDo []
none_ends g h q e f = absurd (never_cons g h q e)

range_does : (n : ℕ) (s : Option ℕ) (r : Members) → IsEnded s r → IsWell true (suc n) r → opens_range s ≡ opens_range None → HasItsEnd (flat r)
range_does n None r k w e =
    let d = split_end (suc n) r w k in
    record { front = d.front; last = d.last; rest = []; depth = n; parts = ap flat d.parts ∙ flat_joined d.front (plain d.last none); well = d.well; closes = d.closes }
range_does n (Some s) r k w e = absurd cc

mutual
  ends_do : (i : Bool) (n : ℕ) (a : Members) → IsWell i n a → EndsDo (flat a)
  ends_do i n none w = none_ends
  ends_do i n (plain x ms) w = by w.0 (ends_do i n ms w.1)
    where
      by : IsPlain x.shape ⊎ IsEndDo i x.shape ms → EndsDo (flat ms) → EndsDo (x ∷ flat ms)
      by (inl p) k = one_ends x (flat ms) (stands p.may) p.alone (λ e. absurd cc) k
      by (inr d) k = one_ends x (flat ms) closes_range d.closes (λ e. absurd cc) k
  ends_do i n (loop x r ms) w =
      both_end (x ∷ flat r) (flat ms) (one_ends x (flat r) (opens_range w.1.label) w.1.names (range_does n w.1.label r w.1.ends w.2) (ends_do true (suc n) r w.2)) (ends_do i n ms w.3)
  ends_do i n (block no_arms x ms) w = absurd w.1
  ends_do i n (block (arm h r more) x ms) w =
      both_end (h ∷ (flat r ++ flat_arms more)) (x ∷ flat ms)
      (one_ends h (flat r ++ flat_arms more) opens_block w.1.0 (λ e. absurd cc) (both_end (flat r) (flat_arms more) (ends_do false (suc n) r w.1.1) (ends_arms n false more w.1.2)))
      (one_ends x (flat ms) closes_block w.2 (λ e. absurd cc) (ends_do i n ms w.3))

  ends_arms : (n : ℕ) (over : Bool) (arms : Arms) → AreFurther n over arms → EndsDo (flat_arms arms)
  ends_arms n over no_arms w = none_ends
  ends_arms n over (arm x r more) w =
      one_ends x (flat r ++ flat_arms more) opens_arm w.1 (λ e. absurd cc) (both_end (flat r) (flat_arms more) (ends_do false (suc n) r w.2) (ends_arms n (is_else x.shape) more w.3))

ended_in : (i : Bool) (n : ℕ) (a : Members) → IsWell i n a → (g : List ItemTree) (h : ItemTree) (q : List ItemTree) → flat a ≡ g ++ (h ∷ q) → effect_of h.shape ≡ opens_range None → HasItsEnd q
ended_in i n a w g h q e f = ends_do i n a w g h q e f

-- ---- the body behind more statements

abbrev bottom : Unfinished → Members
bottom (ended ms) = ms
bottom (body ms) = ms
bottom (range head s ms around) = bottom around
bottom (branch arms head ms around) = bottom around

abbrev has_member : Members → Bool
has_member none = false
has_member (plain x ms) = true
has_member (loop x r ms) = true
has_member (block arms x ms) = true

joined_has : (a b : Members) → has_member a ≡ true → has_member (joined a b) ≡ true
joined_has none b h = absurd cc
joined_has (plain x ms) b h = refl
joined_has (loop x r ms) b h = refl
joined_has (block arms x ms) b h = refl

add_has : (l : Option ℕ) (more : Members) (z : Unfinished) → has_member (bottom z) ≡ true → has_member (bottom (add l more z)) ≡ true
add_has l more (ended ms) h = joined_has ms more h
add_has l more (body ms) h = joined_has ms more h
add_has l more (range head s ms around) h = by (is_label_named l s) (add_has l (loop head (joined ms more) none) around h)
  where
    by : (b : Bool) → has_member (bottom (add l (loop head (joined ms more) none) around)) ≡ true → has_member (bottom (if b then add l (loop head (joined ms more) none) around else range head s (joined ms more) around)) ≡ true
    by true k = k
    by false k = h
add_has l more (branch arms head ms around) h = h

innermost_has : (z : Unfinished) (x : ItemTree) (e : Effect) → has_member (bottom z) ≡ true → has_member (bottom (past_by z x e)) ≡ true
innermost_has z x (opens_range s) h = h
innermost_has (ended ms) x closes_range h = h
innermost_has (body ms) x closes_range h = h
innermost_has (range head s ms around) x closes_range h = add_has None (loop head (joined ms (plain x none)) none) around h
innermost_has (branch arms head ms around) x closes_range h = h
innermost_has z x opens_block h = h
innermost_has (ended ms) x opens_arm h = h
innermost_has (body ms) x opens_arm h = h
innermost_has (range head s ms around) x opens_arm h = h
innermost_has (branch arms head ms around) x opens_arm h = h
innermost_has (ended ms) x closes_block h = h
innermost_has (body ms) x closes_block h = h
innermost_has (range head s ms around) x closes_block h = h
innermost_has (branch arms head ms around) x closes_block h = add_has x.label _ around h
innermost_has (ended ms) x closes_unit h = joined_has ms (plain x none) h
innermost_has (body ms) x closes_unit h = joined_has ms (plain x none) h
innermost_has (range head s ms around) x closes_unit h = has_last ms
  where
    has_last : (ms : Members) → has_member (joined ms (plain x none)) ≡ true
    has_last none = refl
    has_last (plain y ns) = refl
    has_last (loop y r ns) = refl
    has_last (block arms y ns) = refl
innermost_has (branch arms head ms around) x closes_unit h = has_last ms
  where
    has_last : (ms : Members) → has_member (joined ms (plain x none)) ≡ true
    has_last none = refl
    has_last (plain y ns) = refl
    has_last (loop y r ns) = refl
    has_last (block arms y ns) = refl
innermost_has z x (stands may) h = add_has x.label (plain x none) z h

behind_has : (z : Unfinished) (xs : List ItemTree) → has_member (bottom z) ≡ true → has_member (bottom (behind z xs)) ≡ true
behind_has z [] h = h
behind_has z (x ∷ xs) h = behind_has (past z x) xs (ap (λ (y : Unfinished). has_member (bottom y)) (past_is z x (effect_of x.shape) refl) ∙ innermost_has z x (effect_of x.shape) h)

-- ---- well nested statements in a range without a label leave it open

mutual
  fewer_around : (i : Bool) (m n : ℕ) → n ≤ m → (a : Members) → IsWell i m a → IsWell i n a
  fewer_around i m n le none w = tt
  fewer_around i m n le (plain x ms) w = (w.0, fewer_around i m n le ms w.1)
  fewer_around i m n le (loop x r ms) w = (let lt = w.0 in omega arith, w.1, fewer_around true (suc m) (suc n) (omega arith) r w.2, fewer_around i m n le ms w.3)
  fewer_around i m n le (block no_arms x ms) w = absurd w.1
  fewer_around i m n le (block (arm h r more) x ms) w =
      (let lt = w.0 in omega arith, (w.1.0, fewer_around false (suc m) (suc n) (omega arith) r w.1.1, fewer_arms m n le false more w.1.2), w.2, fewer_around i m n le ms w.3)

  fewer_arms : (m n : ℕ) → n ≤ m → (over : Bool) (arms : Arms) → AreFurther m over arms → AreFurther n over arms
  fewer_arms m n le over no_arms f = tt
  fewer_arms m n le over (arm k q others) f =
      (f.0, f.1, fewer_around false (suc m) (suc n) (omega arith) q f.2, fewer_arms m n le (is_else k.shape) others f.3)

fits_alone : (xs : List ItemTree) → Fits (in_range None ∷ []) xs
fits_alone [] = tt
fits_alone (x ∷ []) = (record { may = record { unhidden = refl; terminal = refl }; fresh = λ e. refl }, tt)
fits_alone (x ∷ (y ∷ ys)) = (refl, fits_alone (y ∷ ys))

leaves_open : (h : ItemTree) (m : ℕ) (f : Members) → IsWell false (suc m) f → behind (range h None none (body none)) (flat f) ≡ range h None f (body none)
leaves_open h m f w =
    let z = range h None none (body none) in
    (goes_members f z refl (fewer_around false (suc m) 1 (omega arith) f w) (fits_alone (flat f))).reached ∙ add_fresh z (last_label (flat f)) f refl ∙ stays_open h None f (body none)

never_both : (f : Members) (x : ItemTree) (more : List ItemTree) (k m : ℕ) (b : Members) → IsWell false (suc k) f → IsWell false (suc m) b → effect_of x.shape ≡ closes_range → flat b ≡ flat f ++ (x ∷ more) → ⊥
never_both f x more k m b w v e parts =
    let z = range x None none (body none) in
    let opened : behind z (flat b) ≡ range x None b (body none) = leaves_open x m b v in
    let closed : past (range x None f (body none)) x ≡ body (loop x (joined f (plain x none)) none) = past_is (range x None f (body none)) x closes_range e in
    let on : behind z (flat f ++ (x ∷ more)) ≡ behind (body (loop x (joined f (plain x none)) none)) more =
    behind_append z (flat f) (x ∷ more) ∙ ap (λ (y : Unfinished). behind y (x ∷ more)) (leaves_open x k f w) ∙ ap (λ (y : Unfinished). behind y more) closed in
    let same : behind (body (loop x (joined f (plain x none)) none)) more ≡ range x None b (body none) = sym on ∙ ap (behind z) (sym parts) ∙ opened in
    let has : true ≡ false = sym (behind_has (body (loop x (joined f (plain x none)) none)) more refl) ∙ ap (λ (y : Unfinished). has_member (bottom y)) same in
    absurd cc

-- ---- one innermost open thing

-- nothing is open behind well nested statements
pub none_open : (n : ℕ) (a : Members) (g : List ItemTree) (h : ItemTree) (m : ℕ) (b : Members) → IsWell false n a → flat a ≡ g ++ (h ∷ flat b) → IsWell false (suc m) b → IsOpenBehind (effect_of h.shape) (flat b) → ⊥
none_open n a g h m b w e v open_behind = by_effect (effect_of h.shape) refl open_behind
  where
    one : IsWithin 0 g h (flat b)
    one = (balanced false n 0 a w).each g h (flat b) e

    begun : blocks_begun g + blocks_begun (h ∷ flat b) ≡ blocks_ended g + blocks_ended (h ∷ flat b)
    begun = sym (begun_append g (h ∷ flat b)) ∙ ap blocks_begun (sym e) ∙ (balanced false n 0 a w).even ∙ ap blocks_ended e ∙ ended_append g (h ∷ flat b)

    clash : false ≡ true → ⊥
    clash p = cc

    by_effect : (d : Effect) → effect_of h.shape ≡ d → IsOpenBehind d (flat b) → ⊥
    by_effect (opens_range (Some s)) f o = one.ends s f o
    by_effect (opens_range None) f o = let k = ended_in false n a w g h (flat b) e f in never_both k.front k.last k.rest k.depth m b k.well v k.closes k.parts
    by_effect closes_range f o = clash o
    by_effect opens_block f o =
        let b1 = begun_as h (flat b) opens_block f in
        let d1 = ended_as h (flat b) opens_block f in
        let even = (balanced false (suc m) 0 b v).even in
        let low = one.low in
        let all = begun in
        absurd (omega arith)
    by_effect opens_arm f o =
        let b1 = begun_as h (flat b) opens_arm f in
        let d1 = ended_as h (flat b) opens_arm f in
        let even = (balanced false (suc m) 0 b v).even in
        let low = one.needed (ap needs_block f) in
        let all = begun in
        absurd (omega arith)
    by_effect closes_block f o = clash o
    by_effect closes_unit f o = clash o
    by_effect (stands may) f o = clash o

pub none_innermost : (items : List ItemTree) (n : ℕ) (a : Members) (h : ItemTree) → IsWell false n a → items ≡ flat a → IsInnermost items h → ⊥
none_innermost items n a h w e i = none_open n a i.front h i.depth i.inside w (sym e ∙ i.parts) i.well i.unended

pub one_innermost : (items : List ItemTree) (h k : ItemTree) → IsInnermost items h → IsInnermost items k → h ≡ k
one_innermost items h k i j = by_place (place (i.front ++ h ∷ []) (flat i.inside) j.front k (flat j.inside) (append_assoc i.front (h ∷ []) (flat i.inside) ∙ sym i.parts ∙ j.parts))
  where
    by_end : (xs more : List ItemTree) → xs ++ h ∷ [] ≡ j.front ++ (k ∷ more) → flat j.inside ≡ more ++ flat i.inside → h ≡ k
    by_end xs more e f = ends (place xs (h ∷ []) j.front k more e)
      where
        alone : (ys : List ItemTree) → h ∷ [] ≡ ys ++ (k ∷ more) → h ≡ k
        alone [] p = (both_cons h k [] more p).0
        alone (y ∷ ys) p = absurd (never_cons ys k more (both_cons h y [] (ys ++ (k ∷ more)) p).1)

        ends : InFirst xs (h ∷ []) j.front k more ⊎ InSecond xs (h ∷ []) j.front k more → h ≡ k
        ends (inl p) =
            let whole : flat j.inside ≡ p.more ++ (h ∷ flat i.inside) = f ∙ ap (λ (ys : List ItemTree). ys ++ flat i.inside) p.last ∙ append_assoc p.more (h ∷ []) (flat i.inside) in
            absurd (none_open (suc j.depth) j.inside p.more h i.depth i.inside j.well whole i.well i.unended)
        ends (inr p) = alone p.more p.last

    by_place : InFirst (i.front ++ h ∷ []) (flat i.inside) j.front k (flat j.inside) ⊎ InSecond (i.front ++ h ∷ []) (flat i.inside) j.front k (flat j.inside) → h ≡ k
    by_place (inl p) = by_end i.front p.more p.first p.last
    by_place (inr p) = absurd (none_open (suc i.depth) i.inside p.more k j.depth j.inside i.well p.last j.well j.unended)

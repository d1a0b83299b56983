-- What is open behind some statements, said of these statements.
use Rattle.std.proofs.Common.{◌≡◌, ℕ, suc, Bool, true, false, List, [], ◌∷◌, ◌++◌, length, Option, Some, None, refl, sym, ap, subst, ◌∙◌, arith, inl, inr, append_assoc}
use Rattle.std.specs.Prelude.{◌⊎◌, ◌&&◌, ◌||◌, not, IsTrue, IsFalse}
use Rattle.std.specs.List.{AllByRecursion}
use Rattle.meaning.specs.LabelRules.{is_label_at, has_label}
use Rattle.meaning.specs.Syntax.{ItemTree}
use Rattle.meaning.specs.Trees.{Members, Arms, no_arms, arm, flat, flat_arms}
use Rattle.meaning.specs.Nesting.{Unfinished, ended, body, range, branch, Level, in_range, is_label_named, may_close, is_stray_end_do, Effect, opens_range, closes_range, opens_block, opens_arm, closes_block, closes_unit, stands, effect_of, levels, is_ended, is_else, is_named, is_hidden, is_stray, is_end_in_range, is_crossing, named, may_end, joined_arms, IsWell, AreArms, AreFurther}
use Rattle.meaning.specs.RuleTold.{begins_arm, LackLabel, IsOpenBehind, IsInnermost, InnermostIs, IsArm, IsEarlierArm, IsDo, IsDoTo, IsDoOf, IsEndedBy, HasRange, HasBlockedRange, HasTwoRanges, AtLabel, IsOutOfPlace, Crosses, ends_too_early, may_not_end, names_too_late, ends_in_range, ends_none, ends_two}
use Rattle.nesting_laws.proofs.Joined.{flat_with_arm}
use Rattle.nesting_laws.proofs.Names.{IsFresh, named_is, not_false, or_left, or_right, and_not, none_named, none_hidden, same_label, label_is, hidden_behind_same, hidden_behind_other, named_behind_other, fresh_unhidden, all_append, all_left, all_follow, fresh_around, fresh_other}
use Rattle.nesting_laws.proofs.Sound.{IsOpenRange, IsOpenBlock, IsSound, text}
use Rattle.nesting_laws.proofs.Balance.{InFirst, InSecond, both_cons, place, blocks_begun, blocks_ended, begun_as, ended_as, IsBalanced, balanced_append, balanced, further}
use Rattle.nesting_laws.proofs.Innermost.{none_innermost, one_innermost}

clash : (b : Bool) → b ≡ true → b ≡ false → ⊥
clash b p q = cc

either : (b : Bool) → (b ≡ true) ⊎ (b ≡ false)
either true = inl refl
either false = inr refl

-- ---- the innermost thing

arm_open : (e : Effect) (xs : List ItemTree) → IsTrue (begins_arm e) → IsOpenBehind e xs
arm_open (opens_range s) xs h = absurd (clash false h refl)
arm_open closes_range xs h = h
arm_open opens_block xs h = h
arm_open opens_arm xs h = h
arm_open closes_block xs h = h
arm_open closes_unit xs h = h
arm_open (stands may) xs h = h

further_arm : (n : ℕ) (over : Bool) (arms : Arms) (head : ItemTree) (ms : Members) (more : Arms) → AreFurther n over (joined_arms arms (arm head ms more)) → IsArm head
further_arm n over no_arms head ms more w = ap begins_arm w.1
further_arm n over (arm x r arms) head ms more w = further_arm n (is_else x.shape) arms head ms more w.3

first_arm : (n : ℕ) (arms : Arms) (head : ItemTree) (ms : Members) (more : Arms) → AreArms n (joined_arms arms (arm head ms more)) → IsArm head
first_arm n no_arms head ms more w = ap begins_arm w.0
first_arm n (arm x r arms) head ms more w = further_arm n false arms head ms more w.2

are_arms : (arms : Arms) (head : ItemTree) (ms : Members) (around : Unfinished) → IsOpenBlock arms head ms around → AreArms (length (levels around)) (joined_arms arms (arm head ms no_arms))
are_arms arms head ms around r = r.goes ms no_arms r.well tt

head_arm : (arms : Arms) (head : ItemTree) (ms : Members) (around : Unfinished) → IsOpenBlock arms head ms around → IsArm head
head_arm arms head ms around r = first_arm (length (levels around)) arms head ms no_arms (are_arms arms head ms around r)

range_lacks : (head : ItemTree) (s : ℕ) (ms : Members) (around : Unfinished) → IsOpenRange head (Some s) ms around → LackLabel s (flat ms)
range_lacks head s ms around r = all_follow (IsFresh (in_range (Some s) ∷ levels around)) (λ y. IsFalse (has_label s y)) (λ y f. fresh_other (Some s) (levels around) y f) (flat ms) r.fresh

range_open : (head : ItemTree) (s : Option ℕ) (ms : Members) (around : Unfinished) → IsOpenRange head s ms around → IsOpenBehind (opens_range s) (flat ms)
range_open head None ms around r = tt
range_open head (Some s) ms around r = range_lacks head s ms around r

range_innermost : (head : ItemTree) (s : Option ℕ) (ms : Members) (around : Unfinished) → IsOpenRange head s ms around → IsInnermost (text (range head s ms around)) head
range_innermost head s ms around r = record {
  front = text around;
  inside = ms;
  depth = length (levels around);
  parts = refl;
  well = r.well;
  unended = subst (λ (e : Effect). IsOpenBehind e (flat ms)) (sym r.names_it) (range_open head s ms around r);
}

block_innermost : (arms : Arms) (head : ItemTree) (ms : Members) (around : Unfinished) → IsOpenBlock arms head ms around → IsInnermost (text (branch arms head ms around)) head
block_innermost arms head ms around r = record {
  front = text around ++ flat_arms arms;
  inside = ms;
  depth = length (levels around);
  parts = sym (append_assoc (text around) (flat_arms arms) (head ∷ flat ms));
  well = r.well;
  unended = arm_open (effect_of head.shape) (flat ms) (head_arm arms head ms around r);
}

not_in_body : (P : ItemTree → Type 0) (ms : Members) → IsWell false 0 ms → InnermostIs P (flat ms) → ⊥
not_in_body P ms w i = none_innermost (flat ms) 0 ms i.head w refl i.innermost

range_do : (head : ItemTree) (s : Option ℕ) (ms : Members) (around : Unfinished) → IsOpenRange head s ms around → InnermostIs IsDo (text (range head s ms around))
range_do head s ms around r = record { head = head; innermost = range_innermost head s ms around r; such = record { label = s; names = r.names_it } }

range_arm : (head : ItemTree) (s : Option ℕ) (ms : Members) (around : Unfinished) → IsOpenRange head s ms around → InnermostIs IsArm (text (range head s ms around)) → ⊥
range_arm head s ms around r i =
    let same : i.head ≡ head = one_innermost (text (range head s ms around)) i.head head i.innermost (range_innermost head s ms around r) in
    let is : IsArm head = subst IsArm same i.such in
    clash (begins_arm (effect_of head.shape)) is (ap begins_arm r.names_it)

block_arm : (arms : Arms) (head : ItemTree) (ms : Members) (around : Unfinished) → IsOpenBlock arms head ms around → InnermostIs IsArm (text (branch arms head ms around))
block_arm arms head ms around r = record { head = head; innermost = block_innermost arms head ms around r; such = head_arm arms head ms around r }

block_earlier : (arms : Arms) (head : ItemTree) (ms : Members) (around : Unfinished) → IsOpenBlock arms head ms around → is_else head.shape ≡ false → InnermostIs IsEarlierArm (text (branch arms head ms around))
block_earlier arms head ms around r e = record { head = head; innermost = block_innermost arms head ms around r; such = (head_arm arms head ms around r, e) }

block_late : (arms : Arms) (head : ItemTree) (ms : Members) (around : Unfinished) → IsOpenBlock arms head ms around → is_else head.shape ≡ true → InnermostIs IsEarlierArm (text (branch arms head ms around)) → ⊥
block_late arms head ms around r e i =
    let same : i.head ≡ head = one_innermost (text (branch arms head ms around)) i.head head i.innermost (block_innermost arms head ms around r) in
    let is : IsEarlierArm head = subst IsEarlierArm same i.such in
    clash (is_else head.shape) e is.1

block_do : (arms : Arms) (head : ItemTree) (ms : Members) (around : Unfinished) → IsOpenBlock arms head ms around → InnermostIs IsDo (text (branch arms head ms around)) → ⊥
block_do arms head ms around r i =
    let same : i.head ≡ head = one_innermost (text (branch arms head ms around)) i.head head i.innermost (block_innermost arms head ms around r) in
    let is : IsDo head = subst IsDo same i.such in
    clash (begins_arm (effect_of head.shape)) (head_arm arms head ms around r) (ap begins_arm is.names)

an_arm : (items : List ItemTree) → InnermostIs IsEarlierArm items → InnermostIs IsArm items
an_arm items i = record { head = i.head; innermost = i.innermost; such = i.such.0 }

-- ---- ELSE IF, ELSE, END IF and END

pub stray_of : (z : Unfinished) (e : Effect) → IsSound z → is_ended z ≡ false → is_stray e (levels z) ≡ true → IsOutOfPlace e (text z)
stray_of (ended ms) e h o t = absurd cc
stray_of (body ms) (opens_range s) h o t = clash false t refl
stray_of (body ms) closes_range h o t = clash false t refl
stray_of (body ms) opens_block h o t = clash false t refl
stray_of (body ms) opens_arm h o t = λ i. not_in_body IsEarlierArm ms h i
stray_of (body ms) closes_block h o t = λ i. not_in_body IsArm ms h i
stray_of (body ms) closes_unit h o t = absurd (clash false t refl)
stray_of (body ms) (stands may) h o t = clash false t refl
stray_of (range head s ms around) (opens_range l) h o t = clash false t refl
stray_of (range head s ms around) closes_range h o t = clash false t refl
stray_of (range head s ms around) opens_block h o t = clash false t refl
stray_of (range head s ms around) opens_arm h o t = λ i. range_arm head s ms around h.0 (an_arm (text (range head s ms around)) i)
stray_of (range head s ms around) closes_block h o t = λ i. range_arm head s ms around h.0 i
stray_of (range head s ms around) closes_unit h o t = absurd (clash false t refl)
stray_of (range head s ms around) (stands may) h o t = clash false t refl
stray_of (branch arms head ms around) (opens_range l) h o t = clash false t refl
stray_of (branch arms head ms around) closes_range h o t = clash false t refl
stray_of (branch arms head ms around) opens_block h o t = clash false t refl
stray_of (branch arms head ms around) opens_arm h o t = λ i. block_late arms head ms around h.0 t i
stray_of (branch arms head ms around) closes_block h o t = absurd (clash false t refl)
stray_of (branch arms head ms around) closes_unit h o t = block_arm arms head ms around h.0
stray_of (branch arms head ms around) (stands may) h o t = clash false t refl

pub stray_not : (z : Unfinished) (e : Effect) → IsSound z → is_ended z ≡ false → is_stray e (levels z) ≡ false → IsOutOfPlace e (text z) → ⊥
stray_not (ended ms) e h o t p = absurd cc
stray_not z (opens_range s) h o t p = p
stray_not z closes_range h o t p = p
stray_not z opens_block h o t p = p
stray_not z (stands may) h o t p = p
stray_not (body ms) opens_arm h o t p = clash true refl t
stray_not (body ms) closes_block h o t p = clash true refl t
stray_not (body ms) closes_unit h o t p = not_in_body IsArm ms h p
stray_not (range head s ms around) opens_arm h o t p = clash true refl t
stray_not (range head s ms around) closes_block h o t p = clash true refl t
stray_not (range head s ms around) closes_unit h o t p = range_arm head s ms around h.0 p
stray_not (branch arms head ms around) opens_arm h o t p = p (block_earlier arms head ms around h.0 t)
stray_not (branch arms head ms around) closes_block h o t p = p (block_arm arms head ms around h.0)
stray_not (branch arms head ms around) closes_unit h o t p = clash true refl t

-- ---- END in a range

pub end_of : (z : Unfinished) (e : Effect) → IsSound z → is_end_in_range e (levels z) ≡ true → (e ≡ closes_unit) × InnermostIs IsDo (text z)
end_of (range head s ms around) closes_unit h t = (refl, range_do head s ms around h.0)
end_of (ended ms) closes_unit h t = absurd (clash false t refl)
end_of (body ms) closes_unit h t = absurd (clash false t refl)
end_of (branch arms head ms around) closes_unit h t = absurd (clash false t refl)
end_of z (opens_range s) h t = absurd (clash false t refl)
end_of z closes_range h t = absurd (clash false t refl)
end_of z opens_block h t = absurd (clash false t refl)
end_of z opens_arm h t = absurd (clash false t refl)
end_of z closes_block h t = absurd (clash false t refl)
end_of z (stands may) h t = absurd (clash false t refl)

pub end_not : (z : Unfinished) → IsSound z → is_ended z ≡ false → is_end_in_range closes_unit (levels z) ≡ false → InnermostIs IsDo (text z) → ⊥
end_not (ended ms) h o t i = absurd cc
end_not (body ms) h o t i = not_in_body IsDo ms h i
end_not (range head s ms around) h o t i = clash true refl t
end_not (branch arms head ms around) h o t i = block_do arms head ms around h.0 i

-- ---- the ranges that end in a list

-- each DO statement of the list has a statement with its label behind it
abbrev EndsRanges : List ItemTree → Type 0
EndsRanges ys = (g : List ItemTree) (h : ItemTree) (q : List ItemTree) → ys ≡ g ++ (h ∷ q) → (label : ℕ) → effect_of h.shape ≡ opens_range (Some label) → LackLabel label q → ⊥

members_end : (n : ℕ) (ms : Members) → IsWell false n ms → EndsRanges (flat ms)
members_end n ms w g h q e = ((balanced false n 0 ms w).each g h q e).ends

-- the arms of an open block IF
record IsOpenList (ys : List ItemTree) : Type 0 where
  more : blocks_begun ys ≡ suc (blocks_ended ys)
  ends : EndsRanges ys

arms_open : (n : ℕ) (arms : Arms) → AreArms n arms → IsOpenList (flat_arms arms)
arms_open n no_arms w = absurd w
arms_open n (arm x r arms) w = record { more = more; ends = ends }
  where
    inner : List ItemTree
    inner = flat r ++ flat_arms arms

    b : IsBalanced 1 (flat r ++ flat_arms arms)
    b = balanced_append 1 (flat r) (flat_arms arms) (balanced false (suc n) 1 r w.1) (further n 0 false arms w.2)

    more : blocks_begun (x ∷ (flat r ++ flat_arms arms)) ≡ suc (blocks_ended (x ∷ (flat r ++ flat_arms arms)))
    more =
        let c = begun_as x (flat r ++ flat_arms arms) opens_block w.0 in
        let d = ended_as x (flat r ++ flat_arms arms) opens_block w.0 in
        let even = b.even in
        omega arith

    no_range : (label : ℕ) → opens_block ≡ opens_range (Some label) → ⊥
    no_range label e = cc

    ends : EndsRanges (x ∷ (flat r ++ flat_arms arms))
    ends [] h q e label f lack = no_range label (sym w.0 ∙ ap (λ (y : ItemTree). effect_of y.shape) (both_cons x h (flat r ++ flat_arms arms) q e).0 ∙ f)
    ends (y ∷ g) h q e label f lack = (b.each g h q (both_cons x y (flat r ++ flat_arms arms) (g ++ (h ∷ q)) e).1).ends label f lack

block_open : (arms : Arms) (head : ItemTree) (ms : Members) (around : Unfinished) → IsOpenBlock arms head ms around → IsOpenList (flat_arms arms ++ (head ∷ flat ms))
block_open arms head ms around r =
    subst IsOpenList (flat_with_arm arms head ms) (arms_open (length (levels around)) (joined_arms arms (arm head ms no_arms)) (are_arms arms head ms around r))

-- ---- an open range, with more statements and with fewer

abbrev longer : (s : ℕ) (items more : List ItemTree) → HasRange s items → LackLabel s more → HasRange s (items ++ more)
longer s items more o lack = record {
  front = o.front;
  head = o.head;
  rest = o.rest ++ more;
  parts = ap (λ (xs : List ItemTree). xs ++ more) o.parts ∙ append_assoc o.front (o.head ∷ o.rest) more;
  names = o.names;
  unended = all_append (λ y. IsFalse (has_label s y)) o.rest more o.unended lack;
}

-- behind other statements
behind_others : (s : ℕ) (front : List ItemTree) (head : ItemTree) (rest items : List ItemTree) → items ≡ front ++ (head ∷ rest) → HasRange s rest → HasRange s items
behind_others s front head rest items e o = record {
  front = front ++ (head ∷ o.front);
  head = o.head;
  rest = o.rest;
  parts = e ∙ ap (λ (xs : List ItemTree). front ++ (head ∷ xs)) o.parts ∙ sym (append_assoc front (head ∷ o.front) (o.head ∷ o.rest));
  names = o.names;
  unended = o.unended;
}

record FirstRange (s : ℕ) (xs ys rest : List ItemTree) : Type 0 where
  range : HasRange s xs
  last : rest ≡ range.rest ++ ys

first_range : (s : ℕ) (xs ys : List ItemTree) (o : HasRange s (xs ++ ys)) → InFirst xs ys o.front o.head o.rest → FirstRange s xs ys o.rest
first_range s xs ys o p = record {
  range = record {
    front = o.front;
    head = o.head;
    rest = p.more;
    parts = p.first;
    names = o.names;
    unended = all_left (λ y. IsFalse (has_label s y)) p.more ys (subst (LackLabel s) p.last o.unended);
  };
  last = p.last;
}

in_first : (s : ℕ) (xs ys : List ItemTree) → EndsRanges ys → (o : HasRange s (xs ++ ys)) → FirstRange s xs ys o.rest
in_first s xs ys ends o = by_place (place xs ys o.front o.head o.rest o.parts)
  where
    by_place : InFirst xs ys o.front o.head o.rest ⊎ InSecond xs ys o.front o.head o.rest → FirstRange s xs ys o.rest
    by_place (inl p) = first_range s xs ys o p
    by_place (inr p) = absurd (ends p.more o.head o.rest p.last s o.names o.unended)

record IsTop (s : ℕ) (t : Option ℕ) (rest inside : List ItemTree) : Type 0 where
  same : Some s ≡ t
  all : rest ≡ inside

range_label : (s t : Option ℕ) → opens_range s ≡ opens_range t → s ≡ t
range_label s t e = cc

-- a DO statement before its range
in_range_or_first : (s : ℕ) (t : Option ℕ) (xs : List ItemTree) (head : ItemTree) (inside : List ItemTree) → effect_of head.shape ≡ opens_range t → EndsRanges inside
    → (o : HasRange s (xs ++ (head ∷ inside))) → FirstRange s xs (head ∷ inside) o.rest ⊎ IsTop s t o.rest inside
in_range_or_first s t xs head inside e ends o = by_place (place xs (head ∷ inside) o.front o.head o.rest o.parts)
  where
    by_more : (more : List ItemTree) → head ∷ inside ≡ more ++ (o.head ∷ o.rest) → IsTop s t o.rest inside
    by_more [] f =
        let p = both_cons head o.head inside o.rest f in
        record { same = range_label (Some s) t (sym o.names ∙ ap (λ (y : ItemTree). effect_of y.shape) (sym p.0) ∙ e); all = sym p.1 }
    by_more (y ∷ more) f = absurd (ends more o.head o.rest (both_cons head y inside (more ++ (o.head ∷ o.rest)) f).1 s o.names o.unended)

    by_place : InFirst xs (head ∷ inside) o.front o.head o.rest ⊎ InSecond xs (head ∷ inside) o.front o.head o.rest → FirstRange s xs (head ∷ inside) o.rest ⊎ IsTop s t o.rest inside
    by_place (inl p) = inl (first_range s xs (head ∷ inside) o p)
    by_place (inr p) = inr (by_more p.more p.last)

-- ---- an open DO statement names the label

lacks_one : (s : ℕ) (opened : List Level) (y : ItemTree) → is_named (Some s) opened ≡ true → IsFresh opened y → has_label s y ≡ false
lacks_one s opened y n f = by_test (either (has_label s y))
  where
    by_test : (has_label s y ≡ true) ⊎ (has_label s y ≡ false) → has_label s y ≡ false
    by_test (inl b) = absurd (clash (is_named (Some s) opened) n (ap (λ l. is_named l opened) (sym (label_is y.label s b)) ∙ f))
    by_test (inr b) = b

lacks_of : (s : ℕ) (opened : List Level) → is_named (Some s) opened ≡ true → (xs : List ItemTree) → AllByRecursion (IsFresh opened) xs → LackLabel s xs
lacks_of s opened n xs f = all_follow (IsFresh opened) (λ y. IsFalse (has_label s y)) (λ y g. lacks_one s opened y n g) xs f

range_fresh : (head : ItemTree) (s : Option ℕ) (ms : Members) (around : Unfinished) → IsOpenRange head s ms around → AllByRecursion (IsFresh (levels around)) (head ∷ flat ms)
range_fresh head s ms around r = (r.head_fresh, all_follow (IsFresh (in_range s ∷ levels around)) (IsFresh (levels around)) (λ y f. fresh_around s (levels around) y f) (flat ms) r.fresh)

named_of : (z : Unfinished) (s : ℕ) → IsSound z → is_named (Some s) (levels z) ≡ true → HasRange s (text z)
named_of (ended ms) s h n = absurd (clash false n refl)
named_of (body ms) s h n = absurd (clash false n refl)
named_of (range head t ms around) s h n = by_test (either (is_label_named (Some s) t)) (named_of around s h.1)
  where
    here : (t : Option ℕ) → IsOpenRange head t ms around → is_label_named (Some s) t ≡ true → HasRange s (text around ++ (head ∷ flat ms))
    here None r b = absurd (clash false b refl)
    here (Some k) r b =
        let same : Some s ≡ Some k = label_is (Some s) k b in
        record {
          front = text around;
          head = head;
          rest = flat ms;
          parts = refl;
          names = r.names_it ∙ ap (λ (l : Option ℕ). opens_range l) (sym same);
          unended = subst (λ (l : ℕ). LackLabel l (flat ms)) (sym (some_is s k same)) (range_lacks head k ms around r);
        }
      where
        some_is : (a b : ℕ) → Some a ≡ Some b → a ≡ b
        some_is a b e = cc

    by_test : (is_label_named (Some s) t ≡ true) ⊎ (is_label_named (Some s) t ≡ false) → (is_named (Some s) (levels around) ≡ true → HasRange s (text around)) → HasRange s (text (range head t ms around))
    by_test (inl b) rec = here t h.0 b
    by_test (inr b) rec =
        let m : is_named (Some s) (levels around) ≡ true = sym (named_behind_other (Some s) t (levels around) b) ∙ n in
        longer s (text around) (head ∷ flat ms) (rec m) (lacks_of s (levels around) m (head ∷ flat ms) (range_fresh head t ms around h.0))
named_of (branch arms head ms around) s h n =
    longer s (text around) (flat_arms arms ++ (head ∷ flat ms)) (named_of around s h.1 n) (lacks_of s (levels around) n (flat_arms arms ++ (head ∷ flat ms)) h.0.fresh)

named_not : (z : Unfinished) (s : ℕ) → IsSound z → is_ended z ≡ false → is_named (Some s) (levels z) ≡ false → HasRange s (text z) → ⊥
named_not (ended ms) s h o n p = absurd cc
named_not (body ms) s h o n p = members_end 0 ms h p.front p.head p.rest p.parts s p.names p.unended
named_not (range head t ms around) s h o n p =
    by_place (in_range_or_first s t (text around) head (flat ms) h.0.names_it (members_end (suc (length (levels around))) ms h.0.well) p) (named_not around s h.1 h.0.goes_on (or_right (is_label_named (Some s) t) (is_named (Some s) (levels around)) n))
  where
    by_place : FirstRange s (text around) (head ∷ flat ms) p.rest ⊎ IsTop s t p.rest (flat ms) → (HasRange s (text around) → ⊥) → ⊥
    by_place (inl q) rec = rec q.range
    by_place (inr q) rec = clash (is_label_named (Some s) t) (subst (λ (l : Option ℕ). is_label_named (Some s) l ≡ true) q.same (same_label s)) (or_left (is_label_named (Some s) t) (is_named (Some s) (levels around)) n)
named_not (branch arms head ms around) s h o n p =
    named_not around s h.1 h.0.goes_on n (in_first s (text around) (flat_arms arms ++ (head ∷ flat ms)) (block_open arms head ms around h.0).ends p).range

named_yes : (z : Unfinished) (s : ℕ) → IsSound z → is_ended z ≡ false → HasRange s (text z) → is_named (Some s) (levels z) ≡ true
named_yes z s h o p = by_test (either (is_named (Some s) (levels z)))
  where
    by_test : (is_named (Some s) (levels z) ≡ true) ⊎ (is_named (Some s) (levels z) ≡ false) → is_named (Some s) (levels z) ≡ true
    by_test (inl b) = b
    by_test (inr b) = absurd (named_not z s h o b p)

-- ---- an open DO statement names the label, and something else is open within its range

hidden_named : (l : Option ℕ) (opened : List Level) → is_hidden l opened ≡ true → is_named l opened ≡ true
hidden_named l opened h = by_test (either (is_named l opened))
  where
    by_test : (is_named l opened ≡ true) ⊎ (is_named l opened ≡ false) → is_named l opened ≡ true
    by_test (inl b) = b
    by_test (inr b) = absurd (clash (is_hidden l opened) h (fresh_unhidden l opened b))

-- the innermost thing is a range that another DO statement's label names
not_top : (z : Unfinished) (s : ℕ) → IsSound z → is_ended z ≡ false → is_hidden (Some s) (levels z) ≡ true → InnermostIs (IsDoTo s) (text z) → ⊥
not_top (ended ms) s h o n i = absurd (clash false n refl)
not_top (body ms) s h o n i = absurd (clash false n refl)
not_top (range head t ms around) s h o n i =
    let same : i.head ≡ head = one_innermost (text (range head t ms around)) i.head head i.innermost (range_innermost head t ms around h.0) in
    let is : effect_of head.shape ≡ opens_range (Some s) = subst (IsDoTo s) same i.such in
    let own : t ≡ Some s = range_label t (Some s) (sym h.0.names_it ∙ is) in
    let named : is_label_named (Some s) t ≡ true = subst (λ (l : Option ℕ). is_label_named (Some s) l ≡ true) (sym own) (same_label s) in
    clash (is_hidden (Some s) (levels around)) (sym (hidden_behind_same (Some s) t (levels around) named) ∙ n) (subst (λ (l : Option ℕ). is_hidden l (levels around) ≡ false) own h.0.unhidden)
not_top (branch arms head ms around) s h o n i =
    block_do arms head ms around h.0 (record { head = i.head; innermost = i.innermost; such = record { label = Some s; names = i.such } })

is_top : (z : Unfinished) (s : ℕ) → IsSound z → is_ended z ≡ false → is_named (Some s) (levels z) ≡ true → is_hidden (Some s) (levels z) ≡ false → InnermostIs (IsDoTo s) (text z)
is_top (ended ms) s h o n f = absurd (clash false n refl)
is_top (body ms) s h o n f = absurd (clash false n refl)
is_top (range head t ms around) s h o n f = by_test (either (is_label_named (Some s) t))
  where
    by_test : (is_label_named (Some s) t ≡ true) ⊎ (is_label_named (Some s) t ≡ false) → InnermostIs (IsDoTo s) (text (range head t ms around))
    by_test (inl b) = record { head = head; innermost = range_innermost head t ms around h.0; such = h.0.names_it ∙ ap (λ (l : Option ℕ). opens_range l) (sym (named_is (Some s) t b)) }
    by_test (inr b) = absurd (clash (is_named (Some s) (levels around)) (sym (named_behind_other (Some s) t (levels around) b) ∙ n) (sym (hidden_behind_other (Some s) t (levels around) b) ∙ f))
is_top (branch arms head ms around) s h o n f = absurd (clash (is_named (Some s) (levels around)) n f)

hidden_of : (z : Unfinished) (s : ℕ) → IsSound z → is_ended z ≡ false → is_hidden (Some s) (levels z) ≡ true → HasBlockedRange s (text z)
hidden_of z s h o n = record { range = named_of z s h (hidden_named (Some s) (levels z) n); within = not_top z s h o n }

hidden_not : (z : Unfinished) (s : ℕ) → IsSound z → is_ended z ≡ false → is_hidden (Some s) (levels z) ≡ false → HasBlockedRange s (text z) → ⊥
hidden_not z s h o n p = p.within (is_top z s h o (named_yes z s h o p.range) n)

-- ---- END DO

range_do_of : (head : ItemTree) (s : Option ℕ) (ms : Members) (around : Unfinished) (label : Option ℕ) → IsOpenRange head s ms around → may_close label (in_range s) ≡ true → InnermostIs (IsDoOf label) (text (range head s ms around))
range_do_of head s ms around label r c = record { head = head; innermost = range_innermost head s ms around r; such = record { own = s; names = r.names_it; ended = by s c } }
  where
    by : (s : Option ℕ) → may_close label (in_range s) ≡ true → IsEndedBy label s
    by None c = tt
    by (Some n) c = label_is label n c

range_no_do : (head : ItemTree) (s : Option ℕ) (ms : Members) (around : Unfinished) (label : Option ℕ) → IsOpenRange head s ms around → may_close label (in_range s) ≡ false → InnermostIs (IsDoOf label) (text (range head s ms around)) → ⊥
range_no_do head s ms around label r c i =
    let same : i.head ≡ head = one_innermost (text (range head s ms around)) i.head head i.innermost (range_innermost head s ms around r) in
    let is : IsDoOf label head = subst (IsDoOf label) same i.such in
    let own : is.own ≡ s = range_label is.own s (sym is.names ∙ r.names_it) in
    by s (subst (IsEndedBy label) own is.ended) c
  where
    by : (s : Option ℕ) → IsEndedBy label s → may_close label (in_range s) ≡ false → ⊥
    by None e c = clash true refl c
    by (Some n) e c = clash (is_label_at label n) (subst (λ (l : Option ℕ). is_label_at l n ≡ true) (sym e) (same_label n)) c

body_no_do : (ms : Members) (label : Option ℕ) → IsWell false 0 ms → InnermostIs (IsDoOf label) (flat ms) → ⊥
body_no_do ms label w i = not_in_body (IsDoOf label) ms w i

block_no_do : (arms : Arms) (head : ItemTree) (ms : Members) (around : Unfinished) (label : Option ℕ) → IsOpenBlock arms head ms around → InnermostIs (IsDoOf label) (text (branch arms head ms around)) → ⊥
block_no_do arms head ms around label r i =
    block_do arms head ms around r (record { head = i.head; innermost = i.innermost; such = record { label = i.such.own; names = i.such.names } })

-- two open ranges with the label
two_ranges : (head : ItemTree) (s : ℕ) (ms : Members) (around : Unfinished) → IsOpenRange head (Some s) ms around → IsSound around → is_named (Some s) (levels around) ≡ true → HasTwoRanges s (text (range head (Some s) ms around))
two_ranges head s ms around r h n =
    let o = named_of around s h n in
    record {
      range = longer s (text around) (head ∷ flat ms) o (lacks_of s (levels around) n (head ∷ flat ms) (range_fresh head (Some s) ms around r));
      within = record { front = o.rest; head = head; rest = flat ms; parts = refl; names = r.names_it; unended = range_lacks head s ms around r };
    }

stray_do : (z : Unfinished) (x : ItemTree) → IsSound z → is_ended z ≡ false → effect_of x.shape ≡ closes_range → is_stray_end_do x.label closes_range (levels z) ≡ true → Crosses (text z) x
stray_do (ended ms) x h o e t = absurd cc
stray_do (body ms) x h o e t = ends_none e (body_no_do ms x.label h)
stray_do (range head s ms around) x h o e t = by_close (either (may_close x.label (in_range s)))
  where
    named_too : may_close x.label (in_range s) ≡ true → is_named x.label (levels around) ≡ true
    named_too c = by (may_close x.label (in_range s)) c t
      where
        by : (b : Bool) → b ≡ true → (not b || is_named x.label (levels around)) ≡ true → is_named x.label (levels around) ≡ true
        by true p q = q
        by false p q = absurd (clash false p refl)

    two : (s : Option ℕ) (l : Option ℕ) → x.label ≡ l → IsOpenRange head s ms around → may_close l (in_range s) ≡ true → is_named l (levels around) ≡ true → Crosses (text (range head s ms around)) x
    two s None is r c n = absurd (clash (is_named None (levels around)) n (none_named (levels around)))
    two None (Some l) is r c n = ends_too_early (subst (λ (k : Option ℕ). AtLabel HasBlockedRange k (text (range head None ms around))) (sym is) (hidden_of (range head None ms around) l (r, h.1) refl n))
    two (Some k) (Some l) is r c n =
        let same : Some l ≡ Some k = label_is (Some l) k c in
        ends_two e (subst (λ (j : Option ℕ). AtLabel HasTwoRanges j (text (range head (Some k) ms around))) (sym (is ∙ same)) (two_ranges head k ms around r h.1 (sym (ap (λ (j : Option ℕ). is_named j (levels around)) same) ∙ n)))

    by_close : (may_close x.label (in_range s) ≡ true) ⊎ (may_close x.label (in_range s) ≡ false) → Crosses (text (range head s ms around)) x
    by_close (inl c) = two s x.label refl h.0 c (named_too c)
    by_close (inr c) = ends_none e (range_no_do head s ms around x.label h.0 c)
stray_do (branch arms head ms around) x h o e t = ends_none e (block_no_do arms head ms around x.label h.0)

-- and none of this where it ends one
end_some : (z : Unfinished) (label : Option ℕ) → IsSound z → is_ended z ≡ false → is_stray_end_do label closes_range (levels z) ≡ false → InnermostIs (IsDoOf label) (text z)
end_some (ended ms) label h o t = absurd cc
end_some (body ms) label h o t = absurd (clash true refl t)
end_some (range head s ms around) label h o t = range_do_of head s ms around label h.0 (not_false (may_close label (in_range s)) (or_left (not (may_close label (in_range s))) (is_named label (levels around)) t))
end_some (branch arms head ms around) label h o t = absurd (clash true refl t)

end_two : (z : Unfinished) (label : Option ℕ) → IsSound z → is_ended z ≡ false → is_stray_end_do label closes_range (levels z) ≡ false → AtLabel HasTwoRanges label (text z) → ⊥
end_two z None h o t q = q
end_two (ended ms) (Some l) h o t q = absurd cc
end_two (body ms) (Some l) h o t q = clash true refl t
end_two (branch arms head ms around) (Some l) h o t q = clash true refl t
end_two (range head s ms around) (Some l) h o t q = by_place (in_range_or_first l s (text around) head (flat ms) h.0.names_it ends q.range)
  where
    ends : EndsRanges (flat ms)
    ends = members_end (suc (length (levels around))) ms h.0.well

    by_place : FirstRange l (text around) (head ∷ flat ms) q.range.rest ⊎ IsTop l s q.range.rest (flat ms) → ⊥
    by_place (inl p) = clash (is_named (Some l) (levels around)) (named_yes around l h.1 h.0.goes_on p.range) (or_right (not (may_close (Some l) (in_range s))) (is_named (Some l) (levels around)) t)
    by_place (inr p) =
        let w : HasRange l (flat ms) = subst (HasRange l) p.all q.within in ends w.front w.head w.rest w.parts l w.names w.unended

-- ---- ranges that cross

at_hidden : (z : Unfinished) (l : Option ℕ) → IsSound z → is_ended z ≡ false → is_hidden l (levels z) ≡ true → AtLabel HasBlockedRange l (text z)
at_hidden z None h o n = clash (is_hidden None (levels z)) n (none_hidden (levels z))
at_hidden z (Some s) h o n = hidden_of z s h o n

at_hidden_not : (z : Unfinished) (l : Option ℕ) → IsSound z → is_ended z ≡ false → is_hidden l (levels z) ≡ false → AtLabel HasBlockedRange l (text z) → ⊥
at_hidden_not z None h o n p = p
at_hidden_not z (Some s) h o n p = hidden_not z s h o n p

at_named : (z : Unfinished) (l : Option ℕ) → IsSound z → is_named l (levels z) ≡ true → AtLabel HasRange l (text z)
at_named z None h n = clash (is_named None (levels z)) n (none_named (levels z))
at_named z (Some s) h n = named_of z s h n

at_named_not : (z : Unfinished) (l : Option ℕ) → IsSound z → is_ended z ≡ false → is_named l (levels z) ≡ false → AtLabel HasRange l (text z) → ⊥
at_named_not z None h o n p = p
at_named_not z (Some s) h o n p = named_not z s h o n p

one_of : (a b c d f : Bool) → (a || (b || (c || (d || f)))) ≡ true → (a ≡ true) ⊎ ((b ≡ true) ⊎ ((c ≡ true) ⊎ ((d ≡ true) ⊎ (f ≡ true))))
one_of true b c d f h = inl refl
one_of false true c d f h = inr (inl refl)
one_of false false true d f h = inr (inr (inl refl))
one_of false false false true f h = inr (inr (inr (inl refl)))
one_of false false false false f h = inr (inr (inr (inr h)))

both_true : (a b : Bool) → (a && not b) ≡ true → (a ≡ true) × (b ≡ false)
both_true true true h = absurd cc
both_true true false h = (refl, refl)
both_true false b h = absurd cc

pub crossing_of : (z : Unfinished) (x : ItemTree) → IsSound z → is_ended z ≡ false → is_crossing (levels z) x.label (effect_of x.shape) ≡ true → Crosses (text z) x
crossing_of z x h o t = by_one (one_of (is_hidden x.label (levels z)) (is_named x.label (levels z) && not (may_end e)) (is_hidden (named e) (levels z)) (is_end_in_range e (levels z)) (is_stray_end_do x.label e (levels z)) t)
  where
    e : Effect
    e = effect_of x.shape

    by_one : (is_hidden x.label (levels z) ≡ true)
        ⊎ (((is_named x.label (levels z) && not (may_end (effect_of x.shape))) ≡ true) ⊎ ((is_hidden (named (effect_of x.shape)) (levels z) ≡ true) ⊎ ((is_end_in_range (effect_of x.shape) (levels z) ≡ true) ⊎ (is_stray_end_do x.label (effect_of x.shape) (levels z) ≡ true))))
        → Crosses (text z) x
    by_one (inl a) = ends_too_early (at_hidden z x.label h o a)
    by_one (inr (inl b)) = let p = both_true (is_named x.label (levels z)) (may_end (effect_of x.shape)) b in may_not_end (at_named z x.label h p.0) p.1
    by_one (inr (inr (inl c))) = names_too_late (at_hidden z (named (effect_of x.shape)) h o c)
    by_one (inr (inr (inr (inl d)))) = let p = end_of z (effect_of x.shape) h d in ends_in_range p.0 p.1
    by_one (inr (inr (inr (inr f)))) = by_effect (effect_of x.shape) refl f
      where
        by_effect : (d : Effect) → effect_of x.shape ≡ d → is_stray_end_do x.label d (levels z) ≡ true → Crosses (text z) x
        by_effect closes_range e f = stray_do z x h o e f
        by_effect (opens_range s) e f = absurd (clash false f refl)
        by_effect opens_block e f = absurd (clash false f refl)
        by_effect opens_arm e f = absurd (clash false f refl)
        by_effect closes_block e f = absurd (clash false f refl)
        by_effect closes_unit e f = absurd (clash false f refl)
        by_effect (stands may) e f = absurd (clash false f refl)

pub crossing_not : (z : Unfinished) (x : ItemTree) → IsSound z → is_ended z ≡ false → is_crossing (levels z) x.label (effect_of x.shape) ≡ false → Crosses (text z) x → ⊥
crossing_not z x h o t p = by_case p
  where
    a : Bool
    a = is_hidden x.label (levels z)

    b : Bool
    b = is_named x.label (levels z) && not (may_end (effect_of x.shape))

    c : Bool
    c = is_hidden (named (effect_of x.shape)) (levels z)

    d : Bool
    d = is_end_in_range (effect_of x.shape) (levels z)

    f5 : Bool
    f5 = is_stray_end_do x.label (effect_of x.shape) (levels z)

    all_but : f5 ≡ false
    all_but = or_right d f5 (or_right c (d || f5) (or_right b (c || (d || f5)) (or_right a (b || (c || (d || f5))) t)))

    not_stray : effect_of x.shape ≡ closes_range → is_stray_end_do x.label closes_range (levels z) ≡ false
    not_stray e = ap (λ (g : Effect). is_stray_end_do x.label g (levels z)) (sym e) ∙ all_but

    by_case : Crosses (text z) x → ⊥
    by_case (ends_too_early q) = at_hidden_not z x.label h o (or_left a (b || (c || (d || f5))) t) q
    by_case (may_not_end q f) = at_named_not z x.label h o (and_not (is_named x.label (levels z)) (may_end (effect_of x.shape)) f (or_left b (c || (d || f5)) (or_right a (b || (c || (d || f5))) t))) q
    by_case (names_too_late q) = at_hidden_not z (named (effect_of x.shape)) h o (or_left c (d || f5) (or_right b (c || (d || f5)) (or_right a (b || (c || (d || f5))) t))) q
    by_case (ends_in_range e i) =
        end_not z h o (ap (λ (f : Effect). is_end_in_range f (levels z)) (sym e) ∙ or_left d f5 (or_right c (d || f5) (or_right b (c || (d || f5)) (or_right a (b || (c || (d || f5))) t)))) i
    by_case (ends_none e q) = q (end_some z x.label h o (not_stray e))
    by_case (ends_two e q) = end_two z x.label h o (not_stray e) q

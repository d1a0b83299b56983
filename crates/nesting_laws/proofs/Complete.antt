-- What nests as a program unit is read as it.
use Rattle.std.proofs.Common.{◌≡◌, ℕ, suc, ◌<◌, inl, inr, Bool, true, false, List, [], ◌∷◌, ◌++◌, length, leb, Option, Some, None, Result, Ok, refl, sym, ap, subst, ◌∙◌, arith, append_assoc}
use Rattle.std.specs.Prelude.{◌||◌, ◌&&◌, not, ◌⊎◌}
use Rattle.meaning.specs.LabelRules.{is_label_at}
use Rattle.std.specs.List.{AllByRecursion}
use Rattle.std.proofs.lemmas.List.{append-nil}
use Rattle.std.proofs.lemmas.List.Folds.{list_any-append}
use Rattle.std.proofs.lemmas.Bool.{leb-true}
use Rattle.meaning.specs.declared.refusal.Broken.{Broken}
use Rattle.meaning.specs.Syntax.{ItemTree}
use Rattle.meaning.specs.Trees.{Members, none, plain, loop, block, Arms, no_arms, arm, Nested, flat, flat_arms, flatten}
use Rattle.meaning.specs.Nesting.{Unfinished, ended, body, range, branch, Level, in_range, Effect, opens_range, closes_range, opens_block, opens_arm, closes_block, closes_unit, stands, effect_of, start, levels, is_ended, is_else, is_named, is_hidden, is_end, is_end_do, is_label_named, may_close, ends_with_end_do, IsRangeAt, IsEnded, IsEndDo, AreArms, joined, joined_arms, with_arm, IsRangeOf, IsPlain, IsWell, AreFurther, IsProgram, NestsAs, add, past_by, innermost, missing_end, nest}
use Rattle.nesting_laws.proofs.Joined.{joined_none, flat_joined, arms_joined, alone_of}
use Rattle.nesting_laws.proofs.Names.{IsFresh, true_false, none_named, hidden_behind_same, hidden_behind_other, named_behind_other, none_hidden, same_label, label_is, all_left, all_right, fresh_unhidden}
use Rattle.nesting_laws.proofs.Clear.{MayClose, IsClear, IsClearOf}
use Rattle.nesting_laws.proofs.Sound.{add_closing}
use Rattle.nesting_laws.proofs.Passed.{past_is, fresh_of, no_else, any_end}
use Rattle.nesting_laws.proofs.Ordered.{unbroken_is, in_order_is}
use Rattle.nesting_laws.proofs.Fits.{Fits, last_label, before_closes, fits_left, fits_right, last_fresh, last_label_push, last_label_append, fits_body, last_closes, fits_range, before_last, last_end_fresh, fits_fresh, fresh_fits}
use Rattle.nesting_laws.proofs.Goes.{Goes, goes_one, goes_both, add_fresh, add_levels, add_goes_on, add_nothing, add_add}
use Rattle.nesting_laws.proofs.Read.{read_is}

-- what a list of members does behind any statements that let it stand there
abbrev pub GoesOn : Members → Type 0
GoesOn ms = (z : Unfinished) → is_ended z ≡ false → IsWell false (length (levels z)) ms → Fits (levels z) (flat ms) → Goes z (flat ms) (add (last_label (flat ms)) ms z)

-- one member and then more
followed : (m ms : Members) (x : ItemTree) (xs : List ItemTree) (y : ItemTree) (ys : List ItemTree) (z : Unfinished) → is_ended z ≡ false → flat m ≡ x ∷ xs → flat ms ≡ y ∷ ys
    → Goes z (flat m) (add (last_label (flat m)) m z) → GoesOn ms → IsWell false (length (levels z)) ms → Fits (levels z) (flat m ++ flat ms)
    → Goes z (flat m ++ flat ms) (add (last_label (flat m ++ flat ms)) (joined m ms) z)
followed m ms x xs y ys z o e f first rest w fits =
    let z1 = add None m z in
    let fresh : is_named (last_label (flat m)) (levels z) ≡ false = rw e (last_fresh (levels z) x xs y ys (rw (e, f) at fits)) in
    let here : Goes z (flat m) z1 = subst (Goes z (flat m)) (add_fresh z (last_label (flat m)) m fresh) first in
    let well : IsWell false (length (levels z1)) ms = subst (λ (opened : List Level). IsWell false (length opened) ms) (sym (add_levels z m)) w in
    let fit : Fits (levels z1) (flat ms) = subst (λ (opened : List Level). Fits opened (flat ms)) (sym (add_levels z m)) (fits_right (levels z) (flat m) (flat ms) fits) in
    let there : Goes z1 (flat ms) (add (last_label (flat ms)) ms z1) = rest z1 (add_goes_on z m ∙ o) well fit in
    let label : last_label (flat ms) ≡ last_label (flat m ++ flat ms) = rw f (sym (last_label_append (flat m) y ys)) in
    let whole : add (last_label (flat ms)) ms z1 ≡ add (last_label (flat m ++ flat ms)) (joined m ms) z = add_add z (last_label (flat ms)) m ms ∙ ap (λ l. add l (joined m ms) z) label in
    subst (Goes z (flat m ++ flat ms)) whole (goes_both z (flat m) (flat ms) z1 (add (last_label (flat ms)) ms z1) here there)

-- one member and then any
followed_any : (m ms : Members) (x : ItemTree) (xs : List ItemTree) (z : Unfinished) → is_ended z ≡ false → flat m ≡ x ∷ xs
    → Goes z (flat m) (add (last_label (flat m)) m z) → GoesOn ms → IsWell false (length (levels z)) ms → Fits (levels z) (flat m ++ flat ms)
    → Goes z (flat m ++ flat ms) (add (last_label (flat m ++ flat ms)) (joined m ms) z)
followed_any m none x xs z o e first rest w fits =
    let same : Goes z (flat m) (add (last_label (flat m)) (joined m none) z) = rw (joined_none m) first in
    subst (λ (ys : List ItemTree). Goes z ys (add (last_label ys) (joined m none) z)) (sym (append-nil (flat m))) same
followed_any m (plain y ms) x xs z o e first rest w fits = followed m (plain y ms) x xs y (flat ms) z o e refl first rest w fits
followed_any m (loop y r ms) x xs z o e first rest w fits = followed m (loop y r ms) x xs y (flat r ++ flat ms) z o e refl first rest w fits
followed_any m (block no_arms y ms) x xs z o e first rest w fits = followed m (block no_arms y ms) x xs y (flat ms) z o e refl first rest w fits
followed_any m (block (arm h r arms) y ms) x xs z o e first rest w fits =
    followed m (block (arm h r arms) y ms) x xs h ((flat r ++ flat_arms arms) ++ (y ∷ flat ms)) z o e refl first rest w fits

-- ---- one statement

clear_as : (z : Unfinished) (x : ItemTree) (e : Effect) → effect_of x.shape ≡ e → IsClear z x.label e → IsClearOf z x
clear_as z x e f k = subst (IsClear z x.label) (sym f) k

closes_as : (opened : List Level) (x : ItemTree) (e : Effect) → effect_of x.shape ≡ e → MayClose opened x.label (effect_of x.shape) → MayClose opened x.label e
closes_as opened x e f c = subst (MayClose opened x.label) f c

fresh_closes : (opened : List Level) (label : Option ℕ) (e : Effect) → is_named label opened ≡ false → MayClose opened label e
fresh_closes opened label e h = record { unhidden = fresh_unhidden label opened h; terminal = rw h refl }

goes_as : (z : Unfinished) (x : ItemTree) (e : Effect) → effect_of x.shape ≡ e → IsClear z x.label e → Goes z (x ∷ []) (past_by z x e)
goes_as z x e f k = goes_one z x (past_by z x e) (clear_as z x e f k) (past_is z x e f)

-- a statement that stands by itself
goes_plain : (x : ItemTree) (z : Unfinished) → is_ended z ≡ false → IsPlain x.shape → MayClose (levels z) x.label (effect_of x.shape) → Goes z (x ∷ []) (add x.label (plain x none) z)
goes_plain x z o p c = goes_as z x (stands p.may) p.alone (record {
  goes_on = o;
  placed = refl;
  closes = closes_as (levels z) x (stands p.may) p.alone c;
  uncrossed = none_hidden (levels z);
  outside = refl;
  ended_do = refl;
  shallow = refl;
})

room_shallow : (n : ℕ) → n < 32 → leb 32 n ≡ false
room_shallow n h = by_test (leb 32 n) refl
  where
    by_test : (b : Bool) → leb 32 n ≡ b → b ≡ false
    by_test true e = absurd (let g = leb-true 32 n e in omega arith)
    by_test false e = refl

-- ---- a DO statement and its range

clear_do : (z : Unfinished) (label s : Option ℕ) → is_ended z ≡ false → MayClose (levels z) label (opens_range s) → is_hidden s (levels z) ≡ false → length (levels z) < 32 → IsClear z label (opens_range s)
clear_do z label s o c u room = record { goes_on = o; placed = refl; closes = c; uncrossed = u; outside = refl; ended_do = refl; shallow = room_shallow (length (levels z)) room }

add_range : (s : ℕ) (r : Members) (h : ItemTree) (z : Unfinished) → add (Some s) r (range h (Some s) none z) ≡ add (Some s) (loop h r none) z
add_range s r h z = add_closing (Some s) r h (Some s) none z (same_label s)

last_label_cons : (h : ItemTree) (xs front : List ItemTree) (x : ItemTree) → xs ≡ front ++ x ∷ [] → last_label xs ≡ last_label (h ∷ xs)
last_label_cons h [] [] x e = absurd cc
last_label_cons h [] (f ∷ fs) x e = absurd cc
last_label_cons h (y ∷ ys) front x e = refl

-- a range that ends with END DO, without it
pub record EndsSplit (n : ℕ) (r : Members) : Type 0 where
  pub front : Members
  pub last : ItemTree
  pub parts : r ≡ joined front (plain last none)
  pub well : IsWell false n front
  pub closes : effect_of last.shape ≡ closes_range

closes_as_do : (r : Bool) (x : ItemTree) (ms : Members) → IsPlain x.shape ⊎ IsEndDo r x.shape ms → is_end_do (effect_of x.shape) ≡ true → effect_of x.shape ≡ closes_range
closes_as_do r x ms (inl p) e = absurd (true_false (sym e ∙ ap is_end_do p.alone))
closes_as_do r x ms (inr d) e = d.closes

plain_before : (r : Bool) (x y : ItemTree) (ms : Members) → IsPlain x.shape ⊎ IsEndDo r x.shape (plain y ms) → IsPlain x.shape
plain_before r x y ms (inl p) = p
plain_before r x y ms (inr d) = absurd (let e = d.last in cc)

loop_before : (r : Bool) (x y : ItemTree) (q ms : Members) → IsPlain x.shape ⊎ IsEndDo r x.shape (loop y q ms) → IsPlain x.shape
loop_before r x y q ms (inl p) = p
loop_before r x y q ms (inr d) = absurd (let e = d.last in cc)

block_before : (r : Bool) (x y : ItemTree) (arms : Arms) (ms : Members) → IsPlain x.shape ⊎ IsEndDo r x.shape (block arms y ms) → IsPlain x.shape
block_before r x y arms ms (inl p) = p
block_before r x y arms ms (inr d) = absurd (let e = d.last in cc)

one_before : (n : ℕ) (x : ItemTree) (ms : Members) → IsPlain x.shape → EndsSplit n ms → EndsSplit n (plain x ms)
one_before n x ms p k = record { front = plain x k.front; last = k.last; parts = ap (plain x) k.parts; well = (inl p, k.well); closes = k.closes }

pub split_end : (n : ℕ) (r : Members) → IsWell true n r → ends_with_end_do r ≡ true → EndsSplit n r
split_end n none w e = absurd (true_false (sym e))
split_end n (plain x none) w e = record { front = none; last = x; parts = refl; well = tt; closes = closes_as_do true x none w.0 e }
split_end n (plain x (plain y ms)) w e = one_before n x (plain y ms) (plain_before true x y ms w.0) (split_end n (plain y ms) w.1 e)
split_end n (plain x (loop y q ms)) w e = one_before n x (loop y q ms) (loop_before true x y q ms w.0) (split_end n (loop y q ms) w.1 e)
split_end n (plain x (block arms y ms)) w e = one_before n x (block arms y ms) (block_before true x y arms ms w.0) (split_end n (block arms y ms) w.1 e)
split_end n (loop y q ms) w e =
    let k = split_end n ms w.3 e in record { front = loop y q k.front; last = k.last; parts = ap (loop y q) k.parts; well = (w.0, w.1, w.2, k.well); closes = k.closes }
split_end n (block arms y ms) w e =
    let k = split_end n ms w.3 e in record { front = block arms y k.front; last = k.last; parts = ap (block arms y) k.parts; well = (w.0, w.1, w.2, k.well); closes = k.closes }

-- a range that doesn't end with END DO
well_plain : (x : ItemTree) (ms : Members) → IsPlain x.shape ⊎ IsEndDo true x.shape ms → is_end_do (effect_of x.shape) ≡ false → IsPlain x.shape
well_plain x ms (inl p) e = p
well_plain x ms (inr d) e = absurd (true_false (sym (ap is_end_do d.closes) ∙ e))

well_unranged : (n : ℕ) (r : Members) → IsWell true n r → ends_with_end_do r ≡ false → IsWell false n r
well_unranged n none w e = tt
well_unranged n (plain x none) w e = (inl (well_plain x none w.0 e), tt)
well_unranged n (plain x (plain y ms)) w e = (inl (plain_before true x y ms w.0), well_unranged n (plain y ms) w.1 e)
well_unranged n (plain x (loop y q ms)) w e = (inl (loop_before true x y q ms w.0), well_unranged n (loop y q ms) w.1 e)
well_unranged n (plain x (block arms y ms)) w e = (inl (block_before true x y arms ms w.0), well_unranged n (block arms y ms) w.1 e)
well_unranged n (loop y q ms) w e = (w.0, w.1, w.2, well_unranged n ms w.3 e)
well_unranged n (block arms y ms) w e = (w.0, w.1, w.2, well_unranged n ms w.3 e)

-- what the members of a range do: all of them, and those before END DO
record RangeGoes (r : Members) : Type 0 where
  whole : GoesOn r
  front : (f : Members) (x : ItemTree) → r ≡ joined f (plain x none) → GoesOn f

-- ended by its label
goes_labelled : (s : ℕ) (h : ItemTree) (r : Members) (z : Unfinished) → is_ended z ≡ false → length (levels z) < 32 → effect_of h.shape ≡ opens_range (Some s) → (k : IsRangeAt s r) → ends_with_end_do r ≡ false
    → IsWell true (suc (length (levels z))) r → GoesOn r → Fits (levels z) (h ∷ flat r) → Goes z (h ∷ flat r) (add (last_label (h ∷ flat r)) (loop h r none) z)
goes_labelled s h r z o room names k plainly w rec fits =
    let opened = levels z in
    let z1 = range h (Some s) none z in
    let last_one = k.ends.last in
    let parts = k.ends.parts in
    let label : last_label (flat r) ≡ Some s = ap last_label parts ∙ last_label_push k.ends.front last_one ∙ label_is last_one.label s k.ends.labelled in
    let in_range_of : Fits opened (k.ends.front ++ last_one ∷ []) = subst (Fits opened) parts fits.1 in
    let last : MayClose opened last_one.label (effect_of last_one.shape) = last_closes opened k.ends.front last_one [] (rw (append-nil (k.ends.front ++ last_one ∷ [])) in_range_of) in
    let shown : is_hidden (Some s) opened ≡ false = sym (ap (λ l. is_hidden l opened) (label_is last_one.label s k.ends.labelled)) ∙ last.unhidden in
    let clear : IsClear z h.label (opens_range (Some s)) = clear_do z h.label (Some s) o (closes_as opened h (opens_range (Some s)) names (before_closes opened h (flat r) fits.0)) shown room in
    let opens : Goes z (h ∷ []) z1 = goes_as z h (opens_range (Some s)) names clear in
    let fit : Fits (in_range (Some s) ∷ opened) (flat r) = subst (Fits (in_range (Some s) ∷ opened)) (sym parts) (fits_range s opened k.ends.front last_one k.ends.unlabelled k.ends.labelled k.ends.terminal (k.one ∙ plainly) in_range_of) in
    let inside : Goes z1 (flat r) (add (last_label (flat r)) r z1) = rec z1 refl (well_unranged (suc (length opened)) r w plainly) fit in
    let same = last_label_cons h (flat r) k.ends.front last_one parts in
    let closed : add (last_label (flat r)) r z1 ≡ add (last_label (h ∷ flat r)) (loop h r none) z = ap (λ l. add l r z1) label ∙ add_range s r h z ∙ ap (λ l. add l (loop h r none) z) (sym label ∙ same) in
    subst (Goes z (h ∷ flat r)) closed (goes_both z (h ∷ []) (flat r) z1 (add (last_label (flat r)) r z1) opens inside)

-- ended by END DO: no statement before it has the label that the DO statement names, and it has this
record OwnDo (s : Option ℕ) (front : List ItemTree) (x : ItemTree) : Type 0 where
  others : AllByRecursion (λ y. is_label_named y.label s ≡ false) front
  closes : may_close x.label (in_range s) ≡ true

fresh_in : (s : Option ℕ) (opened : List Level) (xs : List ItemTree) → AllByRecursion (IsFresh opened) xs → AllByRecursion (λ y. is_label_named y.label s ≡ false) xs → AllByRecursion (IsFresh (in_range s ∷ opened)) xs
fresh_in s opened [] f g = tt
fresh_in s opened (x ∷ xs) f g = (named_behind_other x.label s opened g.0 ∙ f.0, fresh_in s opened xs f.1 g.1)

not_over : (b : Bool) → (b && not true) ≡ false
not_over true = refl
not_over false = refl

clear_end_do : (h : ItemTree) (s : Option ℕ) (ms : Members) (z : Unfinished) (label : Option ℕ) → may_close label (in_range s) ≡ true → is_named label (levels z) ≡ false → IsClear (range h s ms z) label closes_range
clear_end_do h s ms z label closes fresh = record {
  goes_on = refl;
  placed = refl;
  closes = record { unhidden = unhidden (is_label_named label s) refl; terminal = not_over (is_named label (in_range s ∷ levels z)) };
  uncrossed = none_hidden (in_range s ∷ levels z);
  outside = refl;
  ended_do = rw (closes, fresh) refl;
  shallow = refl;
}
  where
    unhidden : (b : Bool) → is_label_named label s ≡ b → is_hidden label (in_range s ∷ levels z) ≡ false
    unhidden true e = hidden_behind_same label s (levels z) e ∙ fresh_unhidden label (levels z) fresh
    unhidden false e = hidden_behind_other label s (levels z) e ∙ fresh

last_fresh_in : (opened : List Level) (xs : List ItemTree) → AllByRecursion (IsFresh opened) xs → is_named (last_label xs) opened ≡ false
last_fresh_in opened [] f = none_named opened
last_fresh_in opened (x ∷ []) f = f.0
last_fresh_in opened (x ∷ (y ∷ ys)) f = last_fresh_in opened (y ∷ ys) f.1

pub stays_open : (h : ItemTree) (s : Option ℕ) (f : Members) (z : Unfinished) → add None f (range h s none z) ≡ range h s f z
stays_open h None f z = refl
stays_open h (Some s) f z = refl

goes_done : (s : Option ℕ) (h : ItemTree) (f : Members) (x : ItemTree) (z : Unfinished) → is_ended z ≡ false → length (levels z) < 32 → effect_of h.shape ≡ opens_range s → is_hidden s (levels z) ≡ false → OwnDo s (flat f) x
    → effect_of x.shape ≡ closes_range → IsWell false (suc (length (levels z))) f → GoesOn f → Fits (levels z) (h ∷ (flat f ++ x ∷ []))
    → Goes z (h ∷ (flat f ++ x ∷ [])) (add None (loop h (joined f (plain x none)) none) z)
goes_done s h f x z o room names shown own closes w rec fits =
    let opened = levels z in
    let z1 = range h s none z in
    let z2 = range h s f z in
    let whole : Fits opened ((flat f ++ x ∷ []) ++ []) = subst (Fits opened) (sym (append-nil (flat f ++ x ∷ []))) fits.1 in
    let all : AllByRecursion (IsFresh (in_range s ∷ opened)) (flat f) = fresh_in s opened (flat f) (before_last opened (flat f) x [] whole) own.others in
    let last : IsFresh opened x = last_end_fresh opened (flat f) x [] whole (ap is_end_do closes) in
    let opens : Goes z (h ∷ []) z1 = goes_as z h (opens_range s) names (clear_do z h.label s o (closes_as opened h (opens_range s) names (before_closes opened h (flat f ++ x ∷ []) fits.0)) shown room) in
    let inside : Goes z1 (flat f) z2 = subst (Goes z1 (flat f)) (add_fresh z1 (last_label (flat f)) f (last_fresh_in (in_range s ∷ opened) (flat f) all) ∙ stays_open h s f z) (rec z1 refl w (fresh_fits (in_range s ∷ opened) (flat f) all)) in
    let done : Goes z2 (x ∷ []) (add None (loop h (joined f (plain x none)) none) z) = goes_as z2 x closes_range closes (clear_end_do h s f z x.label own.closes last) in
    goes_both z (h ∷ []) (flat f ++ x ∷ []) z1 (add None (loop h (joined f (plain x none)) none) z) opens (goes_both z1 (flat f) (x ∷ []) z2 (add None (loop h (joined f (plain x none)) none) z) inside done)

-- the same list with its last statement apart
same_push : (xs ys : List ItemTree) (x y : ItemTree) → xs ++ x ∷ [] ≡ ys ++ y ∷ [] → (xs ≡ ys) × (x ≡ y)
same_push [] [] x y e = (refl, let k : x ≡ y = cc in k)
same_push [] (b ∷ []) x y e = absurd (let k : [] ≡ y ∷ [] = tails x b [] (y ∷ []) e in cc)
  where
    tails : (a c : ItemTree) (p q : List ItemTree) → a ∷ p ≡ c ∷ q → p ≡ q
    tails a c p q h = cc
same_push [] (b ∷ (c ∷ ys)) x y e = absurd (let k : [] ≡ (c ∷ ys) ++ y ∷ [] = tails x b [] ((c ∷ ys) ++ y ∷ []) e in cc)
  where
    tails : (a c : ItemTree) (p q : List ItemTree) → a ∷ p ≡ c ∷ q → p ≡ q
    tails a c p q h = cc
same_push (a ∷ []) [] x y e = absurd (let k : x ∷ [] ≡ [] = tails a y (x ∷ []) [] e in cc)
  where
    tails : (a c : ItemTree) (p q : List ItemTree) → a ∷ p ≡ c ∷ q → p ≡ q
    tails a c p q h = cc
same_push (a ∷ (b ∷ xs)) [] x y e = absurd (let k : (b ∷ xs) ++ x ∷ [] ≡ [] = tails a y ((b ∷ xs) ++ x ∷ []) [] e in cc)
  where
    tails : (a c : ItemTree) (p q : List ItemTree) → a ∷ p ≡ c ∷ q → p ≡ q
    tails a c p q h = cc
same_push (a ∷ xs) (b ∷ ys) x y e =
    let h : a ≡ b = heads e in
    let k = same_push xs ys x y (tails e) in
    (rw (h, k.0) refl, k.1)
  where
    heads : a ∷ (xs ++ x ∷ []) ≡ b ∷ (ys ++ y ∷ []) → a ≡ b
    heads h = cc

    tails : a ∷ (xs ++ x ∷ []) ≡ b ∷ (ys ++ y ∷ []) → xs ++ x ∷ [] ≡ ys ++ y ∷ []
    tails h = cc

all_named_none : (xs : List ItemTree) → AllByRecursion (λ y. is_label_named y.label None ≡ false) xs
all_named_none [] = tt
all_named_none (x ∷ xs) = (refl, all_named_none xs)

own_do : (s : Option ℕ) (r f : Members) (x : ItemTree) → r ≡ joined f (plain x none) → IsEnded s r → OwnDo s (flat f) x
own_do None r f x e k = record { others = all_named_none (flat f); closes = refl }
own_do (Some n) r f x e k =
    let same = same_push k.ends.front (flat f) k.ends.last x (sym k.ends.parts ∙ ap flat e ∙ flat_joined f (plain x none)) in
    record { others = subst (AllByRecursion (λ y. is_label_named y.label (Some n) ≡ false)) same.0 k.ends.unlabelled; closes = subst (λ (y : ItemTree). is_label_at y.label n ≡ true) same.1 k.ends.labelled }

-- what the DO statement names isn't hidden: END DO, which has the label, is fresh around the range
shown_do : (s : Option ℕ) (opened : List Level) (x : ItemTree) → may_close x.label (in_range s) ≡ true → IsFresh opened x → is_hidden s opened ≡ false
shown_do None opened x c f = none_hidden opened
shown_do (Some n) opened x c f = subst (λ (l : Option ℕ). is_hidden l opened ≡ false) (label_is x.label n c) (fresh_unhidden x.label opened f)

goes_loop : (h : ItemTree) (r : Members) (z : Unfinished) → is_ended z ≡ false → length (levels z) < 32 → (k : IsRangeOf h.shape r) → IsWell true (suc (length (levels z))) r → RangeGoes r
    → Fits (levels z) (h ∷ flat r) → Goes z (h ∷ flat r) (add (last_label (h ∷ flat r)) (loop h r none) z)
goes_loop h r z o room k w rec fits = by_end (ends_with_end_do r) refl
  where
    by_label : (s : Option ℕ) → effect_of h.shape ≡ opens_range s → IsEnded s r → ends_with_end_do r ≡ false → Goes z (h ∷ flat r) (add (last_label (h ∷ flat r)) (loop h r none) z)
    by_label None names ends e = absurd (true_false (sym ends ∙ e))
    by_label (Some s) names ends e = goes_labelled s h r z o room names ends e w rec.whole fits

    by_end : (b : Bool) → ends_with_end_do r ≡ b → Goes z (h ∷ flat r) (add (last_label (h ∷ flat r)) (loop h r none) z)
    by_end false e = by_label k.label k.names k.ends e
    by_end true e =
        let d = split_end (suc (length (levels z))) r w e in
        let parts : flat r ≡ flat d.front ++ d.last ∷ [] = ap flat d.parts ∙ flat_joined d.front (plain d.last none) in
        let own = own_do k.label r d.front d.last d.parts k.ends in
        let fit : Fits (levels z) (h ∷ (flat d.front ++ d.last ∷ [])) = subst (λ (xs : List ItemTree). Fits (levels z) (h ∷ xs)) parts fits in
        let fresh : IsFresh (levels z) d.last = last_end_fresh (levels z) (flat d.front) d.last [] (subst (Fits (levels z)) (sym (append-nil (flat d.front ++ d.last ∷ []))) fit.1) (ap is_end_do d.closes) in
        let done = goes_done k.label h d.front d.last z o room k.names (shown_do k.label (levels z) d.last own.closes fresh) own d.closes d.well (rec.front d.front d.last d.parts) fit in
        let label : last_label (h ∷ flat r) ≡ d.last.label = sym (last_label_cons h (flat r) (flat d.front) d.last parts) ∙ ap last_label parts ∙ last_label_push (flat d.front) d.last in
        let unnamed : is_named (last_label (h ∷ flat r)) (levels z) ≡ false = ap (λ l. is_named l (levels z)) label ∙ fresh in
        let here : Goes z (h ∷ flat r) (add None (loop h r none) z) = subst (λ (xs : List ItemTree). Goes z (h ∷ xs) (add None (loop h r none) z)) (sym parts) (subst (λ (q : Members). Goes z (h ∷ (flat d.front ++ d.last ∷ [])) (add None (loop h q none) z)) (sym d.parts) done) in
        subst (Goes z (h ∷ flat r)) (sym (add_fresh z (last_label (h ∷ flat r)) (loop h r none) unnamed)) here

-- ---- a block IF and its arms

-- further arms and END IF, where no open DO statement names a label of theirs
abbrev pub GoesOnArms : Arms → Type 0
GoesOnArms more =
    (arms : Arms) (h : ItemTree) (r : Members) (z : Unfinished) (x : ItemTree) → effect_of x.shape ≡ closes_block → AreFurther (length (levels z)) (is_else h.shape) more
    → AllByRecursion (IsFresh (levels z)) (flat_arms more ++ x ∷ []) → Goes (branch arms h r z) (flat_arms more ++ x ∷ []) (add x.label (block (joined_arms arms (arm h r more)) x none) z)

-- in a block IF a statement without effect on ranges
clear_in_block : (arms : Arms) (h : ItemTree) (r : Members) (z : Unfinished) (label : Option ℕ) → is_named label (levels z) ≡ false → is_else h.shape ≡ false
    → IsClear (branch arms h r z) label opens_arm
clear_in_block arms h r z label fresh over =
    record { goes_on = refl; placed = over; closes = record { unhidden = fresh; terminal = rw fresh refl }; uncrossed = none_hidden (levels (branch arms h r z)); outside = refl; ended_do = refl; shallow = refl }

clear_closing : (arms : Arms) (h : ItemTree) (r : Members) (z : Unfinished) (label : Option ℕ) → is_named label (levels z) ≡ false → IsClear (branch arms h r z) label closes_block
clear_closing arms h r z label fresh =
    record { goes_on = refl; placed = refl; closes = record { unhidden = fresh; terminal = rw fresh refl }; uncrossed = none_hidden (levels (branch arms h r z)); outside = refl; ended_do = refl; shallow = refl }

goes_no_arms : GoesOnArms no_arms
goes_no_arms arms h r z x e f fresh = goes_as (branch arms h r z) x closes_block e (clear_closing arms h r z x.label fresh.0)

-- the members of an arm, and what stands behind them
goes_in_arm : (arms : Arms) (h : ItemTree) (r : Members) (z : Unfinished) (x : ItemTree) (more : Arms) → GoesOn r → GoesOnArms more → IsWell false (suc (length (levels z))) r
    → effect_of x.shape ≡ closes_block → AreFurther (length (levels z)) (is_else h.shape) more → AllByRecursion (IsFresh (levels z)) ((flat r ++ flat_arms more) ++ x ∷ [])
    → Goes (branch arms h none z) ((flat r ++ flat_arms more) ++ x ∷ []) (add x.label (block (joined_arms arms (arm h r more)) x none) z)
goes_in_arm arms h r z x more inner outer w e f fresh =
    let opened = levels z in
    let z1 = branch arms h none z in
    let z2 = branch arms h r z in
    let last = add x.label (block (joined_arms arms (arm h r more)) x none) z in
    let same : (flat r ++ flat_arms more) ++ x ∷ [] ≡ flat r ++ (flat_arms more ++ x ∷ []) = append_assoc (flat r) (flat_arms more) (x ∷ []) in
    let all : AllByRecursion (IsFresh opened) (flat r ++ (flat_arms more ++ x ∷ [])) = subst (AllByRecursion (IsFresh opened)) same fresh in
    let inside : Goes z1 (flat r) z2 = inner z1 refl w (fresh_fits (levels z1) (flat r) (all_left (IsFresh opened) (flat r) (flat_arms more ++ x ∷ []) all)) in
    let behind_it : Goes z2 (flat_arms more ++ x ∷ []) last = outer arms h r z x e f (all_right (IsFresh opened) (flat r) (flat_arms more ++ x ∷ []) all) in
    subst (λ (xs : List ItemTree). Goes z1 xs last) (sym same) (goes_both z1 (flat r) (flat_arms more ++ x ∷ []) z2 last inside behind_it)

goes_arm : (k : ItemTree) (n : Members) (more : Arms) → GoesOn n → GoesOnArms more → GoesOnArms (arm k n more)
goes_arm k n more inner outer arms h r z x e f fresh =
    let z1 = branch arms h r z in
    let z2 = branch (with_arm arms h r) k none z in
    let arms_by : Arms → Unfinished = λ all. add x.label (block all x none) z in
    let last = arms_by (joined_arms (with_arm arms h r) (arm k n more)) in
    let opens : Goes z1 (k ∷ []) z2 = goes_as z1 k opens_arm f.1 (clear_in_block arms h r z k.label fresh.0 f.0) in
    let inside : Goes z2 ((flat n ++ flat_arms more) ++ x ∷ []) last = goes_in_arm (with_arm arms h r) k n z x more inner outer f.2 e f.3 fresh.1 in
    let same : last ≡ arms_by (joined_arms arms (arm h r (arm k n more))) = ap arms_by (arms_joined arms (arm h r no_arms) (arm k n more)) in
    subst (Goes z1 (k ∷ ((flat n ++ flat_arms more) ++ x ∷ []))) same (goes_both z1 (k ∷ []) ((flat n ++ flat_arms more) ++ x ∷ []) z2 last opens inside)

clear_if : (z : Unfinished) (label : Option ℕ) → is_ended z ≡ false → is_named label (levels z) ≡ false → length (levels z) < 32 → IsClear z label opens_block
clear_if z label o fresh room =
    record { goes_on = o; placed = refl; closes = fresh_closes (levels z) label opens_block fresh; uncrossed = none_hidden (levels z); outside = refl; ended_do = refl; shallow = room_shallow (length (levels z)) room }

goes_block : (h : ItemTree) (r : Members) (more : Arms) (x : ItemTree) (z : Unfinished) → is_ended z ≡ false → IsWell false (length (levels z)) (block (arm h r more) x none) → GoesOn r → GoesOnArms more
    → Fits (levels z) (flat (block (arm h r more) x none)) → Goes z (flat (block (arm h r more) x none)) (add x.label (block (arm h r more) x none) z)
goes_block h r more x z o w inner outer fits =
    let opened = levels z in
    let arms = flat_arms (arm h r more) in
    let last : MayClose opened x.label (effect_of x.shape) = last_closes opened arms x [] (subst (Fits opened) (sym (append-nil (arms ++ x ∷ []))) fits) in
    let fresh : IsFresh opened x = fresh_of opened x.label closes_block refl (closes_as opened x closes_block w.2 last) in
    let all : AllByRecursion (IsFresh opened) (arms ++ x ∷ []) = fits_fresh opened arms x fresh fits in
    let further : AreFurther (length opened) (is_else h.shape) more = subst (λ (b : Bool). AreFurther (length opened) b more) (sym (no_else h.shape w.1.0)) w.1.2 in
    let z1 = branch no_arms h none z in
    let opens : Goes z (h ∷ []) z1 = goes_as z h opens_block w.1.0 (clear_if z h.label o all.0 w.0) in
    let end = add x.label (block (arm h r more) x none) z in
    let inside : Goes z1 ((flat r ++ flat_arms more) ++ x ∷ []) end = goes_in_arm no_arms h r z x more inner outer w.1.1 w.2 further all.1 in
    goes_both z (h ∷ []) ((flat r ++ flat_arms more) ++ x ∷ []) z1 end opens inside

-- ---- all members

goes_with_loop : (h : ItemTree) (r ms : Members) → RangeGoes r → GoesOn ms → GoesOn (loop h r ms)
goes_with_loop h r ms inner outer z o w fits =
    let one : Goes z (h ∷ flat r) (add (last_label (h ∷ flat r)) (loop h r none) z) = goes_loop h r z o w.0 w.1 w.2 inner (fits_left (levels z) (h ∷ flat r) (flat ms) fits) in
    let nil : flat r ++ [] ≡ flat r = append-nil (flat r) in
    let first : Goes z (flat (loop h r none)) (add (last_label (flat (loop h r none))) (loop h r none) z) = subst (λ (xs : List ItemTree). Goes z (h ∷ xs) (add (last_label (h ∷ xs)) (loop h r none) z)) (sym nil) one in
    let fit : Fits (levels z) (flat (loop h r none) ++ flat ms) = subst (λ (xs : List ItemTree). Fits (levels z) (h ∷ (xs ++ flat ms))) (sym nil) fits in
    let whole : Goes z (flat (loop h r none) ++ flat ms) (add (last_label (flat (loop h r none) ++ flat ms)) (loop h r ms) z) =
    followed_any (loop h r none) ms h (flat r ++ []) z o refl first outer w.3 fit in
    subst (λ (xs : List ItemTree). Goes z (h ∷ (xs ++ flat ms)) (add (last_label (h ∷ (xs ++ flat ms))) (loop h r ms) z)) nil whole

goes_with_block : (h : ItemTree) (r : Members) (more : Arms) (x : ItemTree) (ms : Members) → GoesOn r → GoesOnArms more → GoesOn ms → GoesOn (block (arm h r more) x ms)
goes_with_block h r more x ms inner others outer z o w fits =
    let m = block (arm h r more) x none in
    let arms = flat_arms (arm h r more) in
    let same : flat m ++ flat ms ≡ arms ++ (x ∷ flat ms) = append_assoc arms (x ∷ []) (flat ms) in
    let fit : Fits (levels z) (flat m ++ flat ms) = subst (Fits (levels z)) (sym same) fits in
    let one : Goes z (flat m) (add x.label m z) = goes_block h r more x z o (w.0, w.1, w.2, tt) inner others (fits_left (levels z) (flat m) (flat ms) fit) in
    let first : Goes z (flat m) (add (last_label (flat m)) m z) = subst (λ (l : Option ℕ). Goes z (flat m) (add l m z)) (sym (last_label_push arms x)) one in
    let whole : Goes z (flat m ++ flat ms) (add (last_label (flat m ++ flat ms)) (block (arm h r more) x ms) z) =
    followed_any m ms h ((flat r ++ flat_arms more) ++ x ∷ []) z o refl first outer w.3 fit in
    subst (λ (xs : List ItemTree). Goes z xs (add (last_label xs) (block (arm h r more) x ms) z)) same whole

plain_tail : (x y : ItemTree) (a b : Members) → plain x a ≡ plain y b → a ≡ b
plain_tail x y a b e = cc

loop_tail : (x y : ItemTree) (q p a b : Members) → loop x q a ≡ loop y p b → (q ≡ p) × (a ≡ b)
loop_tail x y q p a b e = (let k : q ≡ p = cc in k, let k : a ≡ b = cc in k)

block_tail : (a b : Arms) (x y : ItemTree) (ms ns : Members) → block a x ms ≡ block b y ns → (a ≡ b) × (ms ≡ ns)
block_tail a b x y ms ns e = (let k : a ≡ b = cc in k, let k : ms ≡ ns = cc in k)

mutual
  pub goes_members : (ms : Members) → GoesOn ms
  goes_members none z o w fits = record { unbroken = tt; reached = sym (add_nothing z) }
  goes_members (plain x ms) z o w fits =
      followed_any (plain x none) ms x [] z o refl (goes_plain x z o (alone_of x ms w.0) (before_closes (levels z) x (flat ms) fits.0)) (goes_members ms) w.1 fits
  goes_members (loop h r ms) z o w fits = goes_with_loop h r ms (record { whole = goes_members r; front = goes_front r }) (goes_members ms) z o w fits
  goes_members (block no_arms x ms) z o w fits = absurd w.1
  goes_members (block (arm h r more) x ms) z o w fits = goes_with_block h r more x ms (goes_members r) (goes_arms more) (goes_members ms) z o w fits

  goes_front : (r f : Members) (x : ItemTree) → r ≡ joined f (plain x none) → GoesOn f
  goes_front r none x e z o w fits = record { unbroken = tt; reached = sym (add_nothing z) }
  goes_front none (plain y f) x e z o w fits = absurd cc
  goes_front none (loop y q f) x e z o w fits = absurd cc
  goes_front none (block arms y f) x e z o w fits = absurd cc
  goes_front (plain y ms) (plain y1 f) x e z o w fits =
      followed_any (plain y1 none) f y1 [] z o refl (goes_plain y1 z o (alone_of y1 f w.0) (before_closes (levels z) y1 (flat f) fits.0)) (goes_front ms f x (plain_tail y y1 ms (joined f (plain x none)) e)) w.1 fits
  goes_front (plain y ms) (loop y1 q f) x e z o w fits = absurd cc
  goes_front (plain y ms) (block arms y1 f) x e z o w fits = absurd cc
  goes_front (loop y q ms) (plain y1 f) x e z o w fits = absurd cc
  goes_front (loop y q ms) (loop y1 q1 f) x e z o w fits =
      let same = loop_tail y y1 q q1 ms (joined f (plain x none)) e in
      goes_with_loop y1 q1 f (subst RangeGoes same.0 (record { whole = goes_members q; front = goes_front q })) (goes_front ms f x same.1) z o w fits
  goes_front (loop y q ms) (block arms y1 f) x e z o w fits = absurd cc
  goes_front (block arms y ms) (plain y1 f) x e z o w fits = absurd cc
  goes_front (block arms y ms) (loop y1 q f) x e z o w fits = absurd cc
  goes_front (block no_arms y ms) (block arms1 y1 f) x e z o w fits =
      let same = block_tail no_arms arms1 y y1 ms (joined f (plain x none)) e in absurd (subst (λ (a : Arms). AreArms (length (levels z)) a) (sym same.0) w.1)
  goes_front (block (arm h r more) y ms) (block arms1 y1 f) x e z o w fits =
      let same = block_tail (arm h r more) arms1 y y1 ms (joined f (plain x none)) e in
      subst (λ (a : Arms). GoesOn (block a y1 f)) same.0 (goes_with_block h r more y1 f (goes_members r) (goes_arms more) (goes_front ms f x same.1)) z o w fits

  goes_arms : (more : Arms) → GoesOnArms more
  goes_arms no_arms arms h r z x e f fresh = goes_no_arms arms h r z x e f fresh
  goes_arms (arm k n more) arms h r z x e f fresh = goes_arm k n more (goes_members n) (goes_arms more) arms h r z x e f fresh

-- ---- a program unit

clear_end : (ms : Members) (label : Option ℕ) → IsClear (body ms) label closes_unit
clear_end ms label = record { goes_on = refl; placed = refl; closes = record { unhidden = refl; terminal = refl }; uncrossed = refl; outside = refl; ended_do = refl; shallow = refl }

pub goes_unit : (t : Nested) → IsProgram t → Goes start (flatten t) (ended t.body)
goes_unit t p =
    let inner : Goes start (flat p.front) (body p.front) = goes_members p.front start refl p.well (fits_body (flat p.front)) in
    let last : Goes (body p.front) (p.last ∷ []) (ended (joined p.front (plain p.last none))) = goes_as (body p.front) p.last closes_unit p.closed (clear_end p.front p.last.label) in
    let whole : Goes start (flat p.front ++ p.last ∷ []) (ended (joined p.front (plain p.last none))) = goes_both start (flat p.front) (p.last ∷ []) (body p.front) (ended (joined p.front (plain p.last none))) inner last in
    let all : flat p.front ++ p.last ∷ [] ≡ flatten t = sym (flat_joined p.front (plain p.last none)) ∙ ap flat (sym p.parts) in
    subst (λ (ms : Members). Goes start (flatten t) (ended ms)) (sym p.parts) (subst (λ (xs : List ItemTree). Goes start xs (ended (joined p.front (plain p.last none)))) all whole)

unit_has_end : (t : Nested) → IsProgram t → missing_end (flatten t) ≡ None
unfolding missing_end
unit_has_end t p =
    let all : flatten t ≡ flat p.front ++ p.last ∷ [] = ap flat p.parts ∙ flat_joined p.front (plain p.last none) in
    let found : any_end (flatten t) ≡ true = ap any_end all ∙ list_any-append (λ (x : ItemTree). is_end (effect_of x.shape)) (flat p.front) (p.last ∷ []) ∙ at_last (any_end (flat p.front)) (is_end (effect_of p.last.shape)) (ap is_end p.closed) in
    rw found refl
  where
    at_last : (a b : Bool) → b ≡ true → (a || (b || false)) ≡ true
    at_last true b e = refl
    at_last false true e = refl
    at_last false false e = absurd cc

pub nests_read : (items : List ItemTree) (t : Nested) → NestsAs items t → nest items ≡ Ok t
nests_read items t n =
    let g = goes_unit t n.well in
    let whole : nest (flatten t) ≡ Ok t = read_is (flatten t) t (record {
      has_end = unit_has_end t n.well;
      unbroken = unbroken_is [] start (flatten t) (in_order_is (flatten t) n.well.ordered) g.unbroken;
      unit_is = ap (λ (z : Unfinished). record { body = innermost z }) g.reached;
    }) in
    subst (λ (xs : List ItemTree). nest xs ≡ Ok t) n.order whole

abbrev read_as : Nested → Result Nested Broken
read_as t = Ok t

ok_is : (t u : Nested) → read_as t ≡ read_as u → t ≡ u
ok_is t u e = cc

pub one_unit : (items : List ItemTree) (t u : Nested) → NestsAs items t → NestsAs items u → t ≡ u
one_unit items t u n m = ok_is t u (sym (nests_read items t n) ∙ nests_read items u m)

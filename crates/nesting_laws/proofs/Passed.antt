-- One statement more, and some more, where no rule is broken.
use Rattle.std.proofs.Common.{◌≡◌, ℕ, Bool, true, false, not, inl, None, List, [], ◌∷◌, ◌++◌, length, Option, refl, sym, ap, subst, ◌∙◌, append_assoc}
use Rattle.std.specs.List.{AllByRecursion, list_any}
use Rattle.std.proofs.lemmas.List.{append-nil}
use Rattle.std.proofs.lemmas.Bool.{leb-false}
use Rattle.meaning.specs.Syntax.{ItemTree, ShapeTree, otherwise}
use Rattle.meaning.specs.Trees.{Members, none, plain, loop, block, Arms, no_arms, arm, flat, flat_arms}
use Rattle.meaning.specs.Nesting.{Unfinished, ended, body, range, branch, Level, Effect, opens_range, closes_range, opens_block, opens_arm, closes_block, closes_unit, stands, effect_of, levels, is_ended, is_else, is_end, is_named, is_end_do, may_close, in_range, joined, may_end, with_arm, past, past_by, behind, AreArms, AreFurther, IsWell}
use Rattle.nesting_laws.proofs.Joined.{flat_joined, arms_joined, flat_with_arm}
use Rattle.nesting_laws.proofs.Names.{IsFresh, or_left, or_right, not_false, true_false, and_not, fresh_unhidden, all_append}
use Rattle.nesting_laws.proofs.Clear.{MayClose, IsClear, IsClearOf}
use Rattle.nesting_laws.proofs.Sound.{IsOpenRange, IsOpenBlock, IsSound, EndsWith, text, add_sound, add_none_sound, closed_do, closed_fresh, add_text, add_ended}

pub past_is : (z : Unfinished) (x : ItemTree) (e : Effect) → effect_of x.shape ≡ e → past z x ≡ past_by z x e
unfolding past
past_is z x e f = ap (past_by z x) f

-- ---- one statement more

-- a statement that may end no range has the label of none
pub fresh_of : (opened : List Level) (label : Option ℕ) (e : Effect) → may_end e ≡ false → MayClose opened label e → is_named label opened ≡ false
fresh_of opened label e f c = and_not (is_named label opened) (may_end e) f c.terminal

opened_range : (z : Unfinished) (x : ItemTree) (s : Option ℕ) → effect_of x.shape ≡ opens_range s → IsClear z x.label (opens_range s) → IsOpenRange x s none z
opened_range z x s e k = record {
  names_it = e;
  room = leb-false 32 (length (levels z)) k.shallow;
  well = tt;
  fresh = tt;
  head_fresh = fresh_of (levels z) x.label (opens_range s) refl k.closes;
  unhidden = k.uncrossed;
  goes_on = k.goes_on;
}

pub no_else : (s : ShapeTree) → effect_of s ≡ opens_block → is_else s ≡ false
no_else otherwise e = absurd cc
no_else s e = refl

opened_block : (z : Unfinished) (x : ItemTree) → effect_of x.shape ≡ opens_block → IsClear z x.label opens_block → IsOpenBlock no_arms x none z
opened_block z x e k = record {
  room = leb-false 32 (length (levels z)) k.shallow;
  well = tt;
  goes = λ ns more w f. (e, w, subst (λ (b : Bool). AreFurther (length (levels z)) b more) (no_else x.shape e) f);
  fresh = (fresh_of (levels z) x.label opens_block refl k.closes, tt);
  goes_on = k.goes_on;
}

-- the arms with the one that was read, and a statement behind them
fresh_behind : (arms : Arms) (head : ItemTree) (ms : Members) (around : Unfinished) (x : ItemTree) → IsOpenBlock arms head ms around → IsFresh (levels around) x
    → AllByRecursion (IsFresh (levels around)) (flat_arms (with_arm arms head ms) ++ x ∷ [])
fresh_behind arms head ms around x r f =
    let before : AllByRecursion (IsFresh (levels around)) (flat_arms (with_arm arms head ms)) = subst (AllByRecursion (IsFresh (levels around))) (sym (flat_with_arm arms head ms)) r.fresh in
    all_append (IsFresh (levels around)) (flat_arms (with_arm arms head ms)) (x ∷ []) before (f, tt)

next_block : (arms : Arms) (head : ItemTree) (ms : Members) (around : Unfinished) (x : ItemTree) → IsOpenBlock arms head ms around → effect_of x.shape ≡ opens_arm
    → IsClear (branch arms head ms around) x.label opens_arm → IsOpenBlock (with_arm arms head ms) x none around
next_block arms head ms around x r e k =
    let n = length (levels around) in
    record {
      room = r.room;
      well = tt;
      goes = λ ns more w f. subst (AreArms n) (sym (arms_joined arms (arm head ms no_arms) (arm x ns more))) (r.goes ms (arm x ns more) r.well (k.placed, e, w, f));
      fresh = fresh_behind arms head ms around x r k.closes.unhidden;
      goes_on = r.goes_on;
    }

-- the block IF that ends with the statement, as a member of the list around it
closed_block : (arms : Arms) (head : ItemTree) (ms : Members) (around : Unfinished) (x : ItemTree) → IsOpenBlock arms head ms around → effect_of x.shape ≡ closes_block
    → IsWell false (length (levels around)) (block (with_arm arms head ms) x none)
closed_block arms head ms around x r e = (r.room, r.goes ms no_arms r.well tt, e, tt)

block_ends : (arms : Arms) (head : ItemTree) (ms : Members) (around : Unfinished) (x : ItemTree) → IsOpenBlock arms head ms around → effect_of x.shape ≡ closes_block → IsFresh (levels around) x
    → EndsWith (block (with_arm arms head ms) x none) (levels around) x
block_ends arms head ms around x r e f = record {
  front = flat_arms (with_arm arms head ms);
  parts = refl;
  fresh = subst (AllByRecursion (IsFresh (levels around))) (sym (flat_with_arm arms head ms)) r.fresh;
  closes = record { unhidden = fresh_unhidden x.label (levels around) f; terminal = rw f refl };
  other = ap is_end_do e;
  alone = refl;
}

past_arm_sound : (z : Unfinished) (x : ItemTree) → IsSound z → effect_of x.shape ≡ opens_arm → IsClear z x.label opens_arm → IsSound (past_by z x opens_arm)
past_arm_sound (ended ms) x h e k = absurd (true_false k.placed)
past_arm_sound (body ms) x h e k = absurd (true_false k.placed)
past_arm_sound (range head s ms around) x h e k = absurd (true_false k.placed)
past_arm_sound (branch arms head ms around) x h e k = (next_block arms head ms around x h.0 e k, h.1)

past_block_sound : (z : Unfinished) (x : ItemTree) → IsSound z → effect_of x.shape ≡ closes_block → IsClear z x.label closes_block → IsSound (past_by z x closes_block)
past_block_sound (ended ms) x h e k = absurd (true_false k.placed)
past_block_sound (body ms) x h e k = absurd (true_false k.placed)
past_block_sound (range head s ms around) x h e k = absurd (true_false k.placed)
past_block_sound (branch arms head ms around) x h e k =
    add_sound around (block (with_arm arms head ms) x none) x h.1 h.0.goes_on (closed_block arms head ms around x h.0 e) (block_ends arms head ms around x h.0 e k.closes.unhidden)

-- END stands in the body
past_end_sound : (z : Unfinished) (x : ItemTree) → IsSound z → effect_of x.shape ≡ closes_unit → IsClear z x.label closes_unit → IsSound (past_by z x closes_unit)
past_end_sound (ended ms) x h e k = absurd (true_false k.goes_on)
past_end_sound (body ms) x h e k = record { front = ms; last = x; parts = refl; well = h; closed = e }
past_end_sound (range head s ms around) x h e k = absurd (true_false k.outside)
past_end_sound (branch arms head ms around) x h e k = absurd (true_false k.placed)

-- END DO, where the innermost open thing is a range that it ends
past_do_sound : (z : Unfinished) (x : ItemTree) → IsSound z → effect_of x.shape ≡ closes_range → IsClear z x.label closes_range → IsSound (past_by z x closes_range)
past_do_sound (ended ms) x h e k = absurd (true_false k.ended_do)
past_do_sound (body ms) x h e k = absurd (true_false k.ended_do)
past_do_sound (range head s ms around) x h e k =
    let closes = not_false (may_close x.label (in_range s)) (or_left (not (may_close x.label (in_range s))) (is_named x.label (levels around)) k.ended_do) in
    let fresh = or_right (not (may_close x.label (in_range s))) (is_named x.label (levels around)) k.ended_do in
    add_none_sound around (loop head (joined ms (plain x none)) none) h.1 h.0.goes_on (closed_do head s ms around x h.0 e closes) (closed_fresh head s ms around x h.0 fresh)
past_do_sound (branch arms head ms around) x h e k = absurd (true_false k.ended_do)

past_by_sound : (z : Unfinished) (x : ItemTree) (e : Effect) → effect_of x.shape ≡ e → IsSound z → IsClear z x.label e → IsSound (past_by z x e)
past_by_sound z x (opens_range s) e h k = (opened_range z x s e k, h)
past_by_sound z x closes_range e h k = past_do_sound z x h e k
past_by_sound z x opens_block e h k = (opened_block z x e k, h)
past_by_sound z x opens_arm e h k = past_arm_sound z x h e k
past_by_sound z x closes_block e h k = past_block_sound z x h e k
past_by_sound z x closes_unit e h k = past_end_sound z x h e k
past_by_sound z x (stands may) e h k =
    add_sound z (plain x none) x h k.goes_on (inl (record { may = may; alone = e }), tt)
    (record { front = []; parts = refl; fresh = tt; closes = subst (MayClose (levels z) x.label) (sym e) k.closes; other = ap is_end_do e; alone = ap is_end_do e })

pub past_sound : (z : Unfinished) (x : ItemTree) → IsSound z → IsClearOf z x → IsSound (past z x)
past_sound z x h k = subst IsSound (sym (past_is z x (effect_of x.shape) refl)) (past_by_sound z x (effect_of x.shape) refl h k)

-- ---- the statements that were read

behind_arm : (arms : Arms) (head : ItemTree) (ms : Members) (around : Unfinished) (x : ItemTree) → text around ++ (flat_arms (with_arm arms head ms) ++ x ∷ []) ≡ text (branch arms head ms around) ++ x ∷ []
behind_arm arms head ms around x =
    ap (λ (xs : List ItemTree). text around ++ (xs ++ x ∷ [])) (flat_with_arm arms head ms) ∙ sym (append_assoc (text around) (flat_arms arms ++ (head ∷ flat ms)) (x ∷ []))

past_arm_text : (z : Unfinished) (x : ItemTree) → IsClear z x.label opens_arm → text (past_by z x opens_arm) ≡ text z ++ x ∷ []
past_arm_text (ended ms) x k = absurd (true_false k.placed)
past_arm_text (body ms) x k = absurd (true_false k.placed)
past_arm_text (range head s ms around) x k = absurd (true_false k.placed)
past_arm_text (branch arms head ms around) x k = behind_arm arms head ms around x

past_block_text : (z : Unfinished) (x : ItemTree) → IsClear z x.label closes_block → text (past_by z x closes_block) ≡ text z ++ x ∷ []
past_block_text (ended ms) x k = absurd (true_false k.placed)
past_block_text (body ms) x k = absurd (true_false k.placed)
past_block_text (range head s ms around) x k = absurd (true_false k.placed)
past_block_text (branch arms head ms around) x k = add_text around x.label (block (with_arm arms head ms) x none) ∙ behind_arm arms head ms around x

past_end_text : (z : Unfinished) (x : ItemTree) → IsClear z x.label closes_unit → text (past_by z x closes_unit) ≡ text z ++ x ∷ []
past_end_text (ended ms) x k = flat_joined ms (plain x none)
past_end_text (body ms) x k = flat_joined ms (plain x none)
past_end_text (range head s ms around) x k = absurd (true_false k.outside)
past_end_text (branch arms head ms around) x k = absurd (true_false k.placed)

past_do_text : (z : Unfinished) (x : ItemTree) → IsClear z x.label closes_range → text (past_by z x closes_range) ≡ text z ++ x ∷ []
past_do_text (ended ms) x k = absurd (true_false k.ended_do)
past_do_text (body ms) x k = absurd (true_false k.ended_do)
past_do_text (range head s ms around) x k =
    add_text around None (loop head (joined ms (plain x none)) none)
    ∙ ap (λ (xs : List ItemTree). text around ++ (head ∷ xs)) (append-nil (flat (joined ms (plain x none))) ∙ flat_joined ms (plain x none))
    ∙ sym (append_assoc (text around) (head ∷ flat ms) (x ∷ []))
past_do_text (branch arms head ms around) x k = absurd (true_false k.ended_do)

past_by_text : (z : Unfinished) (x : ItemTree) (e : Effect) → IsClear z x.label e → text (past_by z x e) ≡ text z ++ x ∷ []
past_by_text z x (opens_range s) k = refl
past_by_text z x closes_range k = past_do_text z x k
past_by_text z x opens_block k = refl
past_by_text z x opens_arm k = past_arm_text z x k
past_by_text z x closes_block k = past_block_text z x k
past_by_text z x closes_unit k = past_end_text z x k
past_by_text z x (stands may) k = add_text z x.label (plain x none)

pub past_text : (z : Unfinished) (x : ItemTree) → IsClearOf z x → text (past z x) ≡ text z ++ x ∷ []
past_text z x k = ap text (past_is z x (effect_of x.shape) refl) ∙ past_by_text z x (effect_of x.shape) k

-- ---- whether END was read

past_arm_ended : (z : Unfinished) (x : ItemTree) → IsClear z x.label opens_arm → is_ended (past_by z x opens_arm) ≡ false
past_arm_ended (ended ms) x k = k.goes_on
past_arm_ended (body ms) x k = refl
past_arm_ended (range head s ms around) x k = refl
past_arm_ended (branch arms head ms around) x k = refl

past_block_ended : (z : Unfinished) (x : ItemTree) → IsSound z → IsClear z x.label closes_block → is_ended (past_by z x closes_block) ≡ false
past_block_ended (ended ms) x h k = k.goes_on
past_block_ended (body ms) x h k = refl
past_block_ended (range head s ms around) x h k = refl
past_block_ended (branch arms head ms around) x h k = add_ended around x.label (block (with_arm arms head ms) x none) h.1 h.0.goes_on

past_do_ended : (z : Unfinished) (x : ItemTree) → IsSound z → IsClear z x.label closes_range → is_ended (past_by z x closes_range) ≡ false
past_do_ended (ended ms) x h k = k.goes_on
past_do_ended (body ms) x h k = refl
past_do_ended (range head s ms around) x h k = add_ended around None (loop head (joined ms (plain x none)) none) h.1 h.0.goes_on
past_do_ended (branch arms head ms around) x h k = refl

past_by_ended : (z : Unfinished) (x : ItemTree) (e : Effect) → IsSound z → IsClear z x.label e → is_ended (past_by z x e) ≡ is_end e
past_by_ended z x (opens_range s) h k = refl
past_by_ended z x closes_range h k = past_do_ended z x h k
past_by_ended z x opens_block h k = refl
past_by_ended z x opens_arm h k = past_arm_ended z x k
past_by_ended z x closes_block h k = past_block_ended z x h k
past_by_ended z x closes_unit h k = refl
past_by_ended z x (stands may) h k = add_ended z x.label (plain x none) h k.goes_on

pub past_ended : (z : Unfinished) (x : ItemTree) → IsSound z → IsClearOf z x → is_ended (past z x) ≡ is_end (effect_of x.shape)
past_ended z x h k = ap is_ended (past_is z x (effect_of x.shape) refl) ∙ past_by_ended z x (effect_of x.shape) h k

-- ---- some statements more

-- none breaks a rule on block IFs, ranges or END behind those before it
abbrev pub IsUnbroken : Unfinished → List ItemTree → Type 0
IsUnbroken z [] = Unit {0}
IsUnbroken z (x ∷ xs) = IsClearOf z x × IsUnbroken (past z x) xs

pub behind_sound : (z : Unfinished) (xs : List ItemTree) → IsSound z → IsUnbroken z xs → IsSound (behind z xs)
behind_sound z [] h u = h
behind_sound z (x ∷ xs) h u = behind_sound (past z x) xs (past_sound z x h u.0) u.1

pub behind_text : (z : Unfinished) (xs : List ItemTree) → IsUnbroken z xs → text (behind z xs) ≡ text z ++ xs
behind_text z [] u = sym (append-nil (text z))
behind_text z (x ∷ xs) u = behind_text (past z x) xs u.1 ∙ ap (λ (ys : List ItemTree). ys ++ xs) (past_text z x u.0) ∙ append_assoc (text z) (x ∷ []) xs

-- nothing stands behind END
pub over_at_end : (z : Unfinished) (xs : List ItemTree) → is_ended z ≡ true → IsUnbroken z xs → xs ≡ []
over_at_end z [] h u = refl
over_at_end z (x ∷ xs) h u = absurd (clash u.0.goes_on h)
  where
    clash : is_ended z ≡ false → is_ended z ≡ true → ⊥
    clash f g = cc

abbrev pub any_end : List ItemTree → Bool
any_end items = list_any (λ (x : ItemTree). is_end (effect_of x.shape)) items

pub behind_ended : (z : Unfinished) (xs : List ItemTree) → IsSound z → IsUnbroken z xs → any_end xs ≡ true → is_ended (behind z xs) ≡ true
behind_ended z [] h u a = absurd cc
behind_ended z (x ∷ xs) h u a = by_test (is_end (effect_of x.shape)) refl u.1 (past_ended z x h u.0) (behind_ended (past z x) xs (past_sound z x h u.0) u.1)
  where
    by_test : (b : Bool) → is_end (effect_of x.shape) ≡ b → IsUnbroken (past z x) xs → is_ended (past z x) ≡ is_end (effect_of x.shape)
        → (any_end xs ≡ true → is_ended (behind (past z x) xs) ≡ true) → is_ended (behind (past z x) xs) ≡ true
    by_test true f unbroken e rec = rw (over_at_end (past z x) xs (e ∙ f) unbroken) (e ∙ f)
    by_test false f unbroken e rec = rec (rw f at a)

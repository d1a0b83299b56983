-- What was read so far is well nested, as far as it goes, and holds the statements that were read.
use Rattle.std.proofs.Common.{◌≡◌, ℕ, suc, ◌<◌, inr, Bool, true, false, None, List, [], ◌∷◌, ◌++◌, length, Option, Some, refl, sym, ap, subst, ◌∙◌, append_assoc}
use Rattle.std.specs.Prelude.{◌&&◌, not, IsFalse}
use Rattle.std.specs.List.{AllByRecursion}
use Rattle.std.proofs.lemmas.List.{append-nil}
use Rattle.meaning.specs.LabelRules.{has_label}
use Rattle.meaning.specs.Syntax.{ItemTree}
use Rattle.meaning.specs.Trees.{Members, none, plain, loop, block, Arms, arm, flat, flat_arms}
use Rattle.meaning.specs.Nesting.{Unfinished, ended, body, range, branch, Level, in_range, in_block, Effect, opens_range, closes_range, closes_unit, effect_of, is_end_do, is_label_named, may_close, ends_with_end_do, IsEnded, IsPlain, levels, is_ended, is_else, is_named, is_hidden, may_end, joined, joined_arms, IsRange, IsWell, AreArms, AreFurther, add}
use Rattle.nesting_laws.proofs.Joined.{flat_joined, alone_of, well_joined, well_ranged, ends_joined}
use Rattle.nesting_laws.proofs.Names.{IsFresh, and_right, not_false, hidden_behind_same, hidden_behind_other, named_behind_other, all_append, all_follow, fresh_around, fresh_other}
use Rattle.nesting_laws.proofs.Clear.{MayClose}

pub record IsOpenRange (head : ItemTree) (s : Option ℕ) (ms : Members) (around : Unfinished) : Type 0 where
  pub names_it : effect_of head.shape ≡ opens_range s
  pub room : length (levels around) < 32
  pub well : IsWell false (suc (length (levels around))) ms
  pub fresh : AllByRecursion (IsFresh (in_range s ∷ levels around)) (flat ms)
  pub head_fresh : IsFresh (levels around) head
  pub unhidden : is_hidden s (levels around) ≡ false
  pub goes_on : is_ended around ≡ false

-- the arms that may follow make a whole block IF with those that were read
pub record IsOpenBlock (arms : Arms) (head : ItemTree) (ms : Members) (around : Unfinished) : Type 0 where
  pub room : length (levels around) < 32
  pub well : IsWell false (suc (length (levels around))) ms
  pub goes : (ns : Members) (more : Arms) → IsWell false (suc (length (levels around))) ns → AreFurther (length (levels around)) (is_else head.shape) more
      → AreArms (length (levels around)) (joined_arms arms (arm head ns more))
  pub fresh : AllByRecursion (IsFresh (levels around)) (flat_arms arms ++ (head ∷ flat ms))
  pub goes_on : is_ended around ≡ false

-- members up to END
pub record IsClosed (ms : Members) : Type 0 where
  pub front : Members
  pub last : ItemTree
  pub parts : ms ≡ joined front (plain last none)
  pub well : IsWell false 0 front
  pub closed : effect_of last.shape ≡ closes_unit

abbrev pub IsSound : Unfinished → Type 0
IsSound (ended ms) = IsClosed ms
IsSound (body ms) = IsWell false 0 ms
IsSound (range head s ms around) = IsOpenRange head s ms around × IsSound around
IsSound (branch arms head ms around) = IsOpenBlock arms head ms around × IsSound around

-- the statements that were read
abbrev pub text : Unfinished → List ItemTree
text (ended ms) = flat ms
text (body ms) = flat ms
text (range head s ms around) = text around ++ (head ∷ flat ms)
text (branch arms head ms around) = text around ++ (flat_arms arms ++ (head ∷ flat ms))

-- ---- one member more

-- what a member ends with
pub record EndsWith (more : Members) (opened : List Level) (x : ItemTree) : Type 0 where
  pub front : List ItemTree
  pub parts : flat more ≡ front ++ x ∷ []
  pub fresh : AllByRecursion (IsFresh opened) front
  pub closes : MayClose opened x.label (effect_of x.shape)
  pub other : is_end_do (effect_of x.shape) ≡ false
  pub alone : ends_with_end_do more ≡ false

terminal_of : (opened : List Level) (label : Option ℕ) (e : Effect) → MayClose opened label e → is_named label opened ≡ true → may_end e ≡ true
terminal_of opened label e c named = not_false (may_end e) (and_right (is_named label opened) (not (may_end e)) c.terminal named)

and_false : (a b : Bool) → b ≡ true → (a && not b) ≡ false
and_false true true e = refl
and_false true false e = absurd cc
and_false false b e = refl

named_here : (l s : Option ℕ) (opened : List Level) → is_label_named l s ≡ true → is_named l (in_range s ∷ opened) ≡ true
named_here l s opened e = rw e refl

whole_parts : (ms more : Members) (front : List ItemTree) (x : ItemTree) → flat more ≡ front ++ x ∷ [] → flat (joined ms more) ≡ (flat ms ++ front) ++ x ∷ []
whole_parts ms more front x e = flat_joined ms more ∙ ap (λ (xs : List ItemTree). flat ms ++ xs) e ∙ sym (append_assoc (flat ms) front (x ∷ []))

-- END DO is not the last of members that don't end with it
alone_joined : (a b : Members) → ends_with_end_do a ≡ false → ends_with_end_do b ≡ false → ends_with_end_do (joined a b) ≡ false
alone_joined none b h k = k
alone_joined (plain x none) none h k = h
alone_joined (plain x none) (plain y ms) h k = k
alone_joined (plain x none) (loop y q ms) h k = k
alone_joined (plain x none) (block arms y ms) h k = k
alone_joined (plain x (plain y ms)) b h k = alone_joined (plain y ms) b h k
alone_joined (plain x (loop y q ms)) b h k = alone_joined (loop y q ms) b h k
alone_joined (plain x (block arms y ms)) b h k = alone_joined (block arms y ms) b h k
alone_joined (loop x q ms) b h k = alone_joined ms b h k
alone_joined (block arms x ms) b h k = alone_joined ms b h k

-- nor of members that are no range's
stands_alone : (x : ItemTree) → IsPlain x.shape → is_end_do (effect_of x.shape) ≡ false
stands_alone x p = ap is_end_do p.alone

well_alone : (n : ℕ) (ms : Members) → IsWell false n ms → ends_with_end_do ms ≡ false
well_alone n none h = refl
well_alone n (plain x none) h = stands_alone x (alone_of x none h.0)
well_alone n (plain x (plain y ms)) h = well_alone n (plain y ms) h.1
well_alone n (plain x (loop y q ms)) h = well_alone n (loop y q ms) h.1
well_alone n (plain x (block arms y ms)) h = well_alone n (block arms y ms) h.1
well_alone n (loop x q ms) h = well_alone n ms h.3
well_alone n (block arms x ms) h = well_alone n ms h.3

-- the range that ends with the statement, as a member of the list around it
closed_range : (head : ItemTree) (s : Option ℕ) (ms more : Members) (around : Unfinished) (x : ItemTree) → IsOpenRange head s ms around → IsWell false (suc (length (levels around))) more
    → EndsWith more (in_range s ∷ levels around) x → is_label_named x.label s ≡ true → IsWell false (length (levels around)) (loop head (joined ms more) none)
closed_range head None ms more around x r w e b = absurd cc
closed_range head (Some s) ms more around x r w e b =
    let opened = in_range (Some s) ∷ levels around in
    let all : AllByRecursion (IsFresh opened) (flat ms ++ e.front) = all_append (IsFresh opened) (flat ms) e.front r.fresh e.fresh in
    let is_range : IsRange s (flat (joined ms more)) = record {
      front = flat ms ++ e.front;
      last = x;
      parts = whole_parts ms more e.front x e.parts;
      unlabelled = all_follow (IsFresh opened) (λ y. IsFalse (has_label s y)) (λ y f. fresh_other (Some s) (levels around) y f) (flat ms ++ e.front) all;
      labelled = b;
      terminal = terminal_of opened x.label (effect_of x.shape) e.closes (named_here x.label (Some s) (levels around) b);
    } in
    let one : is_end_do (effect_of x.shape) ≡ ends_with_end_do (joined ms more) = e.other ∙ sym (alone_joined ms more (well_alone _ ms r.well) e.alone) in
    (r.room, record { label = Some s; names = r.names_it; ends = record { ends = is_range; one = one } }, well_ranged (suc (length (levels around))) (joined ms more) (well_joined false (suc (length (levels around))) ms more r.well w), tt)

closed_ends : (head : ItemTree) (s : Option ℕ) (ms more : Members) (around : Unfinished) (x : ItemTree) → IsOpenRange head s ms around
    → EndsWith more (in_range s ∷ levels around) x → is_label_named x.label s ≡ true → EndsWith (loop head (joined ms more) none) (levels around) x
closed_ends head s ms more around x r e b =
    let opened = in_range s ∷ levels around in
    let all : AllByRecursion (IsFresh opened) (flat ms ++ e.front) = all_append (IsFresh opened) (flat ms) e.front r.fresh e.fresh in
    record {
      front = head ∷ (flat ms ++ e.front);
      parts = ap (λ (xs : List ItemTree). head ∷ xs) (append-nil (flat (joined ms more)) ∙ whole_parts ms more e.front x e.parts);
      fresh = (r.head_fresh, all_follow (IsFresh opened) (IsFresh (levels around)) (λ y f. fresh_around s (levels around) y f) (flat ms ++ e.front) all);
      closes = record {
        unhidden = sym (hidden_behind_same x.label s (levels around) b) ∙ e.closes.unhidden;
        terminal = and_false (is_named x.label (levels around)) (may_end (effect_of x.shape)) (terminal_of opened x.label (effect_of x.shape) e.closes (named_here x.label s (levels around) b));
      };
      other = e.other;
      alone = refl;
    }

-- the range that doesn't end
longer_range : (head : ItemTree) (s : Option ℕ) (ms more : Members) (around : Unfinished) (x : ItemTree) → IsOpenRange head s ms around → IsWell false (suc (length (levels around))) more
    → EndsWith more (in_range s ∷ levels around) x → is_label_named x.label s ≡ false → IsOpenRange head s (joined ms more) around
longer_range head s ms more around x r w e b =
    let opened = in_range s ∷ levels around in
    let x_fresh : IsFresh opened x = named_behind_other x.label s (levels around) b ∙ sym (hidden_behind_other x.label s (levels around) b) ∙ e.closes.unhidden in
    let all : AllByRecursion (IsFresh opened) ((flat ms ++ e.front) ++ x ∷ []) =
    all_append (IsFresh opened) (flat ms ++ e.front) (x ∷ []) (all_append (IsFresh opened) (flat ms) e.front r.fresh e.fresh) (x_fresh, tt) in
    record {
      names_it = r.names_it;
      room = r.room;
      well = well_joined false (suc (length (levels around))) ms more r.well w;
      fresh = subst (AllByRecursion (IsFresh opened)) (sym (whole_parts ms more e.front x e.parts)) all;
      head_fresh = r.head_fresh;
      unhidden = r.unhidden;
      goes_on = r.goes_on;
    }

-- the arm goes on
longer_arm : (arms : Arms) (head : ItemTree) (ms more : Members) (around : Unfinished) (x : ItemTree) → IsOpenBlock arms head ms around → IsWell false (suc (length (levels around))) more
    → EndsWith more (in_block (is_else head.shape) ∷ levels around) x → IsOpenBlock arms head (joined ms more) around
longer_arm arms head ms more around x r w e =
    let opened = levels around in
    let earlier = flat_arms arms in
    let added : AllByRecursion (IsFresh opened) (e.front ++ x ∷ []) = all_append (IsFresh opened) e.front (x ∷ []) e.fresh (e.closes.unhidden, tt) in
    let all : AllByRecursion (IsFresh opened) ((earlier ++ (head ∷ flat ms)) ++ (e.front ++ x ∷ [])) = all_append (IsFresh opened) (earlier ++ (head ∷ flat ms)) (e.front ++ x ∷ []) r.fresh added in
    let longer : (earlier ++ (head ∷ flat ms)) ++ (e.front ++ x ∷ []) ≡ earlier ++ (head ∷ flat (joined ms more)) =
    append_assoc earlier (head ∷ flat ms) (e.front ++ x ∷ []) ∙ ap (λ (xs : List ItemTree). earlier ++ (head ∷ xs)) (ap (λ (xs : List ItemTree). flat ms ++ xs) (sym e.parts) ∙ sym (flat_joined ms more)) in
    record {
      room = r.room;
      well = well_joined false (suc (length opened)) ms more r.well w;
      goes = r.goes;
      fresh = subst (AllByRecursion (IsFresh opened)) longer all;
      goes_on = r.goes_on;
    }

pub add_closing : (l : Option ℕ) (more : Members) (head : ItemTree) (s : Option ℕ) (ms : Members) (around : Unfinished) → is_label_named l s ≡ true → add l more (range head s ms around) ≡ add l (loop head (joined ms more) none) around
add_closing l more head s ms around e = rw e refl

pub add_longer : (l : Option ℕ) (more : Members) (head : ItemTree) (s : Option ℕ) (ms : Members) (around : Unfinished) → is_label_named l s ≡ false → add l more (range head s ms around) ≡ range head s (joined ms more) around
add_longer l more head s ms around e = rw e refl

pub add_sound : (z : Unfinished) (more : Members) (x : ItemTree) → IsSound z → is_ended z ≡ false → IsWell false (length (levels z)) more → EndsWith more (levels z) x → IsSound (add x.label more z)
add_sound (ended ms) more x h o w e = absurd cc
add_sound (body ms) more x h o w e = well_joined false 0 ms more h w
add_sound (range head s ms around) more x h o w e = by_test (is_label_named x.label s) refl (add_sound around (loop head (joined ms more) none) x h.1 h.0.goes_on)
  where
    by_test : (b : Bool) → is_label_named x.label s ≡ b
        → (IsWell false (length (levels around)) (loop head (joined ms more) none) → EndsWith (loop head (joined ms more) none) (levels around) x → IsSound (add x.label (loop head (joined ms more) none) around))
        → IsSound (add x.label more (range head s ms around))
    by_test true b rec = subst IsSound (sym (add_closing x.label more head s ms around b)) (rec (closed_range head s ms more around x h.0 w e b) (closed_ends head s ms more around x h.0 e b))
    by_test false b rec = subst IsSound (sym (add_longer x.label more head s ms around b)) (longer_range head s ms more around x h.0 w e b, h.1)
add_sound (branch arms head ms around) more x h o w e = (longer_arm arms head ms more around x h.0 w e, h.1)

-- members whose labels no open DO statement names
pub add_none_sound : (z : Unfinished) (more : Members) → IsSound z → is_ended z ≡ false → IsWell false (length (levels z)) more → AllByRecursion (IsFresh (levels z)) (flat more) → IsSound (add None more z)
add_none_sound (ended ms) more h o w f = absurd cc
add_none_sound (body ms) more h o w f = well_joined false 0 ms more h w
add_none_sound (range head s ms around) more h o w f =
    let opened = in_range s ∷ levels around in
    subst IsSound (sym (add_longer None more head s ms around (unnamed s))) (
      record {
        names_it = h.0.names_it;
        room = h.0.room;
        well = well_joined false (suc (length (levels around))) ms more h.0.well w;
        fresh = subst (AllByRecursion (IsFresh opened)) (sym (flat_joined ms more)) (all_append (IsFresh opened) (flat ms) (flat more) h.0.fresh f);
        head_fresh = h.0.head_fresh;
        unhidden = h.0.unhidden;
        goes_on = h.0.goes_on;
      },
      h.1,
    )
  where
    unnamed : (s : Option ℕ) → is_label_named None s ≡ false
    unnamed None = refl
    unnamed (Some n) = refl
add_none_sound (branch arms head ms around) more h o w f =
    let opened = levels around in
    let earlier = flat_arms arms in
    let longer : (earlier ++ (head ∷ flat ms)) ++ flat more ≡ earlier ++ (head ∷ flat (joined ms more)) =
    append_assoc earlier (head ∷ flat ms) (flat more) ∙ ap (λ (xs : List ItemTree). earlier ++ (head ∷ xs)) (sym (flat_joined ms more)) in (
      record {
        room = h.0.room;
        well = well_joined false (suc (length opened)) ms more h.0.well w;
        goes = h.0.goes;
        fresh = subst (AllByRecursion (IsFresh opened)) longer (all_append (IsFresh opened) (earlier ++ (head ∷ flat ms)) (flat more) h.0.fresh f);
        goes_on = h.0.goes_on;
      },
      h.1,
    )

-- ---- END DO

-- the range that END DO ends, as a member of the list around it
pub closed_do : (head : ItemTree) (s : Option ℕ) (ms : Members) (around : Unfinished) (x : ItemTree) → IsOpenRange head s ms around → effect_of x.shape ≡ closes_range → may_close x.label (in_range s) ≡ true
    → IsWell false (length (levels around)) (loop head (joined ms (plain x none)) none)
closed_do head s ms around x r e b = (r.room, record { label = s; names = r.names_it; ends = by s r b }, well_joined true (suc (length (levels around))) ms (plain x none) r.well (inr (record { ranged = refl; closes = e; last = refl }), tt), tt)
  where
    last : ends_with_end_do (joined ms (plain x none)) ≡ true
    last = ends_joined ms x ∙ ap is_end_do e

    by : (s : Option ℕ) → IsOpenRange head s ms around → may_close x.label (in_range s) ≡ true → IsEnded s (joined ms (plain x none))
    by None r b = last
    by (Some n) r b = record {
      ends = record {
        front = flat ms;
        last = x;
        parts = flat_joined ms (plain x none);
        unlabelled = all_follow (IsFresh (in_range (Some n) ∷ levels around)) (λ y. IsFalse (has_label n y)) (λ y f. fresh_other (Some n) (levels around) y f) (flat ms) r.fresh;
        labelled = b;
        terminal = ap may_end e;
      };
      one = ap is_end_do e ∙ sym last;
    }

pub closed_fresh : (head : ItemTree) (s : Option ℕ) (ms : Members) (around : Unfinished) (x : ItemTree) → IsOpenRange head s ms around → is_named x.label (levels around) ≡ false
    → AllByRecursion (IsFresh (levels around)) (flat (loop head (joined ms (plain x none)) none))
closed_fresh head s ms around x r f =
    let opened = levels around in
    let inner : AllByRecursion (IsFresh opened) (flat ms) = all_follow (IsFresh (in_range s ∷ opened)) (IsFresh opened) (λ y g. fresh_around s opened y g) (flat ms) r.fresh in
    let all : AllByRecursion (IsFresh opened) (flat ms ++ x ∷ []) = all_append (IsFresh opened) (flat ms) (x ∷ []) inner (f, tt) in
    (r.head_fresh, subst (AllByRecursion (IsFresh opened)) (sym (append-nil (flat (joined ms (plain x none))) ∙ flat_joined ms (plain x none))) all)

pub add_text : (z : Unfinished) (l : Option ℕ) (more : Members) → text (add l more z) ≡ text z ++ flat more
add_text (ended ms) l more = flat_joined ms more
add_text (body ms) l more = flat_joined ms more
add_text (range head s ms around) l more = by_test (is_label_named l s) refl (add_text around l (loop head (joined ms more) none))
  where
    whole : text around ++ (head ∷ flat (joined ms more)) ≡ (text around ++ (head ∷ flat ms)) ++ flat more
    whole = ap (λ (xs : List ItemTree). text around ++ (head ∷ xs)) (flat_joined ms more) ∙ sym (append_assoc (text around) (head ∷ flat ms) (flat more))

    by_test : (b : Bool) → is_label_named l s ≡ b → text (add l (loop head (joined ms more) none) around) ≡ text around ++ (head ∷ (flat (joined ms more) ++ []))
        → text (add l more (range head s ms around)) ≡ (text around ++ (head ∷ flat ms)) ++ flat more
    by_test true b rec = ap text (add_closing l more head s ms around b) ∙ rec ∙ ap (λ (xs : List ItemTree). text around ++ (head ∷ xs)) (append-nil (flat (joined ms more))) ∙ whole
    by_test false b rec = ap text (add_longer l more head s ms around b) ∙ whole
add_text (branch arms head ms around) l more =
    let earlier = flat_arms arms in
    ap (λ (xs : List ItemTree). text around ++ (earlier ++ (head ∷ xs))) (flat_joined ms more)
    ∙ ap (λ (xs : List ItemTree). text around ++ xs) (sym (append_assoc earlier (head ∷ flat ms) (flat more)))
    ∙ sym (append_assoc (text around) (earlier ++ (head ∷ flat ms)) (flat more))

pub add_ended : (z : Unfinished) (l : Option ℕ) (more : Members) → IsSound z → is_ended z ≡ false → is_ended (add l more z) ≡ false
add_ended (ended ms) l more h o = absurd cc
add_ended (body ms) l more h o = refl
add_ended (range head s ms around) l more h o = by_test (is_label_named l s) refl (add_ended around l (loop head (joined ms more) none) h.1 h.0.goes_on)
  where
    by_test : (b : Bool) → is_label_named l s ≡ b → is_ended (add l (loop head (joined ms more) none) around) ≡ false → is_ended (add l more (range head s ms around)) ≡ false
    by_test true b rec = ap is_ended (add_closing l more head s ms around b) ∙ rec
    by_test false b rec = ap is_ended (add_longer l more head s ms around b)
add_ended (branch arms head ms around) l more h o = refl

-- What it says that a statement breaks no rule behind others.
use Rattle.std.proofs.Common.{◌≡◌, ℕ, Bool, true, false, List, Option, Some, None, refl}
use Rattle.std.specs.Prelude.{◌&&◌, ◌||◌, not, if◌then◌else◌}
use Rattle.meaning.specs.declared.refusal.Rule.{Rule}
use Rattle.meaning.specs.declared.refusal.Rule.TheVariants.{N1, N2, N3, N4, N5}
use Rattle.meaning.specs.Syntax.{ItemTree}
use Rattle.meaning.specs.Nesting.{Unfinished, Level, Effect, effect_of, levels, is_misplaced, is_ended, is_stray, is_named, is_hidden, is_end_in_range, is_stray_end_do, named, may_end, is_crossing, is_too_deep, breaks_nesting, breaks}
use Rattle.nesting_laws.proofs.Names.{or_left, or_right}

-- a statement with the label could end a range there
pub record MayClose (opened : List Level) (label : Option ℕ) (e : Effect) : Type 0 where
  pub unhidden : is_hidden label opened ≡ false
  pub terminal : (is_named label opened && not (may_end e)) ≡ false

-- by the rules on block IFs, ranges and END
pub record IsClear (z : Unfinished) (label : Option ℕ) (e : Effect) : Type 0 where
  pub goes_on : is_ended z ≡ false
  pub placed : is_stray e (levels z) ≡ false
  pub closes : MayClose (levels z) label e
  pub uncrossed : is_hidden (named e) (levels z) ≡ false
  pub outside : is_end_in_range e (levels z) ≡ false
  pub ended_do : is_stray_end_do label e (levels z) ≡ false
  pub shallow : is_too_deep (levels z) e ≡ false

abbrev pub IsClearOf : Unfinished → ItemTree → Type 0
IsClearOf z x = IsClear z x.label (effect_of x.shape)

abbrev told : Bool → Rule → Option Rule → Option Rule
told b rule o = if b then Some rule else o

told_test : (b : Bool) (rule : Rule) (o : Option Rule) → told b rule o ≡ None → b ≡ false
told_test true rule o h = absurd cc
told_test false rule o h = refl

told_else : (b : Bool) (rule : Rule) (o : Option Rule) → told b rule o ≡ None → o ≡ None
told_else true rule o h = absurd cc
told_else false rule o h = h

told_none : (b : Bool) (rule : Rule) (o : Option Rule) → b ≡ false → o ≡ None → told b rule o ≡ None
told_none true rule o e f = absurd cc
told_none false rule o e f = f

pub timely_of : (before : List ItemTree) (z : Unfinished) (x : ItemTree) → breaks before z x ≡ None → is_misplaced before x ≡ false
unfolding breaks
timely_of before z x h = told_test (is_misplaced before x) N1 (told (is_ended z) N2 (breaks_nesting (levels z) x.label (effect_of x.shape))) h

clear_by : (z : Unfinished) (label : Option ℕ) (e : Effect) → is_ended z ≡ false → breaks_nesting (levels z) label e ≡ None → IsClear z label e
clear_by z label e goes h =
    let opened = levels z in
    let deep = told (is_too_deep opened e) N5 None in
    let crossing = told (is_crossing opened label e) N4 deep in
    let f : crossing ≡ None = told_else (is_stray e opened) N3 crossing h in
    let a = is_hidden label opened in
    let b = is_named label opened && not (may_end e) in
    let c = is_hidden (named e) opened in
    let d = is_end_in_range e opened in
    let f5 = is_stray_end_do label e opened in
    let all : (a || (b || (c || (d || f5)))) ≡ false = told_test (is_crossing opened label e) N4 deep f in
    record {
      goes_on = goes;
      placed = told_test (is_stray e opened) N3 crossing h;
      closes = record { unhidden = or_left a (b || (c || (d || f5))) all; terminal = or_left b (c || (d || f5)) (or_right a (b || (c || (d || f5))) all) };
      uncrossed = or_left c (d || f5) (or_right b (c || (d || f5)) (or_right a (b || (c || (d || f5))) all));
      outside = or_left d f5 (or_right c (d || f5) (or_right b (c || (d || f5)) (or_right a (b || (c || (d || f5))) all)));
      ended_do = or_right d f5 (or_right c (d || f5) (or_right b (c || (d || f5)) (or_right a (b || (c || (d || f5))) all)));
      shallow = told_test (is_too_deep opened e) N5 None (told_else (is_crossing opened label e) N4 deep f);
    }

pub clear_of : (before : List ItemTree) (z : Unfinished) (x : ItemTree) → breaks before z x ≡ None → IsClearOf z x
unfolding breaks
clear_of before z x broken =
    let inner = breaks_nesting (levels z) x.label (effect_of x.shape) in
    let h : told (is_ended z) N2 inner ≡ None = told_else (is_misplaced before x) N1 (told (is_ended z) N2 inner) broken in
    clear_by z x.label (effect_of x.shape) (told_test (is_ended z) N2 inner h) (told_else (is_ended z) N2 inner h)

or_false : (a b c d i : Bool) → a ≡ false → b ≡ false → c ≡ false → d ≡ false → i ≡ false → (a || (b || (c || (d || i)))) ≡ false
or_false a b c d i e f g h j = rw (e, f, g, h, j) refl

nests_clear : (z : Unfinished) (label : Option ℕ) (e : Effect) → IsClear z label e → breaks_nesting (levels z) label e ≡ None
nests_clear z label e k =
    let opened = levels z in
    let deep = told (is_too_deep opened e) N5 None in
    let crossing : is_crossing opened label e ≡ false = or_false (is_hidden label opened) (is_named label opened && not (may_end e)) (is_hidden (named e) opened) (is_end_in_range e opened) (is_stray_end_do label e opened) k.closes.unhidden k.closes.terminal k.uncrossed k.outside k.ended_do in
    told_none (is_stray e opened) N3 (told (is_crossing opened label e) N4 deep) k.placed
    (told_none (is_crossing opened label e) N4 deep crossing (told_none (is_too_deep opened e) N5 None k.shallow refl))

pub clear_is : (before : List ItemTree) (z : Unfinished) (x : ItemTree) → is_misplaced before x ≡ false → IsClearOf z x → breaks before z x ≡ None
unfolding breaks
clear_is before z x timely k =
    let inner = breaks_nesting (levels z) x.label (effect_of x.shape) in
    told_none (is_misplaced before x) N1 (told (is_ended z) N2 inner) timely (told_none (is_ended z) N2 inner k.goes_on (nests_clear z x.label (effect_of x.shape) k))

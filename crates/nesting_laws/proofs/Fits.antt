-- Statements that end no range around them, but for the last one.
use Rattle.std.proofs.Common.{◌≡◌, ℕ, Bool, true, false, List, [], ◌∷◌, ◌++◌, Option, Some, None, refl, sym, ◌∙◌}
use Rattle.std.specs.Prelude.{◌&&◌, not, IsTrue, IsFalse}
use Rattle.std.specs.List.{AllByRecursion}
use Rattle.meaning.specs.LabelRules.{has_label}
use Rattle.meaning.specs.Syntax.{ItemTree}
use Rattle.meaning.specs.Nesting.{Level, in_range, effect_of, is_end_do, is_named, may_end}
use Rattle.nesting_laws.proofs.Names.{IsFresh, true_false, hidden_behind_same, named_behind_other, fresh_unhidden}
use Rattle.nesting_laws.proofs.Clear.{MayClose}

-- with these behind it
-- the last one could end a range there; END DO ends none around its own (own)
pub record Closes (opened : List Level) (x : ItemTree) : Type 0 where
  pub may : MayClose opened x.label (effect_of x.shape)
  pub fresh : is_end_do (effect_of x.shape) ≡ true → IsFresh opened x

abbrev pub FitsBefore : List Level → ItemTree → List ItemTree → Type 0
FitsBefore opened x [] = Closes opened x
FitsBefore opened x (y ∷ ys) = IsFresh opened x

abbrev pub Fits : List Level → List ItemTree → Type 0
Fits opened [] = Unit {0}
Fits opened (x ∷ xs) = FitsBefore opened x xs × Fits opened xs

-- the label of the last statement
abbrev pub last_label : List ItemTree → Option ℕ
last_label [] = None
last_label (x ∷ []) = x.label
last_label (x ∷ (y ∷ ys)) = last_label (y ∷ ys)

pub fresh_closes : (opened : List Level) (x : ItemTree) → IsFresh opened x → MayClose opened x.label (effect_of x.shape)
fresh_closes opened x h = record { unhidden = fresh_unhidden x.label opened h; terminal = rw h refl }

pub before_closes : (opened : List Level) (x : ItemTree) (xs : List ItemTree) → FitsBefore opened x xs → MayClose opened x.label (effect_of x.shape)
before_closes opened x [] h = h.may
before_closes opened x (y ∷ ys) h = fresh_closes opened x h

pub before_fresh : (opened : List Level) (x : ItemTree) (xs : List ItemTree) → FitsBefore opened x xs → is_end_do (effect_of x.shape) ≡ true → IsFresh opened x
before_fresh opened x [] h e = h.fresh e
before_fresh opened x (y ∷ ys) h e = h

-- with one more at least behind it
pub before_more : (opened : List Level) (x : ItemTree) (xs : List ItemTree) (y : ItemTree) (ys : List ItemTree) → FitsBefore opened x (xs ++ (y ∷ ys)) → IsFresh opened x
before_more opened x [] y ys h = h
before_more opened x (z ∷ zs) y ys h = h

before_fewer : (opened : List Level) (x : ItemTree) (xs ys : List ItemTree) → FitsBefore opened x (xs ++ ys) → FitsBefore opened x xs
before_fewer opened x [] ys h = record { may = before_closes opened x ys h; fresh = before_fresh opened x ys h }
before_fewer opened x (z ∷ zs) ys h = h

pub fits_left : (opened : List Level) (xs ys : List ItemTree) → Fits opened (xs ++ ys) → Fits opened xs
fits_left opened [] ys h = tt
fits_left opened (x ∷ xs) ys h = (before_fewer opened x xs ys h.0, fits_left opened xs ys h.1)

pub fits_right : (opened : List Level) (xs ys : List ItemTree) → Fits opened (xs ++ ys) → Fits opened ys
fits_right opened [] ys h = h
fits_right opened (x ∷ xs) ys h = fits_right opened xs ys h.1

-- the last one is fresh too where more follow
pub last_fresh : (opened : List Level) (x : ItemTree) (xs : List ItemTree) (y : ItemTree) (ys : List ItemTree) → Fits opened ((x ∷ xs) ++ (y ∷ ys)) → is_named (last_label (x ∷ xs)) opened ≡ false
last_fresh opened x [] y ys h = h.0
last_fresh opened x (z ∷ zs) y ys h = last_fresh opened z zs y ys h.1

pub last_label_push : (front : List ItemTree) (x : ItemTree) → last_label (front ++ x ∷ []) ≡ x.label
last_label_push [] x = refl
last_label_push (f ∷ []) x = refl
last_label_push (f ∷ (g ∷ gs)) x = last_label_push (g ∷ gs) x

pub last_label_append : (xs : List ItemTree) (y : ItemTree) (ys : List ItemTree) → last_label (xs ++ (y ∷ ys)) ≡ last_label (y ∷ ys)
last_label_append [] y ys = refl
last_label_append (x ∷ []) y ys = refl
last_label_append (x ∷ (z ∷ zs)) y ys = last_label_append (z ∷ zs) y ys

-- no DO statement is open
pub fits_body : (xs : List ItemTree) → Fits [] xs
fits_body [] = tt
fits_body (x ∷ []) = (record { may = record { unhidden = refl; terminal = refl }; fresh = λ e. refl }, tt)
fits_body (x ∷ (y ∷ ys)) = (refl, fits_body (y ∷ ys))

-- ---- a range

pub last_closes : (opened : List Level) (front : List ItemTree) (x : ItemTree) (more : List ItemTree) → Fits opened ((front ++ x ∷ []) ++ more) → MayClose opened x.label (effect_of x.shape)
last_closes opened [] x more h = before_closes opened x more h.0
last_closes opened (f ∷ fs) x more h = last_closes opened fs x more h.1

-- where it fits around the range, it fits in it
pub last_end_fresh : (opened : List Level) (front : List ItemTree) (x : ItemTree) (more : List ItemTree) → Fits opened ((front ++ x ∷ []) ++ more) → is_end_do (effect_of x.shape) ≡ true → IsFresh opened x
last_end_fresh opened [] x more h e = before_fresh opened x more h.0 e
last_end_fresh opened (f ∷ fs) x more h e = last_end_fresh opened fs x more h.1 e

-- all before it are fresh
pub before_last : (opened : List Level) (front : List ItemTree) (x : ItemTree) (more : List ItemTree) → Fits opened ((front ++ x ∷ []) ++ more) → AllByRecursion (IsFresh opened) front
before_last opened [] x more h = tt
before_last opened (f ∷ []) x more h = (h.0, tt)
before_last opened (f ∷ (g ∷ gs)) x more h = (h.0, before_last opened (g ∷ gs) x more h.1)

pub fits_range : (s : ℕ) (opened : List Level) (front : List ItemTree) (x : ItemTree) → AllByRecursion (λ y. IsFalse (has_label s y)) front → IsTrue (has_label s x) → IsTrue (may_end (effect_of x.shape)) → is_end_do (effect_of x.shape) ≡ false
    → Fits opened (front ++ x ∷ []) → Fits (in_range (Some s) ∷ opened) (front ++ x ∷ [])
fits_range s opened [] x other same terminal no_end h =
    (record { may = record { unhidden = hidden_behind_same x.label (Some s) opened same ∙ (before_closes opened x [] h.0).unhidden; terminal = ended_by (is_named x.label (in_range (Some s) ∷ opened)) (may_end (effect_of x.shape)) terminal }; fresh = λ e. absurd (true_false (sym e ∙ no_end)) }, tt)
  where
    ended_by : (a b : Bool) → b ≡ true → (a && not b) ≡ false
    ended_by true true e = refl
    ended_by true false e = absurd cc
    ended_by false b e = refl
fits_range s opened (f ∷ fs) x other same terminal no_end h =
    (before_any fs (named_behind_other f.label (Some s) opened other.0 ∙ before_more opened f fs x [] h.0), fits_range s opened fs x other.1 same terminal no_end h.1)
  where
    before_any : (gs : List ItemTree) → IsFresh (in_range (Some s) ∷ opened) f → FitsBefore (in_range (Some s) ∷ opened) f (gs ++ x ∷ [])
    before_any [] e = e
    before_any (g ∷ gs) e = e

-- ---- a block IF

pub fits_fresh : (opened : List Level) (xs : List ItemTree) (x : ItemTree) → IsFresh opened x → Fits opened (xs ++ x ∷ []) → AllByRecursion (IsFresh opened) (xs ++ x ∷ [])
fits_fresh opened [] x f h = (f, tt)
fits_fresh opened (y ∷ ys) x f h = (before_more opened y ys x [] h.0, fits_fresh opened ys x f h.1)

pub fresh_fits : (opened : List Level) (xs : List ItemTree) → AllByRecursion (IsFresh opened) xs → Fits opened xs
fresh_fits opened [] h = tt
fresh_fits opened (x ∷ []) h = (record { may = fresh_closes opened x h.0; fresh = λ e. h.0 }, tt)
fresh_fits opened (x ∷ (y ∷ ys)) h = (h.0, fresh_fits opened (y ∷ ys) h.1)

-- No name stands twice among the variables and arrays of a program unit.
use Rattle.std.proofs.Common.{◌≡◌, ℕ, Bool, true, false, ◌||◌, List, [], ◌∷◌, ◌++◌, map, Result, Ok, Err, refl, sym, ap, ap₂, subst, ◌∙◌}
use Rattle.std.specs.Prelude.{if◌then◌else◌, IfOk}
use Rattle.std.specs.List.{filter, list_any}
use Rattle.std.specs.Str.{bytes_eq}
use Rattle.std.proofs.lemmas.List.Folds.{list_any-append}
use Rattle.meaning.proofs.Keeping.{bytes_eq-swapped}
use Rattle.meaning.specs.Arrays.{Named}
use Rattle.meaning.specs.Uses.{is_array, is_other, symbols_of}
use Rattle.meaning.specs.Values.{Arrays}
use Rattle.meaning.specs.Syntax.{ItemTree}
use Rattle.name_maps.specs.NameSets.{with_name, with_names}
use Rattle.storage.specs.Numbered.{appearing_by, named, variables_of, with_those}
use Rattle.cell_names.specs.Cells.{AreApart, AreOnce}

or_parts : (a b : Bool) → (a || b) ≡ false → (a ≡ false) × (b ≡ false)
or_parts true b h = absurd cc
or_parts false b h = (refl, h)

-- a name more
once_push : (names : List (List ℕ)) (n : List ℕ) → AreOnce names → list_any (bytes_eq n) names ≡ false → AreOnce (names ++ n ∷ [])
once_push [] n once new = (refl, tt)
once_push (m ∷ ms) n once new =
    let p = or_parts (bytes_eq n m) (list_any (bytes_eq n) ms) new in (
      list_any-append (bytes_eq m) ms (n ∷ []) ∙ ap₂ (λ a b. a || (b || false)) once.0 (bytes_eq-swapped n m p.0),
      once_push ms n once.1 p.1,
    )

once_more : (names : List (List ℕ)) (n : List ℕ) → AreOnce names → AreOnce (with_name names n)
once_more names n once = by (list_any (bytes_eq n) names) refl
  where
    by : (b : Bool) → list_any (bytes_eq n) names ≡ b → AreOnce (if b then names else names ++ n ∷ [])
    by true e = once
    by false e = once_push names n once e

once_all : (more names : List (List ℕ)) → AreOnce names → AreOnce (with_names names more)
once_all [] names once = once
once_all (n ∷ ns) names once = once_all ns (with_name names n) (once_more names n once)

-- ---- the names of a program unit

names_are : (arrays : Arrays) (names : List (List ℕ)) → map (λ (x : Named). x.name) (named arrays names) ≡ names
names_are arrays [] = refl
names_are arrays (n ∷ ns) = ap (λ l. n ∷ l) (names_are arrays ns)

variables_once : (all : List ItemTree) → AreOnce (variables_of all)
variables_once all =
    let r = symbols_of all in
    let names = appearing_by r all in
    once_all (filter (is_array r) names) (with_those (is_other r) [] names) (once_all (filter (is_other r) names) [] tt)

all_apart : (arrays : Arrays) (all : List ItemTree) → AreApart (named arrays (variables_of all))
all_apart arrays all = subst AreOnce (sym (names_are arrays (variables_of all))) (variables_once all)

-- what is equal to them has no name twice either
pub apart_by : (xs : List Named) (arrays : Arrays) (all : List ItemTree) → xs ≡ named arrays (variables_of all) → AreApart xs
apart_by xs arrays all is = subst AreApart (sym is) (all_apart arrays all)

-- ---- what follows of a result that is good

pub then_if_ok : {A E : Type 0} (P Q : A → Type 0) (r : Result A E) → ((a : A) → P a → Q a) → IfOk r P → IfOk r Q
then_if_ok P Q (Ok a) f h = f a h
then_if_ok P Q (Err e) f h = tt

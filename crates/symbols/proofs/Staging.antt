-- How far one has come, one statement more.
use Rattle.std.proofs.Common.{◌≡◌, Bool, true, false, ◌&&◌, ◌||◌, List, [], ◌∷◌, ◌++◌, Option, Some, None, option_map, refl}
use Rattle.std.specs.Prelude.{is_some}
use Rattle.std.specs.List.{list_all}
use Rattle.meaning.specs.Syntax.{ItemTree}
use Rattle.meaning.specs.Scopes.{defined_by, is_specification}
use Rattle.meaning.specs.Uses.{Symbols, is_before_executables}

-- the statement isn't executable
abbrev pub stands_before : Symbols → ItemTree → Bool
stands_before r x = is_specification x.shape || is_some (defined_by r.names.arrays x.shape)

all_append : {X : Type 0} (test : X → Bool) (xs : List X) (x : X) → list_all test (xs ++ x ∷ []) ≡ (list_all test xs && test x)
all_append test [] x = and_true (test x)
  where
    and_true : (b : Bool) → (b && true) ≡ b
    and_true true = refl
    and_true false = refl
all_append test (y ∷ ys) x = by_head (test y) (all_append test ys x)
  where
    by_head : (b : Bool) → list_all test (ys ++ x ∷ []) ≡ (list_all test ys && test x) → (b && list_all test (ys ++ x ∷ [])) ≡ ((b && list_all test ys) && test x)
    by_head true h = h
    by_head false h = refl

pub behind_one : (r : Symbols) (before : List ItemTree) (x : ItemTree) → is_before_executables r (before ++ x ∷ []) ≡ (is_before_executables r before && stands_before r x)
behind_one r before x = all_append (stands_before r) before x

-- whether a value stands for one
pub some_map : {A B : Type 0} (f : A → B) (o : Option A) → is_some (option_map f o) ≡ is_some o
some_map f None = refl
some_map f (Some a) = refl

-- The first of the names that a statement defines and uses.
use Rattle.std.proofs.Common.{◌≡◌, Bool, true, false, ◌&&◌, List, [], ◌∷◌, ◌++◌, map, cond, refl, sym, ap, ◌∙◌, Option, Some, None, option_map}
use Rattle.std.specs.Prelude.{is_none, not, ◌||◌}
use Rattle.std.specs.List.{filter, find}
use Rattle.std.specs.Option.{option_or}
use Rattle.std.proofs.lemmas.List.Folds.{find-append}
use Rattle.meaning.specs.NameRules.{is_real, is_real_use, names_used}
use Rattle.meaning.specs.Uses.{Symbols, Use, is_other}

pub found_before : {X : Type 0} (test : X → Bool) (xs ys : List X) (x : X) → Some x ≡ find test xs → Some x ≡ find test (xs ++ ys)
found_before test xs ys x is = ap (λ o. option_or o (find test ys)) is ∙ sym (find-append test xs ys)

pub found_behind : {X : Type 0} (test : X → Bool) (xs ys : List X) (o : Option X) → None ≡ find test xs → o ≡ find test ys → o ≡ find test (xs ++ ys)
found_behind test xs ys o none is =
    is ∙ ap (λ p. option_or p (find test ys)) none ∙ sym (find-append test xs ys)

-- the name of the first use that is REAL is the first name that is among those of such uses
pub used_first : (r : Symbols) (us : List Use) → find (is_real r) (names_used (is_real_use r) us) ≡ option_map (λ (u : Use). u.name) (find (is_real_use r) us)
used_first r [] = refl
used_first r (u ∷ us) = by_test (is_real r u.name) (is_none u.arguments || not (is_other r u.name)) refl (used_first r us)
  where
    by_test : (b q : Bool) → is_real r u.name ≡ b → find (is_real r) (names_used (is_real_use r) us) ≡ option_map (λ (v : Use). v.name) (find (is_real_use r) us) → find (is_real r) (map (λ (v : Use). v.name) (cond (b && q) (u ∷ filter (is_real_use r) us) (filter (is_real_use r) us))) ≡ option_map (λ (v : Use). v.name) (cond (b && q) (Some u) (find (is_real_use r) us))
    by_test true true is more = ap (λ c. cond c (Some u.name) (find (is_real r) (names_used (is_real_use r) us))) is
    by_test true false is more = more
    by_test false q is more = more

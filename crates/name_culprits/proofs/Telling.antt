-- What is told of a name is a witness.
use Rattle.std.proofs.Common.{◌≡◌, ℕ, Bool, true, false, ◌||◌, ◌&&◌, List, [], ◌∷◌, ◌++◌, refl, sym, ap, ap₂, ◌∙◌, Option, Some, None, option_map, inl, inr}
use Rattle.std.specs.Prelude.{flat_map, ◌⊎◌}
use Rattle.std.specs.List.{find, list_any}
use Rattle.std.specs.Option.{option_or}
use Rattle.meaning.specs.NameRules.{Given, given_by, given_from, given_twice, has_rival, has_two_roles, is_against_role, is_both, is_disputed, is_implicit, is_logical_function, letters_clash, letters_in, repeats, sets_constant, shares}
use Rattle.meaning.specs.Syntax.{ItemTree, ShapeTree, assignment, definition, logical_if, implying, implicit_none}
use Rattle.meaning.specs.Types.{has_implicit_none, is_implicit_none}
use Rattle.meaning.specs.Uses.{Symbols, Use, is_constant, is_defining, parts_at, parts_from, uses_at}
use Rattle.finding.specs.Answers.{IsAnswer}
use Rattle.finding.proofs.Answering.{find_answer, or_answer, test_answer, weaker_answer}
use Rattle.finding.proofs.Found.{any_found, found, none_found}
use Rattle.name_culprits.specs.declared.culprit.Giving.TheVariants.{Typed, Bounds, Value, Expression, Either}
use Rattle.name_culprits.specs.Names.{again_in, against_told, assigned_in, disputed_in, given_in, line_if, names_by, rival_in, shared_in, twice_in, two_roles_in, used_in}
use Rattle.name_culprits.specs.Told.{Told, assigned, rival}
use Rattle.name_culprits.specs.Witness.{IsAgainst, IsAssigned, IsBy, IsGiven, IsRival, IsTold, IsUsed, breaks_in_part, is_misused, is_overgiven}
use Rattle.name_culprits.proofs.Already.{shared_answer, twice_answer}

-- either of two, whose witnesses are apart
either_answer : {K : Type 0} (p q : K → Type 0) (a b : Bool) (o u : Option K) → IsAnswer p a o → IsAnswer q b u → IsAnswer (λ k. p k ⊎ q k) (a || b) (option_or o u)
either_answer {K} p q a b o u h g =
    let all : K → Type 0 = λ k. p k ⊎ q k in
    or_answer all a b o u (weaker_answer p all a o (λ k w. inl w) h) (weaker_answer q all b u (λ k w. inr w) g)

-- ---- what is given

module _ (r : Symbols) (before : List ItemTree) (x : ItemTree) where
  abbrev gs : List Given
  gs = given_from r [] before

  overgiven_answer : (g : Given) → IsAnswer (IsGiven r before x) (given_twice gs g || has_two_roles gs g) (given_in r before x.line g)
  overgiven_answer g =
      let by = IsGiven r before x in
      let t = repeats (flat_map (names_by Typed) gs) g.typed in
      let b = repeats (flat_map (names_by Bounds) gs) g.bounded in
      let v = repeats (flat_map (names_by Value) gs) g.valued in
      let d = repeats (flat_map (names_by Expression) gs) g.defined in
      or_answer by (t || (b || (v || d))) (has_two_roles gs g) (twice_in r before x.line g) (two_roles_in r before g) (or_answer by t (b || (v || d)) (again_in r Typed before x.line [] g.typed) (option_or (again_in r Bounds before x.line [] g.bounded) (option_or (again_in r Value before x.line [] g.valued) (again_in r Expression before x.line [] g.defined))) (twice_answer r before x Typed g.typed) (or_answer by b (v || d) (again_in r Bounds before x.line [] g.bounded) (option_or (again_in r Value before x.line [] g.valued) (again_in r Expression before x.line [] g.defined)) (twice_answer r before x Bounds g.bounded) (or_answer by v d (again_in r Value before x.line [] g.valued) (again_in r Expression before x.line [] g.defined) (twice_answer r before x Value g.valued) (twice_answer r before x Expression g.defined)))) (or_answer by (shares g.valued (flat_map (names_by Either) gs)) (shares (g.bounded ++ g.defined) (flat_map (names_by Value) gs)) (shared_in r Either before g.valued) (shared_in r Value before (g.bounded ++ g.defined)) (shared_answer r before x Either g.valued) (shared_answer r before x Value (g.bounded ++ g.defined)))

-- ---- what is used

assigned_answer : (r : Symbols) (s : ShapeTree) → IsAnswer (IsAssigned r s) (sets_constant r s) (assigned_in r s)
assigned_answer r (assignment n es e) = test_answer (IsAssigned r (assignment n es e)) (is_constant r n) (assigned n) (λ h. (n, refl, h, refl))
assigned_answer r (definition n e) = test_answer (IsAssigned r (definition n e)) (is_constant r n) (assigned n) (λ h. (n, refl, h, refl))
assigned_answer r (logical_if e s) = assigned_answer r s
assigned_answer r s = refl

used_answer : (r : Symbols) (before : List ItemTree) (x : ItemTree) → IsAnswer (IsUsed r before x) (is_misused r before x) (used_in r (uses_at r before x) x.shape)
used_answer r before x =
    let us = uses_at r before x in
    either_answer (IsAgainst r us) (IsAssigned r x.shape) (list_any (is_against_role r) us) (sets_constant r x.shape) (option_map against_told (find (is_against_role r) us)) (assigned_in r x.shape) (find_answer (IsAgainst r us) against_told (is_against_role r) us (λ u at. (u, at.stands, at.passes, refl))) (assigned_answer r x.shape)

-- ---- IMPLICIT NONE

none_implicit : (s : ShapeTree) → is_implicit s ≡ false → is_implicit_none s ≡ false
none_implicit implicit_none is = absurd cc
none_implicit s is = refl

or_false_first : (a b : Bool) → (a || b) ≡ false → a ≡ false
or_false_first true b is = absurd cc
or_false_first false b is = refl

or_false_second : (a b : Bool) → (a || b) ≡ false → b ≡ false
or_false_second true b is = absurd cc
or_false_second false b is = is

no_implicit : (xs : List ItemTree) → list_any (λ (y : ItemTree). is_implicit y.shape) xs ≡ false → has_implicit_none xs ≡ false
no_implicit [] is = refl
no_implicit (x ∷ xs) is =
    let any = list_any (λ (y : ItemTree). is_implicit y.shape) xs in
    ap₂ ◌||◌ (none_implicit x.shape (or_false_first (is_implicit x.shape) any is)) (no_implicit xs (or_false_second (is_implicit x.shape) any is))

implicit_is : (s : ShapeTree) → is_implicit_none s ≡ true → is_implicit s ≡ true
implicit_is implicit_none is = refl
implicit_is s is = absurd cc

module _ (before : List ItemTree) where
  any_rival : IsAnswer (IsRival before) (list_any (λ (y : ItemTree). is_implicit y.shape) before || has_implicit_none before) (option_map rival (line_if (find (λ (y : ItemTree). is_implicit y.shape) before)))
  any_rival = by_option (find (λ (y : ItemTree). is_implicit y.shape) before) refl
    where
      by_option : (o : Option ItemTree) → find (λ (y : ItemTree). is_implicit y.shape) before ≡ o → IsAnswer (IsRival before) (list_any (λ (y : ItemTree). is_implicit y.shape) before || has_implicit_none before) (option_map rival (line_if o))
      by_option (Some y) at =
          let f = found (λ (z : ItemTree). is_implicit z.shape) before y at in
          (ap (λ b. b || has_implicit_none before) (any_found (λ (z : ItemTree). is_implicit z.shape) before y at), (y, f.stands, f.passes, refl))
      by_option None at =
          let none = none_found (λ (z : ItemTree). is_implicit z.shape) before at in
          ap₂ ◌||◌ none (no_implicit before none)

  none_rival : IsAnswer (IsRival before) (has_implicit_none before) (option_map rival (line_if (find (λ (y : ItemTree). is_implicit_none y.shape) before)))
  none_rival = by_option (find (λ (y : ItemTree). is_implicit_none y.shape) before) refl
    where
      by_option : (o : Option ItemTree) → find (λ (y : ItemTree). is_implicit_none y.shape) before ≡ o → IsAnswer (IsRival before) (has_implicit_none before) (option_map rival (line_if o))
      by_option (Some y) at =
          let f = found (λ (z : ItemTree). is_implicit_none z.shape) before y at in
          (any_found (λ (z : ItemTree). is_implicit_none z.shape) before y at, (y, f.stands, implicit_is y.shape f.passes, refl))
      by_option None at = none_found (λ (z : ItemTree). is_implicit_none z.shape) before at

  rival_answer : (s : ShapeTree) → IsAnswer (IsRival before) ((is_implicit_none s && list_any (λ (y : ItemTree). is_implicit y.shape) before) || (is_implicit s && has_implicit_none before)) (rival_in before s)
  rival_answer implicit_none = any_rival
  rival_answer (implying ps) = none_rival
  rival_answer s = refl

-- ---- all of it

part_whole : (a b c d e f : Bool) → (a || (b || c)) ≡ true → (a || (b || (d || (e || (f || c))))) ≡ true
part_whole true b c d e f is = refl
part_whole false true c d e f is = refl
part_whole false false true true e f is = refl
part_whole false false true false true f is = refl
part_whole false false true false false true is = refl
part_whole false false true false false false is = refl
part_whole false false false d e f is = absurd cc

pub names_told : (r : Symbols) (before : List ItemTree) (x : ItemTree) → IsTold r before x (disputed_in r before x)
names_told r before x =
    let g = given_by r (is_defining r before x) x.shape in
    by_answer (disputed_in r before x) (either_answer (IsGiven r before x) (λ k. IsUsed r before x k ⊎ IsRival before k) (is_overgiven r before x) (is_misused r before x || has_rival before x) (given_in r before x.line g) (option_or (used_in r (uses_at r before x) x.shape) (rival_in before x.shape)) (overgiven_answer r before x g) (either_answer (IsUsed r before x) (IsRival before) (is_misused r before x) (has_rival before x) (used_in r (uses_at r before x) x.shape) (rival_in before x.shape) (used_answer r before x) (rival_answer before x.shape)))
  where
    by_answer : (o : Option Told) → IsAnswer (IsBy r before x) (breaks_in_part r before x) o → IsTold r before x o
    by_answer (Some k) h =
        (part_whole (is_overgiven r before x) (is_misused r before x) (has_rival before x) (is_both r (parts_from r [] before) (parts_at r before x)) (is_logical_function r before (parts_from r [] before).reads x (parts_at r before x).reads) (letters_clash (flat_map letters_in before) (letters_in x)) h.0, h.1)
    by_answer None h = h

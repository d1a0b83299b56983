-- Statements that break no rule one behind the other, and what is open behind them.
use Rattle.std.proofs.Common.{◌≡◌, ℕ, false, List, [], ◌∷◌, ◌++◌, Option, Some, None, refl, sym, ap, subst, ◌∙◌}
use Rattle.meaning.specs.Syntax.{ItemTree}
use Rattle.meaning.specs.Trees.{Members, none}
use Rattle.meaning.specs.Nesting.{Unfinished, ended, body, range, branch, is_label_named, levels, is_ended, is_named, joined, add, past, behind}
use Rattle.nesting_laws.proofs.Joined.{joined_none, joined_joined}
use Rattle.nesting_laws.proofs.Names.{or_left}
use Rattle.nesting_laws.proofs.Sound.{add_longer}
use Rattle.nesting_laws.proofs.Clear.{IsClearOf}
use Rattle.nesting_laws.proofs.Passed.{IsUnbroken}

pub record Goes (z : Unfinished) (xs : List ItemTree) (y : Unfinished) : Type 0 where
  pub unbroken : IsUnbroken z xs
  pub reached : behind z xs ≡ y

pub goes_one : (z : Unfinished) (x : ItemTree) (y : Unfinished) → IsClearOf z x → past z x ≡ y → Goes z (x ∷ []) y
goes_one z x y k e = record { unbroken = (k, tt); reached = e }

unbroken_append : (z : Unfinished) (xs ys : List ItemTree) → IsUnbroken z xs → IsUnbroken (behind z xs) ys → IsUnbroken z (xs ++ ys)
unbroken_append z [] ys u w = w
unbroken_append z (x ∷ xs) ys u w = (u.0, unbroken_append (past z x) xs ys u.1 w)

pub behind_append : (z : Unfinished) (xs ys : List ItemTree) → behind z (xs ++ ys) ≡ behind (behind z xs) ys
behind_append z [] ys = refl
behind_append z (x ∷ xs) ys = behind_append (past z x) xs ys

pub goes_both : (z : Unfinished) (xs ys : List ItemTree) (y w : Unfinished) → Goes z xs y → Goes y ys w → Goes z (xs ++ ys) w
goes_both z xs ys y w g h = record {
  unbroken = unbroken_append z xs ys g.unbroken (subst (λ (u : Unfinished). IsUnbroken u ys) (sym g.reached) h.unbroken);
  reached = behind_append z xs ys ∙ ap (λ u. behind u ys) g.reached ∙ h.reached;
}

pub front_unbroken : (z : Unfinished) (xs ys : List ItemTree) → IsUnbroken z (xs ++ ys) → IsUnbroken z xs
front_unbroken z [] ys h = tt
front_unbroken z (x ∷ xs) ys h = (h.0, front_unbroken (past z x) xs ys h.1)

-- ---- a member whose last label no open DO statement names

pub add_fresh : (z : Unfinished) (l : Option ℕ) (more : Members) → is_named l (levels z) ≡ false → add l more z ≡ add None more z
add_fresh (ended ms) l more h = refl
add_fresh (body ms) l more h = refl
add_fresh (range head s ms around) l more h = add_longer l more head s ms around (or_left (is_label_named l s) (is_named l (levels around)) h) ∙ sym (add_longer None more head s ms around (unnamed s))
  where
    unnamed : (s : Option ℕ) → is_label_named None s ≡ false
    unnamed None = refl
    unnamed (Some n) = refl
add_fresh (branch arms head ms around) l more h = refl

pub add_levels : (z : Unfinished) (more : Members) → levels (add None more z) ≡ levels z
add_levels (ended ms) more = refl
add_levels (body ms) more = refl
add_levels (range head None ms around) more = refl
add_levels (range head (Some s) ms around) more = refl
add_levels (branch arms head ms around) more = refl

pub add_goes_on : (z : Unfinished) (more : Members) → is_ended (add None more z) ≡ is_ended z
add_goes_on (ended ms) more = refl
add_goes_on (body ms) more = refl
add_goes_on (range head None ms around) more = refl
add_goes_on (range head (Some s) ms around) more = refl
add_goes_on (branch arms head ms around) more = refl

pub add_nothing : (z : Unfinished) → add None none z ≡ z
add_nothing (ended ms) = ap (λ (m : Members). ended m) (joined_none ms)
add_nothing (body ms) = ap (λ (m : Members). body m) (joined_none ms)
add_nothing (range head None ms around) = ap (λ (m : Members). range head None m around) (joined_none ms)
add_nothing (range head (Some s) ms around) = ap (λ (m : Members). range head (Some s) m around) (joined_none ms)
add_nothing (branch arms head ms around) = ap (λ (m : Members). branch arms head m around) (joined_none ms)

pub add_add : (z : Unfinished) (l : Option ℕ) (a b : Members) → add l b (add None a z) ≡ add l (joined a b) z
add_add (ended ms) l a b = ap (λ (m : Members). ended m) (joined_joined ms a b)
add_add (body ms) l a b = ap (λ (m : Members). body m) (joined_joined ms a b)
add_add (range head None ms around) l a b = rw (joined_joined ms a b) refl
add_add (range head (Some s) ms around) l a b = rw (joined_joined ms a b) refl
add_add (branch arms head ms around) l a b = ap (λ (m : Members). branch arms head m around) (joined_joined ms a b)

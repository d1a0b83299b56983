-- Sets of names, one name or some names more.
use Rattle.std.proofs.Common.{◌≡◌, ℕ, Bool, true, false, ◌||◌, List, [], ◌∷◌, ◌++◌, refl, sym, ap, ◌∙◌}
use Rattle.std.specs.Global.{Vec}
use Rattle.std.specs.Prelude.{if◌then◌else◌}
use Rattle.std.specs.Str.{bytes_eq}
use Rattle.std.specs.List.{list_any}
use Rattle.std.proofs.lemmas.List.{map-append}
use Rattle.std.proofs.lemmas.List.Folds.{list_any-append}
use Rattle.std.proofs.lemmas.List.Sums.{fold-append}
use Rattle.std.proofs.lemmas.Slice.Eq.{bytes_eq-Decides}
use Rattle.name_maps.specs.NameSets.{texts, with_name, with_names}

-- names behind those that are there, in two parts
pub with_names_append : (names a b : List (List ℕ)) → with_names names (a ++ b) ≡ with_names (with_names names a) b
with_names_append names a b = fold-append with_name names a b

-- ---- a name

-- whether a name is there, by the keys and by their texts
pub texts_any : (n : List ℕ) (keys : List (Vec ℕ)) → list_any (λ k. bytes_eq n k.items) keys ≡ list_any (bytes_eq n) (texts keys)
texts_any n [] = refl
texts_any n (k ∷ ks) = ap (λ b. bytes_eq n k.items || b) (texts_any n ks)

-- it stays where the name is there
pub name_there : (keys : List (Vec ℕ)) (n : List ℕ) (told : Bool) → told ≡ list_any (λ k. bytes_eq n k.items) keys → told ≡ true → texts keys ≡ with_name (texts keys) n
name_there keys n told is there =
    sym (ap (λ b. if b then texts keys else texts keys ++ n ∷ []) (sym (texts_any n keys) ∙ sym is ∙ there))

-- else the name goes last
pub name_new : (keys new : List (Vec ℕ)) (own : Vec ℕ) (n : List ℕ) (told : Bool) → told ≡ list_any (λ k. bytes_eq n k.items) keys → told ≡ false → own.items ≡ n → new ≡ (if list_any (λ k. bytes_eq own.items k.items) keys then keys else keys ++ own ∷ []) → texts new ≡ with_name (texts keys) n
name_new keys new own n told is new_name same added =
    let none : list_any (λ k. bytes_eq n k.items) keys ≡ false = sym is ∙ new_name in
    let pushed : new ≡ keys ++ own ∷ [] = added ∙ ap (λ x. if list_any (λ k. bytes_eq x k.items) keys then keys else keys ++ own ∷ []) same ∙ ap (λ b. if b then keys else keys ++ own ∷ []) none in
    ap texts pushed ∙ map-append (λ k. k.items) keys (own ∷ []) ∙ ap (λ x. texts keys ++ x ∷ []) same
    ∙ sym (ap (λ b. if b then texts keys else texts keys ++ n ∷ []) (sym (texts_any n keys) ∙ none))

-- ---- whether a name is among them

or_true : (b : Bool) → (b || true) ≡ true
or_true true = refl
or_true false = refl

or_false : (b : Bool) → (b || false) ≡ b
or_false true = refl
or_false false = refl

or_grouped : (a b c : Bool) → ((a || b) || c) ≡ (a || (b || c))
or_grouped true b c = refl
or_grouped false b c = refl

-- a name that is equal to one that is there is there
any_equal : (names : List (List ℕ)) (n m : List ℕ) → list_any (bytes_eq m) names ≡ true → list_any (bytes_eq n) names ≡ (list_any (bytes_eq n) names || bytes_eq n m)
any_equal names n m there = by_test (bytes_eq n m) refl
  where
    by_test : (b : Bool) → bytes_eq n m ≡ b → list_any (bytes_eq n) names ≡ (list_any (bytes_eq n) names || b)
    by_test true same =
        ap (λ k. list_any (bytes_eq k) names) ((bytes_eq-Decides n m).0 same) ∙ there ∙ sym (or_true (list_any (bytes_eq n) names))
    by_test false other = sym (or_false (list_any (bytes_eq n) names))

any_with_name : (names : List (List ℕ)) (n m : List ℕ) → list_any (bytes_eq n) (with_name names m) ≡ (list_any (bytes_eq n) names || bytes_eq n m)
any_with_name names n m = by_test (list_any (bytes_eq m) names) refl
  where
    by_test : (b : Bool) → list_any (bytes_eq m) names ≡ b → list_any (bytes_eq n) (if b then names else names ++ m ∷ []) ≡ (list_any (bytes_eq n) names || bytes_eq n m)
    by_test true there = any_equal names n m there
    by_test false new = list_any-append (bytes_eq n) names (m ∷ []) ∙ ap (λ b. list_any (bytes_eq n) names || b) (or_false (bytes_eq n m))

pub any_with_names : (names more : List (List ℕ)) (n : List ℕ) → list_any (bytes_eq n) (with_names names more) ≡ (list_any (bytes_eq n) names || list_any (bytes_eq n) more)
any_with_names names [] n = sym (or_false (list_any (bytes_eq n) names))
any_with_names names (m ∷ more) n =
    any_with_names (with_name names m) more n ∙ ap (λ b. b || list_any (bytes_eq n) more) (any_with_name names n m)
    ∙ or_grouped (list_any (bytes_eq n) names) (bytes_eq n m) (list_any (bytes_eq n) more)

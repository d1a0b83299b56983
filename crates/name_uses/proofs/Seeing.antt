-- Names that were seen, one name or some names more.
use Rattle.std.proofs.Common.{◌≡◌, ℕ, ◌+◌, ◌<◌, ◌≤◌, Bool, true, false, ◌||◌, List, [], ◌∷◌, ◌++◌, length, get_or, drop, refl, sym, ap, ap₂, ◌∙◌}
use Rattle.std.specs.Borrow.{Bor}
use Rattle.std.specs.Global.{Vec}
use Rattle.std.specs.Str.{bytes_eq}
use Rattle.std.specs.List.{list_any}
use Rattle.std.proofs.lemmas.List.{drop_more, drop_all, get_or_default}
use Rattle.std.proofs.lemmas.List.Folds.{list_any-append}
use Rattle.meaning.specs.NameRules.{repeats}
use Rattle.meaning.specs.Uses.{is_one_of}
use Rattle.name_maps.specs.NameSets.{texts, with_name, with_names}
use Rattle.name_maps.proofs.NameSets.{any_with_names}
use Rattle.name_uses.specs.Held.{Holds, names_at}

-- ---- sets

pub holds_none : (keys : List (Vec ℕ)) → keys ≡ [] → Holds keys []
holds_none keys empty n = ap (λ ks. is_one_of (texts ks) n) empty

pub holds_more : (old new : List (Vec ℕ)) (names more : List (List ℕ)) → Holds old names → texts new ≡ with_names (texts old) more → Holds new (names ++ more)
holds_more old new names more held added n =
    ap (λ ns. is_one_of ns n) added ∙ any_with_names (texts old) more n ∙ ap (λ b. b || is_one_of more n) (held n)
    ∙ sym (list_any-append (bytes_eq n) names more)

-- a set that was made of names
pub made_of : (old new : List (Vec ℕ)) (names : List (List ℕ)) → old ≡ [] → texts new ≡ with_names (texts old) names → Holds new names
made_of old new names empty added n =
    ap (λ ns. is_one_of ns n) added ∙ any_with_names (texts old) names n ∙ ap (λ ks. is_one_of (texts ks) n || is_one_of names n) empty

-- names that are equal to one another's tests
pub sought_same : (a b : List (List ℕ)) → ((n : List ℕ) → is_one_of a n ≡ is_one_of b n) → (ns : List (List ℕ)) → list_any (is_one_of a) ns ≡ list_any (is_one_of b) ns
sought_same a b same [] = refl
sought_same a b same (n ∷ ns) = ap₂ ◌||◌ (same n) (sought_same a b same ns)

pub repeats_same : (a b : List (List ℕ)) → ((n : List ℕ) → is_one_of a n ≡ is_one_of b n) → (ns : List (List ℕ)) → repeats a ns ≡ repeats b ns
repeats_same a b same [] = refl
repeats_same a b same (n ∷ ns) =
    ap₂ ◌||◌ (same n) (repeats_same (n ∷ a) (n ∷ b) (λ m. ap (λ t. bytes_eq m n || t) (same m)) ns)

-- one of some names or of others
pub sought_both : (a b ns : List (List ℕ)) → list_any (is_one_of (a ++ b)) ns ≡ (list_any (is_one_of a) ns || list_any (is_one_of b) ns)
sought_both a b [] = refl
sought_both a b (n ∷ ns) =
    ap₂ ◌||◌ (list_any-append (bytes_eq n) a b) (sought_both a b ns)
    ∙ regroup (is_one_of a n) (is_one_of b n) (list_any (is_one_of a) ns) (list_any (is_one_of b) ns)
  where
    regroup : (p q s t : Bool) → ((p || q) || (s || t)) ≡ ((p || s) || (q || t))
    regroup true q s t = refl
    regroup false true true t = refl
    regroup false true false t = refl
    regroup false false s t = refl

-- ---- names that stand twice

-- those of a list that are left
abbrev pub left : List (Bor (List ℕ)) → ℕ → List (List ℕ)
left names i = names_at (drop i names)

left_is : (names : List (Bor (List ℕ))) (i : ℕ) (name : Bor (List ℕ)) → i < length names → name ≡ get_or names i name → left names i ≡ name.now ∷ left names (i + 1)
left_is names i name lt is =
    ap names_at (drop_more names i name lt) ∙ ap (λ x. x.now ∷ left names (i + 1)) (sym is)

module _ (seen : List (List ℕ)) (names : List (Bor (List ℕ))) (i : ℕ) (name : Bor (List ℕ)) (lt : i < length names) (is : name ≡ get_or names i name) (all : Bool) where
  true_or : (a b : Bool) → a ≡ true → true ≡ (a || b)
  true_or true b h = refl
  true_or false b h = absurd cc

  or_true : (a b : Bool) → b ≡ true → true ≡ (a || b)
  or_true true b h = refl
  or_true false b h = sym h

  found : (here : List (List ℕ)) → is_one_of (here ++ seen) name.now ≡ true → repeats (here ++ seen) (left names i) ≡ all → true ≡ all
  found here there so_far =
      true_or (is_one_of (here ++ seen) name.now) (repeats (name.now ∷ (here ++ seen)) (left names (i + 1))) there
      ∙ sym (ap (repeats (here ++ seen)) (left_is names i name lt is)) ∙ so_far

  pub was_seen : (here : List (List ℕ)) → is_one_of seen name.now ≡ true → repeats (here ++ seen) (left names i) ≡ all → true ≡ all
  was_seen here there so_far =
      found here (list_any-append (bytes_eq name.now) here seen ∙ sym (or_true (is_one_of here name.now) (is_one_of seen name.now) there)) so_far

  pub stands_here : (here : List (List ℕ)) → is_one_of here name.now ≡ true → repeats (here ++ seen) (left names i) ≡ all → true ≡ all
  stands_here here there so_far =
      found here (list_any-append (bytes_eq name.now) here seen ∙ sym (true_or (is_one_of here name.now) (is_one_of seen name.now) there)) so_far

  pub goes_on : (here next : List (List ℕ)) → is_one_of seen name.now ≡ false → is_one_of here name.now ≡ false → next ≡ with_name here name.now → repeats (here ++ seen) (left names i) ≡ all → repeats (next ++ seen) (left names (i + 1)) ≡ all
  goes_on here next unseen new added so_far =
      repeats_same (next ++ seen) (name.now ∷ (here ++ seen)) same (left names (i + 1))
      ∙ ap (λ b. b || repeats (name.now ∷ (here ++ seen)) (left names (i + 1))) (sym (list_any-append (bytes_eq name.now) here seen ∙ ap₂ ◌||◌ new unseen))
      ∙ sym (ap (repeats (here ++ seen)) (left_is names i name lt is)) ∙ so_far
    where
      regroup : (p q s : Bool) → ((p || (q || false)) || s) ≡ (q || (p || s))
      regroup true true s = refl
      regroup true false s = refl
      regroup false true s = refl
      regroup false false s = refl

      same : (m : List ℕ) → is_one_of (next ++ seen) m ≡ is_one_of (name.now ∷ (here ++ seen)) m
      same m =
          list_any-append (bytes_eq m) next seen
          ∙ ap (λ b. b || is_one_of seen m) (ap (λ ns. is_one_of ns m) added ∙ any_with_names here (name.now ∷ []) m)
          ∙ regroup (is_one_of here m) (bytes_eq m name.now) (is_one_of seen m)
          ∙ ap (λ b. bytes_eq m name.now || b) (sym (list_any-append (bytes_eq m) here seen))

pub none_left : (earlier : List (List ℕ)) (names : List (Bor (List ℕ))) (i : ℕ) (all : Bool) → length names ≤ i → repeats earlier (left names i) ≡ all → false ≡ all
none_left earlier names i all le so_far =
    sym (ap (λ xs. repeats earlier (names_at xs)) (drop_all i names le)) ∙ so_far

-- an element that was read with a default
abbrev pub nameless : Bor (List ℕ)
nameless = record { ref_ptr = (0, 0); now = [] }

pub read_is : {X : Type 0} (xs : List X) (i : ℕ) (d : X) → i < length xs → get_or xs i d ≡ get_or xs i (get_or xs i d)
read_is xs i d lt = get_or_default xs i d (get_or xs i d) lt

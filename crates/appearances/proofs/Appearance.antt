-- Variables and arrays as they appear, some names or one statement more.
use Rattle.std.proofs.Common.{◌≡◌, ℕ, ◌+◌, ◌<◌, Bool, true, false, List, [], ◌∷◌, ◌++◌, length, get_or, take, map, append_assoc, refl, sym, ap, ap₂, ◌∙◌}
use Rattle.std.specs.Prelude.{if◌then◌else◌}
use Rattle.std.specs.Borrow.{Bor}
use Rattle.std.specs.Global.{Vec}
use Rattle.std.specs.List.{filter}
use Rattle.std.proofs.lemmas.List.{append-nil, map-append}
use Rattle.std.proofs.lemmas.List.Elements.{filter-append}
use Rattle.meaning.specs.declared.syntax.Item.{Item}
use Rattle.meaning.specs.Scopes.{declarators_in}
use Rattle.meaning.specs.Syntax.{DeclaratorTree, ItemTree}
use Rattle.meaning.specs.Uses.{Symbols, Use, is_defining, parts_of, uses_at}
use Rattle.symbols.specs.Listed.{tree_at, trees_at}
use Rattle.name_maps.specs.NameSets.{texts, with_name, with_names}
use Rattle.name_maps.proofs.NameSets.{with_names_append}
use Rattle.symbols.proofs.Passes.{map_more}
use Rattle.storage.specs.Numbered.{is_variable, names_at, names_from, with_those, with_variables}

-- ---- names that pass a test

module _ (test : List ℕ → Bool) where
  pub with_those_append : (names a b : List (List ℕ)) → with_those test names (a ++ b) ≡ with_those test (with_those test names a) b
  with_those_append names a b =
      ap (with_names names) (filter-append test a b) ∙ with_names_append names (filter test a) (filter test b)

  -- a name more, where it passes, and where it doesn't
  pub passing_more : (names : List (List ℕ)) (n : List ℕ) → test n ≡ true → with_name names n ≡ with_those test names (n ∷ [])
  passing_more names n h = ap (λ b. with_names names (if b then n ∷ [] else [])) (sym h)

  pub failing_more : (names : List (List ℕ)) (n : List ℕ) → test n ≡ false → names ≡ with_those test names (n ∷ [])
  failing_more names n h = ap (λ b. with_names names (if b then n ∷ [] else [])) (sym h)

  pub those_more : (front before now next : List (List ℕ)) (n : List ℕ) → now ≡ with_those test front before → next ≡ with_those test now (n ∷ []) → next ≡ with_those test front (before ++ n ∷ [])
  those_more front before now next n so_far added =
      added ∙ ap (λ ns. with_those test ns (n ∷ [])) so_far ∙ sym (with_those_append front before (n ∷ []))

  -- a name of a set more
  pub text_more : (xs : List (Vec ℕ)) (i : ℕ) (x : Vec ℕ) (front now next : List (List ℕ)) → i < length xs → x ≡ get_or xs i x → now ≡ with_those test front (texts (take i xs)) → next ≡ with_those test now (x.items ∷ []) → next ≡ with_those test front (texts (take (i + 1) xs))
  text_more xs i x front now next lt is so_far added =
      those_more front (texts (take i xs)) now next x.items so_far added ∙ ap (with_those test front) (sym (map_more (λ (k : Vec ℕ). k.items) xs i x lt is))

-- ---- variables and arrays as they appear

-- the names of a statement, those that it declares in front of the others
pub item_names : (r : Symbols) (before : List ItemTree) (x : ItemTree) (old mid new : List (List ℕ)) (ds : List DeclaratorTree) (us : List Use) (defines : Bool) → ds ≡ declarators_in x.shape → defines ≡ is_defining r before x → us ≡ (parts_of r defines x.shape).sets ++ (parts_of r defines x.shape).reads → mid ≡ with_variables r old (map (λ d. d.name) ds) → new ≡ with_variables r mid (map (λ u. u.name) us) → new ≡ with_variables r old (names_at r before x)
item_names r before x old mid new ds us defines declared is used first second =
    let uses : us ≡ uses_at r before x = used ∙ ap (λ b. (parts_of r b x.shape).sets ++ (parts_of r b x.shape).reads) is in
    second
    ∙ ap₂ (λ ns vs. with_variables r ns (map (λ u. u.name) vs)) (first ∙ ap (λ es. with_variables r old (map (λ d. d.name) es)) declared) uses
    ∙ sym (with_those_append (is_variable r) old (map (λ d. d.name) (declarators_in x.shape)) (map (λ u. u.name) (uses_at r before x)))

-- name gives the name of an element's tree
pub variables_more : {X Y : Type 0} (r : Symbols) (tree : X → Y) (name : Y → List ℕ) (xs : List X) (i : ℕ) (x : X) (front now next : List (List ℕ)) → i < length xs → x ≡ get_or xs i x → now ≡ with_variables r front (map name (map tree (take i xs))) → next ≡ with_variables r now (name (tree x) ∷ []) → next ≡ with_variables r front (map name (map tree (take (i + 1) xs)))
variables_more r tree name xs i x front now next lt is so_far added =
    let before = map tree (take i xs) in
    those_more (is_variable r) front (map name before) now next (name (tree x)) so_far added
    ∙ ap (with_variables r front) (sym (map-append name before (tree x ∷ [])) ∙ ap (map name) (sym (map_more tree xs i x lt is)))

names_from-push : (r : Symbols) (before xs : List ItemTree) (x : ItemTree) → names_from r before (xs ++ x ∷ []) ≡ names_from r before xs ++ names_at r (before ++ xs) x
unfolding names_from
names_from-push r before [] x =
    append-nil (names_at r before x) ∙ ap (λ b. names_at r b x) (sym (append-nil before))
names_from-push r before (y ∷ ys) x =
    ap (λ ns. names_at r before y ++ ns) (names_from-push r (before ++ y ∷ []) ys x ∙ ap (λ b. names_from r (before ++ y ∷ []) ys ++ names_at r b x) (append_assoc before (y ∷ []) ys))
    ∙ sym (append_assoc (names_at r before y) (names_from r (before ++ y ∷ []) ys) (names_at r (before ++ y ∷ ys) x))

pub names_none : (r : Symbols) → with_variables r [] (names_from r [] []) ≡ []
unfolding names_from
names_none r = refl

-- the trees of the statements so far, and one more
pub trees_more : (ms : List (Bor Item)) (i : ℕ) (m : Bor Item) → i < length ms → m ≡ get_or ms i m → trees_at (take (i + 1) ms) ≡ trees_at (take i ms) ++ tree_at m ∷ []
trees_more ms i m lt is = map_more tree_at ms i m lt is

pub statement_more : (r : Symbols) (ms : List (Bor Item)) (i : ℕ) (m : Bor Item) (now next : List (List ℕ)) → i < length ms → m ≡ get_or ms i m → now ≡ with_variables r [] (names_from r [] (trees_at (take i ms))) → next ≡ with_variables r now (names_at r (trees_at (take i ms)) (tree_at m)) → next ≡ with_variables r [] (names_from r [] (trees_at (take (i + 1) ms)))
statement_more r ms i m now next lt is so_far added =
    let front = trees_at (take i ms) in
    added ∙ ap (λ ns. with_variables r ns (names_at r front (tree_at m))) so_far
    ∙ sym (with_those_append (is_variable r) [] (names_from r [] front) (names_at r front (tree_at m)))
    ∙ ap (with_variables r []) (sym (names_from-push r [] front (tree_at m)))
    ∙ ap (λ xs. with_variables r [] (names_from r [] xs)) (sym (trees_more ms i m lt is))

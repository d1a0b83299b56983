-- What entries say of names, one name or further ones put behind others.
use Rattle.std.proofs.Common.{◌≡◌, ℕ, ◌+◌, ◌*◌, ◌<◌, Bool, true, false, ◌||◌, List, [], ◌∷◌, ◌++◌, length, get_or, take, map, Option, Some, None, option_map, refl, sym, ap, ap₂, ◌∙◌, arith}
use Rattle.std.proofs.Math.Nat.{mul_assoc}
use Rattle.std.specs.Prelude.{if◌then◌else◌, flat_map, is_some}
use Rattle.std.specs.Global.{Vec}
use Rattle.std.specs.Borrow.{Bor}
use Rattle.std.specs.List.{list_any}
use Rattle.std.specs.Option.{option_or}
use Rattle.std.specs.Str.{bytes_eq}
use Rattle.std.proofs.lemmas.List.{map-append}
use Rattle.std.proofs.lemmas.List.Folds.{list_any-append}
use Rattle.std.proofs.lemmas.Slice.Eq.{bytes_eq-Decides}
use Rattle.indexmap.specs.IndexMap.{IndexMap, insert_entry}
use Rattle.meaning.specs.declared.ending.Value.{Value}
use Rattle.meaning.specs.declared.syntax.DataType.{DataType}
use Rattle.meaning.specs.declared.syntax.Item.{Item}
use Rattle.meaning.specs.Arrays.{Dimension, Named, cells_of, extent, size}
use Rattle.meaning.specs.Values.{dimensions_in}
use Rattle.expressions.specs.declared.dimension.Dimension.{Dimension as Own}
use Rattle.expressions.specs.Dimensions.{dimension}
use Rattle.symbols.specs.declared.names.Symbols.{Symbols}
use Rattle.name_maps.specs.Keeping.{kept_at}
use Rattle.symbols.specs.Listed.{tree_at, trees_at}
use Rattle.name_maps.specs.NameSets.{texts}
use Rattle.symbols.proofs.Defining.{map_or}
use Rattle.name_maps.proofs.FirstKept.{kept_new, kept_there}
use Rattle.symbols.proofs.Firsts.{or_grouped, or_nothing}
use Rattle.symbols.proofs.Passes.{map_more, flat_map_last}
use Rattle.k_rules.specs.declared.verdict.Facts.{Facts}
use Rattle.k_rules.specs.Judged.{arrays_in}
use Rattle.storage.specs.declared.parts.Entry.{Entry}
use Rattle.checker.specs.Entries.{Adds, AddsOne, Said, first_of, if_among, if_name, names_given, place_from, said, said_at, stored, stored_in}
use Rattle.storage.specs.Numbered.{named}

-- ---- one name

pub entered_new : {S : Type 0} (m new : IndexMap (Vec ℕ) Entry S) (own : Vec ℕ) (name : List ℕ) (e : Entry) → own.items ≡ name → is_some (kept_at m name) ≡ false → new.entries ≡ insert_entry (λ a b. bytes_eq a.items b.items) m.entries own e → AddsOne m new name (said e)
entered_new m new own name e same unknown added = λ n.
    ap (option_map said) (kept_new m new own name e n same unknown added) ∙ map_or said (kept_at m n) name e n

pub entered_there : {S : Type 0} (m : IndexMap (Vec ℕ) Entry S) (name : List ℕ) (e : Entry) → is_some (kept_at m name) ≡ true → AddsOne m m name (said e)
entered_there m name e there = λ n.
    ap (option_map said) (kept_there m name e n there) ∙ map_or said (kept_at m n) name e n

-- what is said of a name without cells, and of one with cells
abbrev pub bare : Option Value → Option DataType → Said
bare v k = record { value = v; data_type = k; storage = None }

abbrev pub with_cells : ℕ → Option Value → Option DataType → List Dimension → Said
with_cells c v k ds = record { value = v; data_type = k; storage = Some (place_from ds c) }

pub with_same : (c : ℕ) (v w : Option Value) (k l : Option DataType) (ds es : List Dimension) → v ≡ w → k ≡ l → ds ≡ es → with_cells c v k ds ≡ with_cells c w l es
with_same c v w k l ds es value data_type dimensions =
    ap₂ (λ x y. with_cells c x y ds) value data_type ∙ ap (with_cells c w l) dimensions

-- ---- dimensions

size_push : (ds : List Dimension) (d : Dimension) → size (ds ++ d ∷ []) ≡ size ds * extent d
size_push [] d = one_last (extent d)
  where
    one_last : (n : ℕ) → n * 1 ≡ 1 * n
    one_last n = omega arith
size_push (x ∷ xs) d =
    ap (λ n. extent x * n) (size_push xs d) ∙ sym (mul_assoc (extent x) (size xs) (extent d))

pub size_more : (xs : List Own) (i : ℕ) (x : Own) (now next by : ℕ) → i < length xs → x ≡ get_or xs i x → now ≡ size (map dimension (take i xs)) → by ≡ extent (dimension x) → next ≡ now * by → next ≡ size (map dimension (take (i + 1) xs))
size_more xs i x now next by lt is so_far factor added =
    added ∙ ap₂ (λ a b. a * b) so_far factor ∙ sym (size_push (map dimension (take i xs)) (dimension x))
    ∙ ap size (sym (map_more dimension xs i x lt is))

-- ---- further names

pub one_among : (f : List ℕ → Said) (name n : List ℕ) (s : Said) → s ≡ f name → if_name name s n ≡ if_among f (name ∷ []) n
one_among f name n s is = by_test (bytes_eq n name) refl
  where
    by_test : (b : Bool) → bytes_eq n name ≡ b → (if b then Some s else None) ≡ (if b || false then Some (f n) else None)
    by_test true same = ap Some (is ∙ ap f (sym ((bytes_eq-Decides n name).0 same)))
    by_test false other = refl

among_append : (f : List ℕ → Said) (a b : List (List ℕ)) (n : List ℕ) → if_among f (a ++ b) n ≡ option_or (if_among f a n) (if_among f b n)
among_append f a b n =
    ap (λ t. if t then Some (f n) else None) (list_any-append (bytes_eq n) a b) ∙ by_test (list_any (bytes_eq n) a) (list_any (bytes_eq n) b)
  where
    by_test : (s t : Bool) → (if s || t then Some (f n) else None) ≡ option_or (if s then Some (f n) else None) (if t then Some (f n) else None)
    by_test true t = refl
    by_test false t = refl

pub adds_none : {S : Type 0} (m : IndexMap (Vec ℕ) Entry S) (f : List ℕ → Said) → Adds m m f []
adds_none m f = λ n. or_nothing (said_at m n)

pub adds_both : {S : Type 0} (old mid new : IndexMap (Vec ℕ) Entry S) (f : List ℕ → Said) (a b : List (List ℕ)) → Adds old mid f a → Adds mid new f b → Adds old new f (a ++ b)
adds_both old mid new f a b first second = λ n.
    second n ∙ ap (λ o. option_or o (if_among f b n)) (first n)
    ∙ or_grouped (said_at old n) (if_among f a n) (if_among f b n)
    ∙ ap (option_or (said_at old n)) (sym (among_append f a b n))

pub adds_same : {S : Type 0} (old new : IndexMap (Vec ℕ) Entry S) (f : List ℕ → Said) (a b : List (List ℕ)) → a ≡ b → Adds old new f a → Adds old new f b
adds_same old new f a b same adds = λ n. adds n ∙ ap (λ ns. option_or (said_at old n) (if_among f ns n)) same

-- name gives the name of an element's tree
pub names_more : {X Y : Type 0} (tree : X → Y) (name : Y → List ℕ) (xs : List X) (i : ℕ) (x : X) → i < length xs → x ≡ get_or xs i x → map name (map tree (take i xs)) ++ name (tree x) ∷ [] ≡ map name (map tree (take (i + 1) xs))
names_more tree name xs i x lt is =
    sym (map-append name (map tree (take i xs)) (tree x ∷ [])) ∙ ap (map name) (sym (map_more tree xs i x lt is))

pub items_more : (ms : List (Bor Item)) (i : ℕ) (m : Bor Item) → i < length ms → m ≡ get_or ms i m → flat_map (λ x. names_given x.shape) (trees_at (take i ms)) ++ names_given (tree_at m).shape ≡ flat_map (λ x. names_given x.shape) (trees_at (take (i + 1) ms))
items_more ms i m lt is =
    sym (flat_map_last (λ x. names_given x.shape) (trees_at (take i ms)) (tree_at m)) ∙ ap (flat_map (λ x. names_given x.shape)) (sym (map_more tree_at ms i m lt is))

-- ---- cells

cells_push : (names : List Named) (x : Named) → cells_of (names ++ x ∷ []) ≡ cells_of names + size x.dimensions
cells_push [] x = one_name (size x.dimensions)
  where
    one_name : (n : ℕ) → n + 0 ≡ 0 + n
    one_name n = omega arith
cells_push (y ∷ names) x =
    ap (λ n. size y.dimensions + n) (cells_push names x) ∙ grouped (size y.dimensions) (cells_of names) (size x.dimensions)
  where
    grouped : (a b c : ℕ) → a + (b + c) ≡ (a + b) + c
    grouped a b c = omega arith

first_push : (names : List Named) (x : Named) (n : List ℕ) → first_of (names ++ x ∷ []) n ≡ option_or (first_of names n) (if bytes_eq n x.name then Some (cells_of names) else None)
first_push [] x n = refl
first_push (y ∷ ys) x n = by_test (bytes_eq n y.name) (bytes_eq n x.name) (first_of ys n) (first_of (ys ++ x ∷ []) n) (first_push ys x n)
  where
    by_test : (b c : Bool) (o p : Option ℕ) → p ≡ option_or o (if c then Some (cells_of ys) else None) → (if b then Some 0 else option_map (λ k. size y.dimensions + k) p) ≡ option_or (if b then Some 0 else option_map (λ k. size y.dimensions + k) o) (if c then Some (size y.dimensions + cells_of ys) else None)
    by_test true c o p is = refl
    by_test false true None p is = ap (option_map (λ k. size y.dimensions + k)) is
    by_test false false None p is = ap (option_map (λ k. size y.dimensions + k)) is
    by_test false c (Some k) p is = ap (option_map (λ j. size y.dimensions + j)) is

module _ (f : Facts) (r : Symbols) (names : List (Vec ℕ)) (i : ℕ) (x : Vec ℕ) (lt : i < length names) (is : x ≡ get_or names i x) where
  abbrev front : List Named
  front = named (arrays_in f) (texts (take i names))

  named_more : named (arrays_in f) (texts (take (i + 1) names)) ≡ front ++ record { name = x.items; dimensions = dimensions_in (arrays_in f x.items) } ∷ []
  named_more =
      ap (named (arrays_in f)) (map_more (λ k. k.items) names i x lt is)
      ∙ map-append (λ n. record { name = n; dimensions = dimensions_in (arrays_in f n) }) (texts (take i names)) (x.items ∷ [])

  pub next_more : (now next : ℕ) → now ≡ cells_of front → next ≡ now + size (dimensions_in (arrays_in f x.items)) → next ≡ cells_of (named (arrays_in f) (texts (take (i + 1) names)))
  next_more now next so_far added =
      added ∙ ap (λ k. k + size (dimensions_in (arrays_in f x.items))) so_far
      ∙ sym (cells_push front (record { name = x.items; dimensions = dimensions_in (arrays_in f x.items) })) ∙ ap cells_of (sym named_more)

  pub stored_more : {S : Type 0} (m new : IndexMap (Vec ℕ) Entry S) (now : ℕ) → now ≡ cells_of front → ((n : List ℕ) → said_at m n ≡ stored_in f r front n) → AddsOne m new x.items (stored f r now x.items) → (n : List ℕ) → said_at new n ≡ stored_in f r (named (arrays_in f) (texts (take (i + 1) names))) n
  stored_more m new now at so_far added n =
      added n ∙ ap (λ o. option_or o (if_name x.items (stored f r now x.items) n)) (so_far n)
      ∙ by_test (bytes_eq n x.items) refl (first_of front n)
      ∙ ap (option_map (λ c. stored f r c n)) (sym (first_push front (record { name = x.items; dimensions = dimensions_in (arrays_in f x.items) }) n))
      ∙ ap (λ ns. stored_in f r ns n) (sym named_more)
    where
      by_test : (b : Bool) → bytes_eq n x.items ≡ b → (o : Option ℕ) → option_or (option_map (λ c. stored f r c n) o) (if b then Some (stored f r now x.items) else None) ≡ option_map (λ c. stored f r c n) (option_or o (if b then Some (cells_of front) else None))
      by_test b same (Some c) = refl
      by_test true same None =
          ap Some (ap₂ (λ k y. stored f r k y) at (sym ((bytes_eq-Decides n x.items).0 same)))
      by_test false other None = refl

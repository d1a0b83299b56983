-- The arrays that statements declare, one declarator or one statement more.
use Rattle.std.proofs.Common.{◌≡◌, ℕ, ◌+◌, ◌<◌, ◌≤◌, Bool, true, false, ◌&&◌, List, [], ◌∷◌, ◌++◌, length, get_or, take, map, Option, Some, None, option_map, refl, sym, ap, ap₂, ◌∙◌}
use Rattle.std.specs.Prelude.{if◌then◌else◌, nat_lt, is_some}
use Rattle.std.specs.List.{fold}
use Rattle.std.specs.Option.{option_or}
use Rattle.std.specs.Borrow.{Bor}
use Rattle.std.specs.Global.{Vec}
use Rattle.std.specs.Str.{bytes_eq}
use Rattle.std.proofs.lemmas.Bool.{le-ltb, lt-ltb}
use Rattle.std.proofs.lemmas.List.{length-map}
use Rattle.std.proofs.lemmas.Slice.Eq.{bytes_eq-Decides}
use Rattle.indexmap.specs.IndexMap.{IndexMap, insert_entry}
use Rattle.smallvec.specs.SmallVec.{SmallVec}
use Rattle.meaning.specs.declared.syntax.Declarator.{Declarator}
use Rattle.meaning.specs.declared.syntax.Item.{Item}
use Rattle.meaning.specs.Arrays as arrays
use Rattle.meaning.specs.Syntax.{DeclaratorTree, ItemTree, bounds_tree, declarator_tree}
use Rattle.meaning.specs.Types.{Types}
use Rattle.meaning.specs.Values.{Known}
use Rattle.meaning.specs.Scopes.{arrays_from, declarators_in, dimension_of, dimensions_in, gives_bounds, known_behind, known_of, nothing_known, or_dimensions}
use Rattle.name_maps.specs.Keeping.{kept_at}
use Rattle.name_maps.proofs.FirstKept.{kept_new}
use Rattle.symbols.proofs.Passes.{map_more}
use Rattle.expressions.specs.declared.dimension.Dimension.{Dimension}
use Rattle.declarations.specs.ArraysKept.{arrays_kept, dimensions_of}
use Rattle.rule_passes.specs.Listed.{tree_at}

abbrev pub Dimensions : Type 0
Dimensions = Option (List arrays.Dimension)

pub or_none : (o : Dimensions) → o ≡ or_dimensions o None
or_none None = refl
or_none (Some ds) = refl

or_there : (o p : Dimensions) → is_some o ≡ true → o ≡ or_dimensions o p
or_there (Some ds) p h = refl
or_there None p h = absurd cc

or_more : (a b c : Dimensions) → or_dimensions (or_dimensions a b) c ≡ or_dimensions a (or_dimensions b c)
or_more None b c = refl
or_more (Some ds) b c = refl

module _ (types : Types) (known : Known) where
  -- what one declarator gives a name
  abbrev pub given : DeclaratorTree → List ℕ → Dimensions
  given d n = dimensions_in types known (d ∷ []) n

  pub dimensions_push : (ds : List DeclaratorTree) (d : DeclaratorTree) (n : List ℕ) → dimensions_in types known (ds ++ d ∷ []) n ≡ or_dimensions (dimensions_in types known ds n) (given d n)
  dimensions_push [] d n = refl
  dimensions_push (x ∷ xs) d n = by_test (gives_bounds n x) (dimensions_push xs d n)
    where
      by_test : (b : Bool) → dimensions_in types known (xs ++ d ∷ []) n ≡ or_dimensions (dimensions_in types known xs n) (given d n) → (if b then Some (map (dimension_of types known) x.bounds) else dimensions_in types known (xs ++ d ∷ []) n) ≡ or_dimensions (if b then Some (map (dimension_of types known) x.bounds) else dimensions_in types known xs n) (given d n)
      by_test true h = refl
      by_test false h = h

  pub declarators_more : (n : List ℕ) (ds : List Declarator) (i : ℕ) (d : Declarator) (front now next : Dimensions) → i < length ds → d ≡ get_or ds i d → now ≡ or_dimensions front (dimensions_in types known (map declarator_tree (take i ds)) n) → next ≡ or_dimensions now (given (declarator_tree d) n) → next ≡ or_dimensions front (dimensions_in types known (map declarator_tree (take (i + 1) ds)) n)
  declarators_more n ds i d front now next lt is so_far added =
      added ∙ ap (λ o. or_dimensions o (given (declarator_tree d) n)) so_far
      ∙ or_more front (dimensions_in types known (map declarator_tree (take i ds)) n) (given (declarator_tree d) n)
      ∙ ap (or_dimensions front) (sym (dimensions_push (map declarator_tree (take i ds)) (declarator_tree d) n) ∙ ap (λ xs. dimensions_in types known xs n) (sym (map_more declarator_tree ds i d lt is)))

-- ---- a map from names to dimensions

kept_or : (o : Option (SmallVec Dimension)) (b c : Bool) (v : SmallVec Dimension) (ds : List arrays.Dimension) → dimensions_of v ≡ ds → c ≡ true → option_map dimensions_of (option_or o (if b then Some v else None)) ≡ or_dimensions (option_map dimensions_of o) (if b && c then Some ds else None)
kept_or (Some x) b c v ds is e = refl
kept_or None true true v ds is e = ap Some is
kept_or None true false v ds is e = absurd cc
kept_or None false c v ds is e = refl

and_false : (c : Bool) → (c && false) ≡ false
and_false true = refl
and_false false = refl

module _ {S : Type 0} (types : Types) (known : Known) (m : IndexMap (Vec ℕ) (SmallVec Dimension) S) (d : Declarator) (number : ℕ) (n : List ℕ) (many : number ≡ length d.bounds.items) where
  abbrev pub tree : DeclaratorTree
  tree = declarator_tree d

  bounds_length : length tree.bounds ≡ number
  bounds_length = length-map d.bounds.items bounds_tree ∙ sym many

  -- what gives no bounds is not put there
  pub kept_without : number ≤ 0 → arrays_kept m n ≡ or_dimensions (arrays_kept m n) (given types known tree n)
  kept_without none =
      or_none (arrays_kept m n)
      ∙ ap (λ b. or_dimensions (arrays_kept m n) (if b then Some (map (dimension_of types known) tree.bounds) else None)) (sym (and_false (bytes_eq n tree.name)) ∙ ap (λ c. bytes_eq n tree.name && c) (sym (ap (nat_lt 0) bounds_length ∙ le-ltb 0 number none)))

  -- a new name goes last
  pub kept_first : (new : IndexMap (Vec ℕ) (SmallVec Dimension) S) (own : Vec ℕ) (v : SmallVec Dimension) → own.items ≡ tree.name → is_some (kept_at m tree.name) ≡ false → 0 < number → dimensions_of v ≡ map (dimension_of types known) tree.bounds → new.entries ≡ insert_entry (λ a b. bytes_eq a.items b.items) m.entries own v → arrays_kept new n ≡ or_dimensions (arrays_kept m n) (given types known tree n)
  kept_first new own v same unknown some is added =
      ap (option_map dimensions_of) (kept_new m new own tree.name v n same unknown added)
      ∙ kept_or (kept_at m n) (bytes_eq n tree.name) (nat_lt 0 (length tree.bounds)) v (map (dimension_of types known) tree.bounds) is (ap (nat_lt 0) bounds_length ∙ lt-ltb 0 number some)

-- a name that is there keeps what it has
module _ {S : Type 0} (types : Types) (known : Known) (m : IndexMap (Vec ℕ) (SmallVec Dimension) S) (d : DeclaratorTree) (n : List ℕ) where
  some_mapped : (o : Option (SmallVec Dimension)) → is_some (option_map dimensions_of o) ≡ is_some o
  some_mapped None = refl
  some_mapped (Some v) = refl

  pub kept_there : is_some (kept_at m d.name) ≡ true → arrays_kept m n ≡ or_dimensions (arrays_kept m n) (given types known d n)
  kept_there there = by_test (bytes_eq n d.name) refl
    where
      by_test : (c : Bool) → bytes_eq n d.name ≡ c → arrays_kept m n ≡ or_dimensions (arrays_kept m n) (if c && nat_lt 0 (length d.bounds) then Some (map (dimension_of types known) d.bounds) else None)
      by_test false other = or_none (arrays_kept m n)
      by_test true same =
          or_there (arrays_kept m n) _ (some_mapped (kept_at m n) ∙ ap (λ k. is_some (kept_at m k)) ((bytes_eq-Decides n d.name).0 same) ∙ there)

-- ---- statements

module _ (types : Types) where
  pub arrays_append : (known : Known) (xs : List ItemTree) (x : ItemTree) (n : List ℕ) → arrays_from types known (xs ++ x ∷ []) n ≡ or_dimensions (arrays_from types known xs n) (dimensions_in types (fold (λ k y. known_behind types k y.shape) known xs) (declarators_in x.shape) n)
  unfolding arrays_from
  arrays_append known [] x n = sym (or_none (dimensions_in types known (declarators_in x.shape) n))
  arrays_append known (y ∷ ys) x n =
      ap (or_dimensions (dimensions_in types known (declarators_in y.shape) n)) (arrays_append (known_behind types known y.shape) ys x n)
      ∙ sym (or_more (dimensions_in types known (declarators_in y.shape) n) (arrays_from types (known_behind types known y.shape) ys n) (dimensions_in types (fold (λ k z. known_behind types k z.shape) (known_behind types known y.shape) ys) (declarators_in x.shape) n))

  pub arrays_none : (n : List ℕ) → arrays_from types nothing_known [] n ≡ None
  unfolding arrays_from
  arrays_none n = refl

  pub items_more : (ms : List (Bor Item)) (i : ℕ) (m : Bor Item) (n : List ℕ) (now next : Dimensions) (known : Known) → i < length ms → m ≡ get_or ms i m → known ≡ known_of types (map tree_at (take i ms)) → now ≡ arrays_from types nothing_known (map tree_at (take i ms)) n → next ≡ or_dimensions now (dimensions_in types known (declarators_in (tree_at m).shape) n) → next ≡ arrays_from types nothing_known (map tree_at (take (i + 1) ms)) n
  items_more ms i m n now next known lt is so_far front added =
      added ∙ ap₂ (λ o k. or_dimensions o (dimensions_in types k (declarators_in (tree_at m).shape) n)) front so_far
      ∙ sym (arrays_append nothing_known (map tree_at (take i ms)) (tree_at m) n)
      ∙ ap (λ xs. arrays_from types nothing_known xs n) (sym (map_more tree_at ms i m lt is))

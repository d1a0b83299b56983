-- How many dimensions statements give names.
use Rattle.std.proofs.Common.{◌≡◌, ℕ, ◌<◌, ◌≤◌, Bool, true, false, ◌&&◌, List, [], ◌∷◌, ◌++◌, length, map, Option, Some, None, refl, sym, ap, ap₂, ◌∙◌}
use Rattle.std.specs.Prelude.{if◌then◌else◌, is_some, nat_lt}
use Rattle.std.specs.Option.{option_or}
use Rattle.std.specs.Borrow.{Bor}
use Rattle.std.specs.Str.{bytes_eq}
use Rattle.std.specs.Vec.{vec_len}
use Rattle.std.proofs.lemmas.Bool.{le-ltb, lt-ltb}
use Rattle.std.proofs.lemmas.List.{length-map, map-append}
use Rattle.meaning.specs.declared.syntax.Declarator.{Declarator}
use Rattle.meaning.specs.declared.syntax.Item.{Item}
use Rattle.meaning.specs.Arrays.{Dimension}
use Rattle.meaning.specs.NameRules.{length_if}
use Rattle.meaning.specs.Scopes.{arrays_from, declarators_in, dimension_of, dimensions_in, gives_bounds, known_behind, or_dimensions}
use Rattle.meaning.specs.Syntax.{DeclaratorTree, ItemTree, bounds_tree, declarator_tree}
use Rattle.meaning.specs.Types.{Types}
use Rattle.meaning.specs.Values.{Known}
use Rattle.symbols.specs.Listed.{tree_at, trees_at}
use Rattle.symbols.specs.RankBy.{declarators_of, rank_by, rank_in}
use Rattle.symbols.proofs.Firsts.{if_named, or_grouped, or_nothing}
use Rattle.symbols.proofs.Passes.{flat_map_last}

pub rank_append : (ds es : List DeclaratorTree) (n : List ℕ) → rank_by (ds ++ es) n ≡ option_or (rank_by ds n) (rank_by es n)
rank_append [] es n = refl
rank_append (d ∷ ds) es n =
    ap (option_or (rank_in d n)) (rank_append ds es n) ∙ sym (or_grouped (rank_in d n) (rank_by ds n) (rank_by es n))

pub rank_law : (n : List ℕ) (ds : List Declarator) (d : Declarator) → rank_by (map declarator_tree (ds ++ d ∷ [])) n ≡ option_or (rank_by (map declarator_tree ds) n) (rank_in (declarator_tree d) n)
rank_law n ds d =
    ap (λ xs. rank_by xs n) (map-append declarator_tree ds (d ∷ []))
    ∙ rank_append (map declarator_tree ds) (declarator_tree d ∷ []) n
    ∙ ap (option_or (rank_by (map declarator_tree ds) n)) (sym (or_nothing (rank_in (declarator_tree d) n)))

pub ranks_law : (n : List ℕ) (ms : List (Bor Item)) (m : Bor Item) → rank_by (declarators_of (trees_at (ms ++ m ∷ []))) n ≡ option_or (rank_by (declarators_of (trees_at ms)) n) (rank_by (declarators_in (tree_at m).shape) n)
ranks_law n ms m =
    ap (λ xs. rank_by (declarators_of xs) n) (map-append tree_at ms (m ∷ []))
    ∙ ap (λ ds. rank_by ds n) (flat_map_last (λ x. declarators_in x.shape) (trees_at ms) (tree_at m))
    ∙ rank_append (declarators_of (trees_at ms)) (declarators_in (tree_at m).shape) n

-- ---- one declarator

bounds_length : (d : Declarator) (number : ℕ) → number ≡ vec_len d.bounds → length (declarator_tree d).bounds ≡ number
bounds_length d number is = length-map d.bounds.items bounds_tree ∙ sym (is ∙ d.bounds.ok.0)

abbrev rank_if : Bool → ℕ → Option ℕ
rank_if b k = if b && nat_lt 0 k then Some k else None

pub rank_some : (d : Declarator) (number : ℕ) (n : List ℕ) → number ≡ vec_len d.bounds → 0 < number → if_named d.name.items number n ≡ rank_in (declarator_tree d) n
rank_some d number n is some =
    by_test (bytes_eq n d.name.items) ∙ ap (rank_if (bytes_eq n d.name.items)) (sym (bounds_length d number is))
  where
    by_test : (b : Bool) → (if b then Some number else None) ≡ rank_if b number
    by_test true = sym (ap (λ t. if t then Some number else None) (lt-ltb 0 number some))
    by_test false = refl

pub rank_none : (d : Declarator) (number : ℕ) (n : List ℕ) (o : Option ℕ) → number ≡ vec_len d.bounds → number ≤ 0 → o ≡ option_or o (rank_in (declarator_tree d) n)
rank_none d number n o is none =
    or_nothing o ∙ ap (option_or o) (sym (ap (rank_if (bytes_eq n d.name.items)) (bounds_length d number is) ∙ by_test (bytes_eq n d.name.items)))
  where
    by_test : (b : Bool) → rank_if b number ≡ None
    by_test true = ap (λ t. if t then Some number else None) (le-ltb 0 number none)
    by_test false = refl

-- ---- the dimensions themselves

length_or : (o p : Option (List Dimension)) → length_if (or_dimensions o p) ≡ option_or (length_if o) (length_if p)
length_or None p = refl
length_or (Some ds) p = refl

ranked : (types : Types) (known : Known) (ds : List DeclaratorTree) (n : List ℕ) → length_if (dimensions_in types known ds n) ≡ rank_by ds n
ranked types known [] n = refl
ranked types known (d ∷ ds) n = by_test (gives_bounds n d) (ranked types known ds n)
  where
    by_test : (b : Bool) → length_if (dimensions_in types known ds n) ≡ rank_by ds n → length_if (if b then Some (map (dimension_of types known) d.bounds) else dimensions_in types known ds n) ≡ option_or (if b then Some (length d.bounds) else None) (rank_by ds n)
    by_test true h = ap Some (length-map d.bounds (dimension_of types known))
    by_test false h = h

pub ranks_from : (types : Types) (known : Known) (xs : List ItemTree) (n : List ℕ) → length_if (arrays_from types known xs n) ≡ rank_by (declarators_of xs) n
unfolding arrays_from
ranks_from types known [] n = refl
ranks_from types known (x ∷ xs) n =
    length_or (dimensions_in types known (declarators_in x.shape) n) (arrays_from types (known_behind types known x.shape) xs n)
    ∙ ap₂ option_or (ranked types known (declarators_in x.shape) n) (ranks_from types (known_behind types known x.shape) xs n)
    ∙ sym (rank_append (declarators_in x.shape) (declarators_of xs) n)

-- whether there are any
pub some_length : (o : Option (List Dimension)) → is_some (length_if o) ≡ is_some o
some_length None = refl
some_length (Some ds) = refl

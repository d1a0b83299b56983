-- Statement functions among statements, one statement more.
use Rattle.std.proofs.Common.{◌≡◌, ℕ, ◌+◌, ◌<◌, ◌≤◌, Bool, true, false, ◌||◌, List, [], ◌∷◌, length, get_or, drop, map, refl, sym, ap, ◌∙◌, Option, Some, None}
use Rattle.std.specs.Prelude.{if◌then◌else◌, unwrap_or}
use Rattle.std.specs.Borrow.{Bor}
use Rattle.std.specs.Str.{bytes_eq}
use Rattle.std.proofs.lemmas.List.{drop_all}
use Rattle.meaning.specs.declared.syntax.Item.{Item}
use Rattle.meaning.specs.Scopes.{Definition, defined_before, defined_by, definitions_of, is_specification}
use Rattle.meaning.specs.Syntax.{ItemTree}
use Rattle.meaning.specs.Uses.{Symbols, is_one_of}
use Rattle.symbols.specs.Listed.{tree_at, trees_at}
use Rattle.symbols.proofs.Passes.{map_left}
use Rattle.function_culprits.specs.Functions.{names_before, settled_by, settled_in}

module _ (r : Symbols) (n : List ℕ) where
  abbrev pub defines : List ItemTree → Bool
  defines xs = is_one_of (names_before r xs) n

  defines_first : (x : ItemTree) (xs : List ItemTree) → defines (x ∷ xs) ≡ unwrap_or (settled_by r x.shape n) (defines xs)
  unfolding definitions_of
  defines_first x xs = by_parts (defined_by r.names.arrays x.shape) (is_specification x.shape) (definitions_of r.names.arrays xs)
    where
      by_parts : (o : Option Definition) (b : Bool) (ds : List Definition) → is_one_of (map (λ (d : Definition). d.name) (defined_before o b ds)) n ≡ unwrap_or (settled_in o b n) (is_one_of (map (λ (d : Definition). d.name) ds) n)
      by_parts (Some d) b ds = by_test (bytes_eq n d.name)
        where
          by_test : (c : Bool) → (c || is_one_of (map (λ (e : Definition). e.name) ds) n) ≡ unwrap_or (if c then Some true else None) (is_one_of (map (λ (e : Definition). e.name) ds) n)
          by_test true = refl
          by_test false = refl
      by_parts None true ds = refl
      by_parts None false ds = refl

  pub defines_left : (ms : List (Bor Item)) (i : ℕ) (m : Bor Item) (o : Option Bool) → i < length ms → m ≡ get_or ms i m → o ≡ settled_by r (tree_at m).shape n → defines (trees_at (drop i ms)) ≡ unwrap_or o (defines (trees_at (drop (i + 1) ms)))
  defines_left ms i m o lt is here =
      ap defines (map_left tree_at ms i m lt is) ∙ defines_first (tree_at m) (trees_at (drop (i + 1) ms))
      ∙ ap (λ p. unwrap_or p (defines (trees_at (drop (i + 1) ms)))) (sym here)

  pub defines_none : (ms : List (Bor Item)) (i : ℕ) → length ms ≤ i → defines (trees_at (drop i ms)) ≡ false
  unfolding definitions_of
  defines_none ms i le = ap (λ ys. defines (trees_at ys)) (drop_all i ms le)

-- Statement functions, one statement more.
use Rattle.std.proofs.Common.{◌≡◌, ℕ, ◌+◌, ◌<◌, ◌≤◌, Bool, true, false, List, [], ◌∷◌, ◌++◌, length, get_or, drop, map, append_assoc, Option, Some, None, option_map, refl, sym, ap, ap₂, ◌∙◌}
use Rattle.std.specs.Prelude.{if◌then◌else◌}
use Rattle.std.specs.Option.{option_or}
use Rattle.std.specs.Borrow.{Bor}
use Rattle.std.specs.Str.{bytes_eq}
use Rattle.std.proofs.lemmas.List.{append-nil, drop_all}
use Rattle.meaning.specs.declared.syntax.Item.{Item}
use Rattle.meaning.specs.Syntax.{ItemTree}
use Rattle.meaning.specs.Values.{Arrays}
use Rattle.meaning.specs.Scopes.{Definition, defined_before, defined_by, definitions_of, is_specification}
use Rattle.meaning.specs.Uses.{dummies_named}
use Rattle.symbols.specs.declared.functions.Function.{Function}
use Rattle.symbols.specs.Functions.{definition_at, definition_named, dummies_at}
use Rattle.symbols.specs.Listed.{tree_at, trees_at}
use Rattle.symbols.proofs.Firsts.{if_named}
use Rattle.symbols.proofs.Passes.{map_left}

first_is : (arrays : Arrays) (x : ItemTree) (xs : List ItemTree) → definitions_of arrays (x ∷ xs) ≡ defined_before (defined_by arrays x.shape) (is_specification x.shape) (definitions_of arrays xs)
unfolding definitions_of
first_is arrays x xs = refl

none_is : (arrays : Arrays) → definitions_of arrays [] ≡ []
unfolding definitions_of
none_is arrays = refl

left_is : (arrays : Arrays) (ms : List (Bor Item)) (i : ℕ) (m : Bor Item) → i < length ms → m ≡ get_or ms i m → definitions_of arrays (trees_at (drop i ms)) ≡ defined_before (defined_by arrays (tree_at m).shape) (is_specification (tree_at m).shape) (definitions_of arrays (trees_at (drop (i + 1) ms)))
left_is arrays ms i m lt is =
    ap (definitions_of arrays) (map_left tree_at ms i m lt is) ∙ first_is arrays (tree_at m) (trees_at (drop (i + 1) ms))

module _ (arrays : Arrays) (ms : List (Bor Item)) (i : ℕ) (m : Bor Item) (lt : i < length ms) (is : m ≡ get_or ms i m) where
  -- a statement function
  pub one_defined : (d : Definition) (now next all : List Definition) → Some d ≡ defined_by arrays (tree_at m).shape → next ≡ now ++ d ∷ [] → now ++ definitions_of arrays (trees_at (drop i ms)) ≡ all → next ++ definitions_of arrays (trees_at (drop (i + 1) ms)) ≡ all
  one_defined d now next all here added so_far =
      let rest = definitions_of arrays (trees_at (drop (i + 1) ms)) in
      ap (λ xs. xs ++ rest) added ∙ append_assoc now (d ∷ []) rest
      ∙ ap (λ xs. now ++ xs) (ap (λ o. defined_before o (is_specification (tree_at m).shape) rest) here ∙ sym (left_is arrays ms i m lt is))
      ∙ so_far

  -- a statement before the executable ones
  pub none_defined : (now all : List Definition) → None ≡ defined_by arrays (tree_at m).shape → is_specification (tree_at m).shape ≡ true → now ++ definitions_of arrays (trees_at (drop i ms)) ≡ all → now ++ definitions_of arrays (trees_at (drop (i + 1) ms)) ≡ all
  none_defined now all here passes so_far =
      let rest = definitions_of arrays (trees_at (drop (i + 1) ms)) in
      ap (λ xs. now ++ xs) (sym (left_is arrays ms i m lt is ∙ ap₂ (λ o b. defined_before o b rest) (sym here) passes)) ∙ so_far

  -- an executable one
  pub ended : (now all : List Definition) → None ≡ defined_by arrays (tree_at m).shape → is_specification (tree_at m).shape ≡ false → now ++ definitions_of arrays (trees_at (drop i ms)) ≡ all → now ≡ all
  ended now all here passes so_far =
      let rest = definitions_of arrays (trees_at (drop (i + 1) ms)) in
      sym (append-nil now)
      ∙ ap (λ xs. now ++ xs) (sym (left_is arrays ms i m lt is ∙ ap₂ (λ o b. defined_before o b rest) (sym here) passes)) ∙ so_far

pub all_passed : (arrays : Arrays) (ms : List (Bor Item)) (i : ℕ) (now all : List Definition) → length ms ≤ i → now ++ definitions_of arrays (trees_at (drop i ms)) ≡ all → now ≡ all
all_passed arrays ms i now all le so_far =
    sym (append-nil now)
    ∙ ap (λ xs. now ++ xs) (sym (ap (λ xs. definitions_of arrays (trees_at xs)) (drop_all i ms le) ∙ none_is arrays)) ∙ so_far

-- ---- by name

pub definition_law : (n : List ℕ) (fs : List Function) (f : Function) → definition_named (map definition_at (fs ++ f ∷ [])) n ≡ option_or (definition_named (map definition_at fs) n) (if_named f.name.now (definition_at f) n)
definition_law n [] f = refl
definition_law n (g ∷ gs) f = by_test (bytes_eq n g.name.now) (definition_law n gs f)
  where
    by_test : (b : Bool) → definition_named (map definition_at (gs ++ f ∷ [])) n ≡ option_or (definition_named (map definition_at gs) n) (if_named f.name.now (definition_at f) n) → (if b then Some (definition_at g) else definition_named (map definition_at (gs ++ f ∷ [])) n) ≡ option_or (if b then Some (definition_at g) else definition_named (map definition_at gs) n) (if_named f.name.now (definition_at f) n)
    by_test true h = refl
    by_test false h = h

pub map_or : {V W : Type 0} (g : V → W) (o : Option V) (name : List ℕ) (v : V) (n : List ℕ) → option_map g (option_or o (if_named name v n)) ≡ option_or (option_map g o) (if_named name (g v) n)
map_or g (Some x) name v n = refl
map_or g None name v n = by_test (bytes_eq n name)
  where
    by_test : (b : Bool) → option_map g (if b then Some v else None) ≡ (if b then Some (g v) else None)
    by_test true = refl
    by_test false = refl

-- its dummies
pub dummies_are : (ds : List Definition) (n : List ℕ) → dummies_named ds n ≡ option_map (λ d. d.dummies) (definition_named ds n)
dummies_are [] n = refl
dummies_are (d ∷ ds) n = by_test (bytes_eq n d.name) (dummies_are ds n)
  where
    by_test : (b : Bool) → dummies_named ds n ≡ option_map (λ d. d.dummies) (definition_named ds n) → (if b then Some d.dummies else dummies_named ds n) ≡ option_map (λ d. d.dummies) (if b then Some d else definition_named ds n)
    by_test true h = refl
    by_test false h = h

pub dummies_found : (found kept : Option Function) (ds : List Definition) (n : List ℕ) → found ≡ kept → option_map definition_at kept ≡ definition_named ds n → option_map (λ f. dummies_at f.dummies) found ≡ dummies_named ds n
dummies_found found kept ds n same is =
    by_definition found ∙ ap (option_map (λ d. d.dummies)) (ap (option_map definition_at) same ∙ is) ∙ sym (dummies_are ds n)
  where
    by_definition : (o : Option Function) → option_map (λ f. dummies_at f.dummies) o ≡ option_map (λ d. d.dummies) (option_map definition_at o)
    by_definition None = refl
    by_definition (Some f) = refl

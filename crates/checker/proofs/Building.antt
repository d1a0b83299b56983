-- What is kept of names agrees with what the statements say.
use Rattle.std.proofs.Common.{◌≡◌, ℕ, ◌+◌, ◌<◌, ◌≤◌, ◌^◌, ℤ, pos, Bool, true, false, true≢false, List, [], ◌∷◌, length, Option, Some, None, option_map, unwrap_or, refl, sym, ap, ap₂, subst, ◌∙◌}
use Rattle.std.specs.Prelude.{if◌then◌else◌, flat_map, is_some}
use Rattle.std.specs.Global.{Vec}
use Rattle.std.specs.List.{fold, list_any}
use Rattle.std.specs.Option.{option_or}
use Rattle.std.specs.Str.{bytes_eq}
use Rattle.std.proofs.Math.Path.{fun_ext}
use Rattle.meaning.specs.declared.syntax.Tree.{Tree}
use Rattle.meaning.specs.declared.ending.Value.{Value}
use Rattle.meaning.specs.Arrays.{cell_of, cells_of, place, size}
use Rattle.meaning.specs.Initial.{starts_from}
use Rattle.meaning.specs.Maps.{map_by, value_at}
use Rattle.meaning.specs.Stores.{known}
use Rattle.meaning.specs.Scopes.{arrays_of}
use Rattle.meaning.specs.Syntax.{ItemTree}
use Rattle.meaning.specs.Types.{declared_by, types_of, has_implicit_none}
use Rattle.meaning.specs.Uses.{symbols_of}
use Rattle.meaning.specs.Values.{Arrays, dimensions_in}
use Rattle.meaning.proofs.Elements.{one_to_one}
use Rattle.array_store.specs.Whole.{world_of}
use Rattle.symbols.specs.declared.names.Symbols.{Symbols}
use Rattle.name_maps.specs.Keeping.{kept_at}
use Rattle.symbols.specs.Listed.{trees_at}
use Rattle.symbols.specs.SymbolsAt.{symbols_at}
use Rattle.symbols.specs.TypedNames.{implicit_parts, letter_type, typed_names}
use Rattle.k_rules.specs.declared.verdict.Facts.{Facts}
use Rattle.data_rules.specs.DataSets.{given_by, nothing}
use Rattle.data_rules.specs.Slots.{slot_if}
use Rattle.k_rules.specs.Judged.{arrays_in, constant_in, starts_in}
use Rattle.storage.specs.declared.parts.Entry.{Entry}
use Rattle.storage.specs.declared.parts.Storage.{Storage}
use Rattle.checker.specs.declared.rules.Names.{Names}
use Rattle.appearances.specs.Appearing.{variables_at}
use Rattle.checker.specs.Built.{AreNames, count_at}
use Rattle.storage.specs.Checked.{count_in, items_in, names_in, tree_of}
use Rattle.rule_laws.specs.Sized.{AreStartsNamed}
use Rattle.checker.specs.Entries.{Placed, Said, described, first_of, names_given, place_from, placed, said, stored}
use Rattle.checker.specs.Given.{first_said, firsts_in, number_given, starts_by}
use Rattle.storage.specs.Kept.{IsStored, IsTyped, StartsWithByte, array_of, by_first, storage_kept, type_if, value_kept}
use Rattle.storage.specs.Numbered.{named, variables_of}
use Rattle.storage.specs.Starts.{map_of, start_in}
use Rattle.storage.specs.Whereabouts.{Whereabouts, where_in}
use Rattle.checker.proofs.Absent.{bounded, no_array, unknown, untyped}
use Rattle.checker.proofs.CellsOf.{first_cells, first_leads, no_first}
use Rattle.checker.proofs.Starting.{all_placed, all_shown, given_nothing, given_to, known_value, many_by, none_for, not_first, nothing_shown, number_if, shown, value_by}

-- ---- what is said of a name, by its first cell and by whether statements give it something

module _ (f : Facts) (r : Symbols) (n : List ℕ) where
  abbrev Says : Option ℕ → Bool → Option Said
  Says first given = option_or (option_map (λ c. stored f r c n) first) (if given then Some (described f r n) else None)

  module _ (o : Option Entry) where
    value_is : (first : Option ℕ) (given : Bool) → option_map said o ≡ Says first given → (given ≡ false → constant_in f n ≡ None) → value_kept o ≡ constant_in f n
    value_is first given is none = by o first given is none
      where
        by : (p : Option Entry) (first : Option ℕ) (given : Bool) → option_map said p ≡ Says first given → (given ≡ false → constant_in f n ≡ None) → value_kept p ≡ constant_in f n
        by None (Some c) given is none = absurd cc
        by None None true is none = absurd cc
        by None None false is none = sym (none refl)
        by (Some e) (Some c) given is none = ap (λ p. (unwrap_or p (said e)).value) is
        by (Some e) None true is none = ap (λ p. (unwrap_or p (said e)).value) is
        by (Some e) None false is none = absurd cc

    type_is : (first : Option ℕ) (given : Bool) → option_map said o ≡ Says first given → IsTyped ((symbols_at r).names.types n) o
    type_is first given is = by o first given is
      where
        by : (p : Option Entry) (first : Option ℕ) (given : Bool) → option_map said p ≡ Says first given → IsTyped ((symbols_at r).names.types n) p
        by None first given is = tt
        by (Some e) (Some c) given is = ap (λ p. (unwrap_or p (said e)).data_type) is
        by (Some e) None true is = ap (λ p. (unwrap_or p (said e)).data_type) is
        by (Some e) None false is = absurd cc

    not_given : (first : Option ℕ) (given : Bool) → option_map said o ≡ Says first given → o ≡ None → given ≡ false
    not_given first given is none = by first given (sym (ap (option_map said) none) ∙ is)
      where
        by : (first : Option ℕ) (given : Bool) → None ≡ Says first given → given ≡ false
        by (Some c) given is = absurd cc
        by None true is = absurd cc
        by None false is = refl

    storage_is : (first : Option ℕ) (given : Bool) → option_map said o ≡ Says first given → option_map placed (storage_kept o) ≡ option_map (place_from (dimensions_in (arrays_in f n))) first
    storage_is first given is = by o first given is
      where
        by : (p : Option Entry) (first : Option ℕ) (given : Bool) → option_map said p ≡ Says first given → option_map placed (storage_kept p) ≡ option_map (place_from (dimensions_in (arrays_in f n))) first
        by None (Some c) given is = absurd cc
        by None None given is = refl
        by (Some e) (Some c) given is = ap (λ p. (unwrap_or p (said e)).storage) is
        by (Some e) None true is = ap (λ p. (unwrap_or p (said e)).storage) is
        by (Some e) None false is = absurd cc

    first_is : (first : Option ℕ) (given : Bool) → option_map said o ≡ Says first given → first_said (option_map said o) ≡ first
    first_is first given is = ap first_said is ∙ by first given
      where
        by : (first : Option ℕ) (given : Bool) → first_said (Says first given) ≡ first
        by (Some c) given = refl
        by None true = refl
        by None false = refl

-- ---- the cells of a name

module _ (arrays : Arrays) (vs : List (List ℕ)) (n : List ℕ) (some : array_of (dimensions_in (arrays n)) ≡ arrays n) (absent : list_any (bytes_eq n) vs ≡ false → arrays n ≡ None) where
  abbrev there : Whereabouts
  there = record { array = arrays n; cells = cell_of (named arrays vs) n; count = cells_of (named arrays vs) }

  stored_is : (o : Option Storage) (first : Option ℕ) → first_of (named arrays vs) n ≡ first → option_map placed o ≡ option_map (place_from (dimensions_in (arrays n))) first → IsStored there o
  stored_is None None at is =
      let none = no_first arrays n vs at in record { array = absent none.0; cells = none.1 }
  stored_is None (Some c) at is = absurd cc
  stored_is (Some s) None at is = absurd cc
  stored_is (Some s) (Some c) at is =
      let p : placed s ≡ place_from (dimensions_in (arrays n)) c = ap (λ p. unwrap_or p (placed s)) is in
      let led = first_leads arrays n vs c at in
      record {
        array = ap (λ (x : Placed). array_of x.dimensions) p ∙ some;
        cells = λ ss. ap (λ (x : Placed). option_map (λ i. x.first + i) (place x.dimensions ss)) p ∙ led.cells ss;
        room = subst (λ (x : Placed). x.first + size x.dimensions ≤ cells_of (named arrays vs)) (sym p) led.room;
      }

-- ---- all of it

pub record Naming (t : Tree) (k : Names) : Type 0 where
  pub valued : (n : List ℕ) → value_kept (kept_at k.entries n) ≡ (names_in t).known n
  pub typed : (n : List ℕ) → IsTyped ((names_in t).types n) (kept_at k.entries n)
  pub lettered : (n : List ℕ) → StartsWithByte n → kept_at k.entries n ≡ None → by_first k.letters.items n ≡ (names_in t).types n
  pub stored : (n : List ℕ) → IsStored (where_in t n) (storage_kept (kept_at k.entries n))
  pub few : count_in t < 2 ^ 64
  pub many : length k.starts.items ≡ count_in t
  pub started : (n : List ℕ) (ss : List ℤ) → map_of t k.starts.items n ss ≡ start_in t n ss

module _ (t : Tree) (f : Facts) (r : Symbols) (k : Names) (items : trees_at r.items.now ≡ items_in t) (constants : (n : List ℕ) → constant_in f n ≡ (names_in t).known n) (arrays : (n : List ℕ) → arrays_in f n ≡ arrays_of (items_in t) n) (starts : starts_in f ≡ given_by (symbols_of (items_in t)).names (starts_from (symbols_of (items_in t)) [] (items_in t))) (given : AreStartsNamed (tree_of t)) (names : AreNames f r k) where
  abbrev all : List ItemTree
  all = items_in t

  abbrev vs : List (List ℕ)
  vs = variables_of all

  variables : variables_at r ≡ vs
  variables = ap variables_of items

  own_arrays : arrays_in f ≡ arrays_of all
  own_arrays = fun_ext arrays

  abbrev first_at : List ℕ → Option ℕ
  first_at n = first_of (named (arrays_in f) (variables_at r)) n

  abbrev given_at : List ℕ → Bool
  given_at n = list_any (bytes_eq n) (flat_map (λ x. names_given x.shape) (trees_at r.items.now))

  given_in : (n : List ℕ) → given_at n ≡ false → list_any (bytes_eq n) (flat_map (λ x. names_given x.shape) all) ≡ false
  given_in n h = ap (λ xs. list_any (bytes_eq n) (flat_map (λ x. names_given x.shape) xs)) (sym items) ∙ h

  firsts : (n : List ℕ) → first_at n ≡ first_of (named (arrays_of all) vs) n
  firsts n = ap₂ (λ a ns. first_of (named a ns) n) own_arrays variables

  counted : count_at f r ≡ count_in t
  counted = ap₂ (λ a ns. cells_of (named a ns)) own_arrays variables

  types_are : (n : List ℕ) → (symbols_at r).names.types n ≡ (names_in t).types n
  types_are n = ap (λ xs. types_of xs n) items

  first_kept : (n : List ℕ) → firsts_in k.entries n ≡ first_at n
  first_kept n = first_is f r n (kept_at k.entries n) (first_at n) (given_at n) (names.started.said n)

  -- a name without cells was given nothing
  nothing_given : (n : List ℕ) → first_at n ≡ None → (i : ℕ) → number_given (starts_in f n i) ≡ pos 0
  nothing_given n none i =
      let rs = symbols_of all in
      let ss = starts_from rs [] all in
      let other = not_first (arrays_of all) n vs (sym (firsts n) ∙ none) in
      ap (λ g. number_given (g n i)) starts ∙ ap number_given (given_nothing rs.names n ss i (none_for n vs ss other given))

  abbrev cells : List ℤ
  cells = starts_by f (variables_at r)

  stands_at : (n : List ℕ) (ss : List ℤ) → value_at (known (world_of cells)) (cell_of (named (arrays_in f) (variables_at r)) n ss) ≡ number_if (starts_in f n) (place (dimensions_in (arrays_in f n)) ss)
  stands_at n ss = by_first (first_at n) refl
    where
      by_none : first_at n ≡ None → (o : Option ℕ) → pos 0 ≡ number_if (starts_in f n) o
      by_none none None = refl
      by_none none (Some i) = sym (nothing_given n none i)

      by_place : (c : ℕ) → first_at n ≡ Some c → (o : Option ℕ) → place (dimensions_in (arrays_in f n)) ss ≡ o → value_at (known (world_of cells)) (option_map (λ i. c + i) o) ≡ number_if (starts_in f n) o
      by_place c is None at = refl
      by_place c is (Some i) at =
          known_value cells (c + i) ∙ value_by f n i ((one_to_one (dimensions_in (arrays_in f n))).small ss i at) (variables_at r) c is

      by_first : (o : Option ℕ) → first_at n ≡ o → value_at (known (world_of cells)) (cell_of (named (arrays_in f) (variables_at r)) n ss) ≡ number_if (starts_in f n) (place (dimensions_in (arrays_in f n)) ss)
      by_first None is =
          ap (value_at (known (world_of cells))) ((no_first (arrays_in f) n (variables_at r) is).1 ss) ∙ by_none is (place (dimensions_in (arrays_in f n)) ss)
      by_first (Some c) is =
          ap (value_at (known (world_of cells))) (sym (first_cells (arrays_in f) n (variables_at r) c is ss))
          ∙ by_place c is (place (dimensions_in (arrays_in f n)) ss) refl

  starts_shown : start_in t ≡ shown (symbols_of all).names (starts_in f)
  starts_shown =
      let rs = symbols_of all in
      ap (λ m. fold given_to m (starts_from rs [] all)) (nothing_shown rs.names)
      ∙ all_shown rs.names (starts_from rs [] all) nothing (all_placed rs [] all)
      ∙ ap (shown rs.names) (sym starts)

  started_at : (n : List ℕ) (ss : List ℤ) → map_of t k.starts.items n ss ≡ start_in t n ss
  unfolding map_by
  started_at n ss =
      ap (λ values. value_at (known (world_of values)) (cell_of (named (arrays_of all) vs) n ss)) names.started.given
      ∙ sym (ap₂ (λ a ns. value_at (known (world_of cells)) (cell_of (named a ns) n ss)) own_arrays variables)
      ∙ stands_at n ss
      ∙ ap (λ a. number_if (starts_in f n) (place (dimensions_in (a n)) ss)) own_arrays
      ∙ sym (ap (λ m. m n ss) starts_shown)

  pub naming : Naming t k
  naming = record {
    valued = λ n. value_is f r n (kept_at k.entries n) (first_at n) (given_at n) (names.started.said n) (λ h. constants n ∙ unknown (types_of all) all n (given_in n h)) ∙ constants n;
    typed = λ n. subst (λ o. IsTyped o (kept_at k.entries n)) (types_are n) (type_is f r n (kept_at k.entries n) (first_at n) (given_at n) (names.started.said n));
    lettered = λ n byte none. by_letters n byte (untyped all n (given_in n (not_given f r n (kept_at k.entries n) (first_at n) (given_at n) (names.started.said n) none)));
    stored = λ n.
        stored_is (arrays_of all) vs n (bounded all n) (no_array all n) (storage_kept (kept_at k.entries n)) (first_at n) (sym (firsts n))
        (storage_is f r n (kept_at k.entries n) (first_at n) (given_at n) (names.started.said n) ∙ ap (λ a. option_map (place_from (dimensions_in (a n))) (first_at n)) own_arrays);
    few = subst (λ c. c < 2 ^ 64) counted names.started.few;
    many = ap length names.started.given ∙ many_by f (variables_at r) ∙ counted;
    started = started_at;
  }
    where
      by_letters : (n : List ℕ) → StartsWithByte n → declared_by (typed_names all) n ≡ None → by_first k.letters.items n ≡ types_of all n
      by_letters [] byte none = sym (ap (λ o. option_or o None) none)
      by_letters (c ∷ cs) byte none =
          ap type_if (names.letters c byte) ∙ ap (λ xs. letter_type (has_implicit_none xs) (implicit_parts xs) c) items
          ∙ sym (ap (λ o. option_or o (letter_type (has_implicit_none all) (implicit_parts all) c)) none)

-- The first value that statements give a name.
use Rattle.std.proofs.Common.{◌≡◌, ℕ, ◌+◌, ◌<◌, Bool, true, false, List, [], ◌∷◌, ◌++◌, length, get_or, take, map, Option, Some, None, refl, sym, ap, subst, ◌∙◌, arith}
use Rattle.std.specs.Prelude.{if◌then◌else◌}
use Rattle.std.specs.Option.{option_or}
use Rattle.std.specs.Str.{bytes_eq}
use Rattle.std.specs.Borrow.{Bor}
use Rattle.std.specs.List.{range_with_len, slice_get}
use Rattle.std.proofs.lemmas.List.{map-append}
use Rattle.std.proofs.lemmas.List.FromFn.{map-range_with_len_more, length-map-range_with_len, get_or-map-range_with_len}
use Rattle.std.proofs.lemmas.Option.{slice_get-get_or}
use Rattle.meaning.specs.declared.syntax.DataType.{DataType}
use Rattle.meaning.specs.declared.syntax.Declarator.{Declarator}
use Rattle.meaning.specs.declared.syntax.Item.{Item}
use Rattle.meaning.specs.Syntax.{declarator_tree}
use Rattle.meaning.specs.Types.{TypedName, declared_by, typed_as, typed_in}
use Rattle.symbols.specs.TypedNames.{typed_names}
use Rattle.name_maps.proofs.FirstKept.{or_none}
use Rattle.symbols.specs.Listed.{tree_at, trees_at}
use Rattle.symbols.proofs.Passes.{taken_more, flat_map_last}

pub or_grouped : {V : Type 0} (a b c : Option V) → option_or (option_or a b) c ≡ option_or a (option_or b c)
or_grouped None b c = refl
or_grouped (Some v) b c = refl

-- a value for one name
abbrev pub if_named : {V : Type 0} → List ℕ → V → List ℕ → Option V
if_named name v n = if bytes_eq n name then Some v else None

-- ---- one more that may give one

pub first_more : {X V : Type 0} (first : List X → Option V) (one : X → Option V) → ((xs : List X) (x : X) → first (xs ++ x ∷ []) ≡ option_or (first xs) (one x)) → (xs : List X) (i : ℕ) (x : X) (front now next : Option V) → i < length xs → x ≡ get_or xs i x → now ≡ option_or front (first (take i xs)) → next ≡ option_or now (one x) → next ≡ option_or front (first (take (i + 1) xs))
first_more first one law xs i x front now next lt is so_far added =
    added ∙ ap (λ o. option_or o (one x)) so_far ∙ or_grouped front (first (take i xs)) (one x)
    ∙ ap (option_or front) (sym (law (take i xs) x) ∙ ap first (sym (taken_more xs i x lt is)))

pub or_nothing : {V : Type 0} (o : Option V) → o ≡ option_or o None
or_nothing o = or_none o

-- ---- types

pub declared_append : (ts us : List TypedName) (n : List ℕ) → declared_by (ts ++ us) n ≡ option_or (declared_by ts n) (declared_by us n)
declared_append [] us n = refl
declared_append (t ∷ ts) us n = by_test (bytes_eq n t.name) (declared_append ts us n)
  where
    by_test : (b : Bool) → declared_by (ts ++ us) n ≡ option_or (declared_by ts n) (declared_by us n) → (if b then Some t.data_type else declared_by (ts ++ us) n) ≡ option_or (if b then Some t.data_type else declared_by ts n) (declared_by us n)
    by_test true h = refl
    by_test false h = h

pub typed_law : (k : DataType) (n : List ℕ) (ds : List Declarator) (d : Declarator) → declared_by (typed_as k (map declarator_tree (ds ++ d ∷ []))) n ≡ option_or (declared_by (typed_as k (map declarator_tree ds)) n) (if_named d.name.items k n)
typed_law k n [] d = refl
typed_law k n (x ∷ xs) d = by_test (bytes_eq n x.name.items) (typed_law k n xs d)
  where
    by_test : (b : Bool) → declared_by (typed_as k (map declarator_tree (xs ++ d ∷ []))) n ≡ option_or (declared_by (typed_as k (map declarator_tree xs)) n) (if_named d.name.items k n) → (if b then Some k else declared_by (typed_as k (map declarator_tree (xs ++ d ∷ []))) n) ≡ option_or (if b then Some k else declared_by (typed_as k (map declarator_tree xs)) n) (if_named d.name.items k n)
    by_test true h = refl
    by_test false h = h

pub typed_names_law : (n : List ℕ) (ms : List (Bor Item)) (m : Bor Item) → declared_by (typed_names (trees_at (ms ++ m ∷ []))) n ≡ option_or (declared_by (typed_names (trees_at ms)) n) (declared_by (typed_in (tree_at m).shape) n)
typed_names_law n ms m =
    ap (λ xs. declared_by (typed_names xs) n) (map-append tree_at ms (m ∷ []))
    ∙ ap (λ ts. declared_by ts n) (flat_map_last (λ x. typed_in x.shape) (trees_at ms) (tree_at m))
    ∙ declared_append (typed_names (trees_at ms)) (typed_in (tree_at m).shape) n

-- ---- a table

pub table_more : {V : Type 0} (f : ℕ → V) (i : ℕ) (old new : List V) (v : V) → old ≡ map f (range_with_len 0 i) → v ≡ f i → new ≡ old ++ v ∷ [] → new ≡ map f (range_with_len 0 (i + 1))
table_more f i old new v so_far is added =
    added ∙ ap (λ xs. xs ++ v ∷ []) so_far ∙ ap (λ x. map f (range_with_len 0 i) ++ x ∷ []) is
    ∙ sym (map-range_with_len_more f 0 i i (omega arith))

pub table_at : {V : Type 0} (f : ℕ → V) (n c : ℕ) (xs : List V) → xs ≡ map f (range_with_len 0 n) → c < n → slice_get xs c ≡ Some (f c)
table_at f n c xs is lt =
    ap (λ ts. slice_get ts c) is
    ∙ slice_get-get_or (map f (range_with_len 0 n)) c (f c) (subst (λ k. c < k) (sym (length-map-range_with_len f 0 n)) lt)
    ∙ ap Some (get_or-map-range_with_len f 0 n c c (f c) lt (omega arith))

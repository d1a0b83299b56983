-- A list that is passed over, one step on.
use Rattle.std.proofs.Common.{◌≡◌, ℕ, ◌+◌, ◌<◌, List, [], ◌∷◌, ◌++◌, length, get_or, take, drop, map, append_assoc, sym, ap, ◌∙◌}
use Rattle.std.specs.Prelude.{flat_map}
use Rattle.std.proofs.lemmas.List.{take_more, drop_more, map-append, append-nil}
use Rattle.std.proofs.lemmas.Grind.{flat_map-append}
use Rattle.name_maps.specs.NameSets.{with_names}
use Rattle.name_maps.proofs.NameSets.{with_names_append}

-- what is behind, one more
pub taken_more : {X : Type 0} (xs : List X) (i : ℕ) (x : X) → i < length xs → x ≡ get_or xs i x → take (i + 1) xs ≡ take i xs ++ x ∷ []
taken_more xs i x lt is = take_more xs i x lt ∙ ap (λ y. take i xs ++ y ∷ []) (sym is)

pub map_more : {X Y : Type 0} (f : X → Y) (xs : List X) (i : ℕ) (x : X) → i < length xs → x ≡ get_or xs i x → map f (take (i + 1) xs) ≡ map f (take i xs) ++ f x ∷ []
map_more f xs i x lt is = ap (map f) (taken_more xs i x lt is) ∙ map-append f (take i xs) (x ∷ [])

pub flat_map_last : {X Y : Type 0} (f : X → List Y) (xs : List X) (x : X) → flat_map f (xs ++ x ∷ []) ≡ flat_map f xs ++ f x
flat_map_last f xs x = flat_map-append f xs (x ∷ []) ∙ ap (λ ys. flat_map f xs ++ ys) (append-nil (f x))

-- what is left, one less
pub map_left : {X Y : Type 0} (f : X → Y) (xs : List X) (i : ℕ) (x : X) → i < length xs → x ≡ get_or xs i x → map f (drop i xs) ≡ f x ∷ map f (drop (i + 1) xs)
map_left f xs i x lt is =
    ap (map f) (drop_more xs i x lt) ∙ ap (λ y. f y ∷ map f (drop (i + 1) xs)) (sym is)

-- what is put behind others, one more
pub pushed_more : {X Y : Type 0} (f : X → Y) (xs : List X) (i : ℕ) (x : X) (front now next : List Y) → i < length xs → x ≡ get_or xs i x → now ≡ front ++ map f (take i xs) → next ≡ now ++ f x ∷ [] → next ≡ front ++ map f (take (i + 1) xs)
pushed_more f xs i x front now next lt is so_far added =
    added ∙ ap (λ ys. ys ++ f x ∷ []) so_far ∙ append_assoc front (map f (take i xs)) (f x ∷ [])
    ∙ ap (λ ys. front ++ ys) (sym (map_more f xs i x lt is))

-- what is put behind others, the list of one element more
pub joined_more : {X Y Z : Type 0} (f : Y → List Z) (g : X → Y) (xs : List X) (i : ℕ) (x : X) (front now next : List Z) → i < length xs → x ≡ get_or xs i x → now ≡ front ++ flat_map f (map g (take i xs)) → next ≡ now ++ f (g x) → next ≡ front ++ flat_map f (map g (take (i + 1) xs))
joined_more f g xs i x front now next lt is so_far added =
    added ∙ ap (λ ys. ys ++ f (g x)) so_far ∙ append_assoc front (flat_map f (map g (take i xs))) (f (g x))
    ∙ ap (λ ys. front ++ ys) (sym (flat_map_last f (map g (take i xs)) (g x)) ∙ ap (flat_map f) (sym (map_more g xs i x lt is)))

-- sets of names, the names of one element more; f gives those of an element
pub names_more : {X : Type 0} (f : List X → List (List ℕ)) (one : X → List (List ℕ)) → ((xs : List X) (x : X) → f (xs ++ x ∷ []) ≡ f xs ++ one x) → (xs : List X) (i : ℕ) (x : X) (front now next : List (List ℕ)) → i < length xs → x ≡ get_or xs i x → now ≡ with_names front (f (take i xs)) → next ≡ with_names now (one x) → next ≡ with_names front (f (take (i + 1) xs))
names_more f one law xs i x front now next lt is so_far added =
    added ∙ ap (λ ns. with_names ns (one x)) so_far ∙ sym (with_names_append front (f (take i xs)) (one x))
    ∙ ap (with_names front) (sym (law (take i xs) x) ∙ ap f (sym (taken_more xs i x lt is)))

-- lists behind a list
pub appended : {X : Type 0} (a b c : List X) → (a ++ b) ++ c ≡ a ++ (b ++ c)
appended a b c = append_assoc a b c

pub nothing_more : {X : Type 0} (a : List X) → a ++ [] ≡ a
nothing_more a = append-nil a

-- Items of a list with commas between: the loop that reads them, and the loop that puts them together.
use Rattle.std.proofs.Common.{◌≡◌, ℕ, suc, ◌+◌, ◌-◌, ◌<◌, List, [], ◌∷◌, ◌++◌, length, map, Option, Some, None, true, false, refl, sym, ap, ◌∙◌, arith}
use Rattle.std.specs.Prelude.{option_map}
use Rattle.meaning.specs.Syntax.{ListItemTree, ListItemsTree, no_items, more_items, list_item_tree}
use Rattle.meaning.specs.declared.syntax.ListItem.{ListItem}
use Rattle.meaning.specs.Reading.{Text, ◌>>=◌, after, ends_list, item_at, items_at}
use Rattle.parser.specs.Rows.{items_before}
use Rattle.parser.specs.declared.read_error.ReadError.{ReadError}
use Rattle.parser.specs.declared.read_error.ReadError.TheVariants.{NoReading, Memory}
use Rattle.parser.specs.Reports.{Misses}

-- what was read, with others before it
abbrev pub with_before : List ListItemTree → ListItemsTree × Text → ListItemsTree × Text
with_before xs r = (items_before xs r.0, r.1)

-- so many at most behind others
abbrev pub others_at : ℕ → List ListItemTree → ℕ → Text → Option (ListItemsTree × Text)
others_at least xs n t = option_map (with_before xs) (items_at least n t)

-- an item between those before and those behind
pub before_pushed : (xs : List ListItemTree) (x : ListItemTree) (others : ListItemsTree) → items_before (xs ++ (x ∷ [])) others ≡ items_before xs (more_items x others)
unfolding items_before
before_pushed [] x others = refl
before_pushed (w ∷ ws) x others = ap (λ ys. more_items w ys) (before_pushed ws x others)

pub map_pushed : (xs : List ListItem) (x : ListItem) → map list_item_tree (xs ++ (x ∷ [])) ≡ map list_item_tree xs ++ (list_item_tree x ∷ [])
map_pushed [] x = refl
map_pushed (w ∷ ws) x = ap (λ zs. list_item_tree w ∷ zs) (map_pushed ws x)

-- a row with one more at its end
pub seen_pushed : (xs ys : List ListItem) (x : ListItem) (others : ListItemsTree) → ys ≡ xs ++ (x ∷ []) → items_before (map list_item_tree ys) others ≡ items_before (map list_item_tree xs) (more_items (list_item_tree x) others)
seen_pushed xs ys x others pushed = rw (pushed, map_pushed xs x) (before_pushed (map list_item_tree xs) (list_item_tree x) others)

-- none before
nothing_before : (o : Option (ListItemsTree × Text)) → option_map (with_before []) o ≡ o
unfolding items_before
nothing_before None = refl
nothing_before (Some r) = refl

-- at the front none was read
pub begun : (least : ℕ) (xs : List ListItem) (n k : ℕ) (t : Text) → xs ≡ [] → k ≡ n → others_at least (map list_item_tree xs) k t ≡ items_at least n t
begun least xs n k t none all = rw (none, all) (nothing_before (items_at least n t))

-- no turn is left
pub no_turn : (least : ℕ) (xs : List ListItemTree) (n : ℕ) (t : Text) (total : Option (ListItemsTree × Text)) → others_at least xs n t ≡ total → n ≡ 0 → total ≡ None
unfolding items_at
no_turn least xs n t total so_far ended =
    let none : others_at least xs n t ≡ None = rw ended refl in
    sym so_far ∙ none

-- an item that isn't read ends all
pub missed : (e : ReadError) (least : ℕ) (xs : List ListItemTree) (n i : ℕ) (t : Text) (total : Option (ListItemsTree × Text)) → others_at least xs (n - i) t ≡ total → i < n
    → Misses e (item_at least (items_at least (n - (i + 1))) t) → Misses e total
unfolding items_at ◌>>=◌
missed NoReading least xs n i t total so_far lt none =
    let turns : n - i ≡ suc (n - (i + 1)) = omega arith in
    let nothing : others_at least xs (n - i) t ≡ None = rw (turns, none) refl in
    sym so_far ∙ nothing
missed Memory least xs n i t total so_far lt none = tt

-- no comma, and yet no end
pub no_comma : (least : ℕ) (xs : List ListItemTree) (x : ListItemTree) (n i : ℕ) (t u : Text) (total : Option (ListItemsTree × Text)) → others_at least xs (n - i) t ≡ total → i < n
    → item_at least (items_at least (n - (i + 1))) t ≡ Some (x, u) → false ≡ ends_list u → None ≡ after (44 ∷ []) u → total ≡ None
unfolding items_at ◌>>=◌
no_comma least xs x n i t u total so_far lt read on none =
    let turns : n - i ≡ suc (n - (i + 1)) = omega arith in
    let nothing : others_at least xs (n - i) t ≡ None = rw (turns, read, ← on, ← none) refl in
    sym so_far ∙ nothing

-- the last one
pub last_one : (least : ℕ) (xs ys : List ListItem) (x : ListItem) (n i : ℕ) (t u : Text) (total : Option (ListItemsTree × Text)) → ys ≡ xs ++ (x ∷ []) → others_at least (map list_item_tree xs) (n - i) t ≡ total → i < n
    → item_at least (items_at least (n - (i + 1))) t ≡ Some (list_item_tree x, u) → true ≡ ends_list u → total ≡ Some (items_before (map list_item_tree ys) no_items, u)
unfolding items_at ◌>>=◌
last_one least xs ys x n i t u total pushed so_far lt read ends =
    let turns : n - i ≡ suc (n - (i + 1)) = omega arith in
    let value : others_at least (map list_item_tree xs) (n - i) t ≡ Some (items_before (map list_item_tree xs) (more_items (list_item_tree x) no_items), u) = rw (turns, read, ← ends) refl in
    rw (seen_pushed xs ys x no_items pushed) (sym so_far ∙ value)

regrouped : (xs ys : List ListItem) (x : ListItem) (o : Option (ListItemsTree × Text)) → ys ≡ xs ++ (x ∷ [])
    → option_map (with_before (map list_item_tree xs)) (o >>= λ r. Some (more_items (list_item_tree x) r.0, r.1)) ≡ option_map (with_before (map list_item_tree ys)) o
unfolding ◌>>=◌
regrouped xs ys x None pushed = refl
regrouped xs ys x (Some r) pushed = ap (λ zs. Some (zs, r.1)) (sym (seen_pushed xs ys x r.0 pushed))

-- one that others follow
pub next_one : (least : ℕ) (xs ys : List ListItem) (x : ListItem) (n i : ℕ) (t u v : Text) (total : Option (ListItemsTree × Text)) → ys ≡ xs ++ (x ∷ []) → others_at least (map list_item_tree xs) (n - i) t ≡ total → i < n
    → item_at least (items_at least (n - (i + 1))) t ≡ Some (list_item_tree x, u) → false ≡ ends_list u → Some v ≡ after (44 ∷ []) u → others_at least (map list_item_tree ys) (n - (i + 1)) v ≡ total
unfolding items_at ◌>>=◌
next_one least xs ys x n i t u v total pushed so_far lt read on comma =
    let turns : n - i ≡ suc (n - (i + 1)) = omega arith in
    let turn : others_at least (map list_item_tree xs) (n - i) t ≡ option_map (with_before (map list_item_tree xs)) (items_at least (n - (i + 1)) v >>= λ r. Some (more_items (list_item_tree x) r.0, r.1)) =
    rw (turns, read, ← on, ← comma) refl in
    sym (regrouped xs ys x (items_at least (n - (i + 1)) v) pushed) ∙ sym turn ∙ so_far

-- one more is put before those that are together
pub put_before : (xs ys : List ListItem) (x : ListItem) (others more total : ListItemsTree) → xs ≡ ys ++ (x ∷ []) → items_before (map list_item_tree xs) others ≡ total → more ≡ more_items (list_item_tree x) others
    → items_before (map list_item_tree ys) more ≡ total
put_before xs ys x others more total popped so_far made = rw made (sym (seen_pushed ys xs x others popped) ∙ so_far)

-- all are together
pub all_put : (xs : List ListItem) (others total : ListItemsTree) → length xs ≡ 0 → items_before (map list_item_tree xs) others ≡ total → others ≡ total
unfolding items_before
all_put [] others total none so_far = so_far
all_put (x ∷ xs) others total none so_far = absurd (omega arith)

-- Tests of lists that are joined, and of what is left of one.
use Rattle.std.proofs.Common.{◌≡◌, ℕ, ◌+◌, ◌<◌, Bool, true, false, ◌||◌, List, ◌++◌, length, get_or, map, drop, sym, ap, ap₂, ◌∙◌}
use Rattle.std.specs.List.{list_any}
use Rattle.std.proofs.lemmas.List.Folds.{list_any-append}
use Rattle.meaning.specs.declared.syntax.ListItem.{ListItem}
use Rattle.meaning.specs.declared.syntax.ListItem.TheVariants as list_items
use Rattle.meaning.specs.declared.syntax.ListItems.{ListItems}
use Rattle.meaning.specs.declared.syntax.ListItems.TheVariants as lists
use Rattle.meaning.specs.Syntax.{limits_tree, list_items_tree, list_item_tree, more_items}
use Rattle.meaning.specs.Typing.{Names, in_items, in_limits, is_mistyped}
use Rattle.symbols.proofs.Passes.{map_left}

pub any_joined : {X : Type 0} (test : X → Bool) (xs ys : List X) → list_any test (xs ++ ys) ≡ (list_any test xs || list_any test ys)
any_joined test xs ys = list_any-append test xs ys

-- an implied DO, and the items behind it
pub loop_told : (of_data : Bool) (ns : Names) (items : ListItems) (item : ListItem) (p : _) (rest : ListItems) (q : _) (ys : ListItems) (variable : _) (limits : _) (a b c : Bool) → items ≡ lists.More' item p rest → item ≡ list_items.Loop' q ys variable limits → a ≡ list_any (is_mistyped ns) (in_items of_data (list_items_tree ys)) → b ≡ list_any (is_mistyped ns) (in_limits (limits_tree limits)) → c ≡ list_any (is_mistyped ns) (in_items of_data (list_items_tree rest)) → (a || (b || c)) ≡ list_any (is_mistyped ns) (in_items of_data (list_items_tree items))
loop_told of_data ns items item p rest q ys variable limits a b c more loop ea eb ec =
    let test = is_mistyped ns in
    let here = in_items of_data (list_items_tree ys) in
    let bounds = in_limits (limits_tree limits) in
    let behind = in_items of_data (list_items_tree rest) in
    ap₂ ◌||◌ ea (ap₂ ◌||◌ eb ec)
    ∙ ap (λ x. list_any test here || x) (sym (any_joined test bounds behind))
    ∙ sym (any_joined test here (bounds ++ behind))
    ∙ ap (λ x. list_any test (in_items of_data (more_items (list_item_tree x) (list_items_tree rest)))) (sym loop)
    ∙ ap (λ xs. list_any test (in_items of_data (list_items_tree xs))) (sym more)

-- what is left of a list without its first element, which doesn't pass a test, and with one that does
pub left_out : {X Y Z : Type 0} (test : Z → Bool) (f : Y → Z) (g : X → Y) (xs : List X) (i : ℕ) (x : X) (whole : Bool) → i < length xs → x ≡ get_or xs i x → list_any test (map f (map g (drop i xs))) ≡ whole → test (f (g x)) ≡ false → list_any test (map f (map g (drop (i + 1) xs))) ≡ whole
left_out test f g xs i x whole lt is so_far miss =
    ap (λ b. b || list_any test (map f (map g (drop (i + 1) xs)))) (sym miss) ∙ ap (λ ys. list_any test (map f ys)) (sym (map_left g xs i x lt is))
    ∙ so_far

pub left_in : {X Y Z : Type 0} (test : Z → Bool) (f : Y → Z) (g : X → Y) (xs : List X) (i : ℕ) (x : X) (whole : Bool) → i < length xs → x ≡ get_or xs i x → list_any test (map f (map g (drop i xs))) ≡ whole → test (f (g x)) ≡ true → true ≡ whole
left_in test f g xs i x whole lt is so_far hit =
    ap (λ b. b || list_any test (map f (map g (drop (i + 1) xs)))) (sym hit) ∙ ap (λ ys. list_any test (map f ys)) (sym (map_left g xs i x lt is))
    ∙ so_far

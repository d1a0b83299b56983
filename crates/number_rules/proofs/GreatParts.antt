-- Integer constants in the parts of statements.
use Rattle.std.proofs.Common.{◌≡◌, ℕ, Bool, ◌||◌, List, [], ◌∷◌, ◌++◌, refl, sym, ap, ap₂, ◌∙◌}
use Rattle.std.specs.Prelude.{flat_map}
use Rattle.std.specs.List.{list_any}
use Rattle.meaning.specs.declared.syntax.ListItem.{ListItem}
use Rattle.meaning.specs.declared.syntax.ListItem.TheVariants as list_items
use Rattle.meaning.specs.declared.syntax.ListItems.{ListItems}
use Rattle.meaning.specs.declared.syntax.ListItems.TheVariants as lists
use Rattle.meaning.specs.Syntax.{limits_tree, list_items_tree, list_item_tree, more_items}
use Rattle.meaning.specs.Typing.{Expected, in_items, in_limits}
use Rattle.meaning.specs.NumberRules.{is_too_great, numbers_in}
use Rattle.number_rules.specs.GreatNumbers.{has_great}
use Rattle.rule_passes.proofs.Missing.{any_both}

-- an implied DO and the items behind it
pub loop_any : (of_data : Bool) (test : Expected → Bool) (items : ListItems) (item : ListItem) (p : _) (rest : ListItems) (q : _) (ys : ListItems) (variable : _) (limits : _) (a b c : Bool) → items ≡ lists.More' item p rest → item ≡ list_items.Loop' q ys variable limits → a ≡ list_any test (in_items of_data (list_items_tree ys)) → b ≡ list_any test (in_limits (limits_tree limits)) → c ≡ list_any test (in_items of_data (list_items_tree rest)) → (a || (b || c)) ≡ list_any test (in_items of_data (list_items_tree items))
loop_any of_data test items item p rest q ys variable limits a b c more loop ea eb ec =
    let here = in_items of_data (list_items_tree ys) in
    let bounds = in_limits (limits_tree limits) in
    let behind = in_items of_data (list_items_tree rest) in
    ap₂ ◌||◌ ea (ap₂ ◌||◌ eb ec)
    ∙ ap (λ x. list_any test here || x) (sym (any_both test bounds behind))
    ∙ sym (any_both test here (bounds ++ behind))
    ∙ ap (λ x. list_any test (in_items of_data (more_items (list_item_tree x) (list_items_tree rest)))) (sym loop)
    ∙ ap (λ xs. list_any test (in_items of_data (list_items_tree xs))) (sym more)

pub any_flat_map : {X Y : Type 0} (test : Y → Bool) (f : X → List Y) (xs : List X) → list_any (λ x. list_any test (f x)) xs ≡ list_any test (flat_map f xs)
any_flat_map test f [] = refl
any_flat_map test f (x ∷ xs) = ap (λ b. list_any test (f x) || b) (any_flat_map test f xs) ∙ sym (any_both test (f x) (flat_map f xs))

-- the constants of expressions, and other ones
pub great_joined : (xs : List Expected) (ys : List (List ℕ)) → list_any is_too_great (flat_map (λ x. numbers_in x.expr) xs ++ ys) ≡ (list_any has_great xs || list_any is_too_great ys)
great_joined xs ys =
    any_both is_too_great (flat_map (λ x. numbers_in x.expr) xs) ys ∙ ap (λ b. b || list_any is_too_great ys) (sym (any_flat_map is_too_great (λ x. numbers_in x.expr) xs))

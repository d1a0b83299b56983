-- Arrays without a size, one declarator or one statement more, and the names in an implied DO.
use Rattle.std.proofs.Common.{◌≡◌, ℕ, ◌+◌, ◌<◌, Bool, ◌||◌, List, [], ◌∷◌, ◌++◌, length, get_or, take, map, filter, append_assoc, refl, sym, ap, ap₂, ◌∙◌}
use Rattle.std.specs.List.{list_any}
use Rattle.std.proofs.lemmas.List.{append-nil, map-append}
use Rattle.std.proofs.lemmas.List.Elements.{filter-append}
use Rattle.meaning.specs.declared.syntax.Declarator.{Declarator}
use Rattle.meaning.specs.declared.syntax.ListItem.{ListItem}
use Rattle.meaning.specs.declared.syntax.ListItem.TheVariants as list_items
use Rattle.meaning.specs.declared.syntax.ListItems.{ListItems}
use Rattle.meaning.specs.declared.syntax.ListItems.TheVariants as lists
use Rattle.meaning.specs.Initial.{list_uses}
use Rattle.meaning.specs.NumberRules.{sizeless_at, sizeless_in}
use Rattle.meaning.specs.Syntax.{DeclaratorTree, ItemTree, declarator_tree, limits_tree, list_item_tree, list_items_tree, more_items}
use Rattle.meaning.specs.Uses.{Symbols, Use, limit_uses}
use Rattle.symbols.proofs.Passes.{map_more}
use Rattle.rule_passes.proofs.Missing.{any_both}

-- an implied DO and the items behind it
pub loop_uses : (test : Use → Bool) (items : ListItems) (item : ListItem) (p : _) (rest : ListItems) (q : _) (ys : ListItems) (variable : _) (limits : _) (a b c : Bool) → items ≡ lists.More' item p rest → item ≡ list_items.Loop' q ys variable limits → a ≡ list_any test (list_uses (list_items_tree ys)) → b ≡ list_any test (limit_uses (limits_tree limits)) → c ≡ list_any test (list_uses (list_items_tree rest)) → (a || (b || c)) ≡ list_any test (list_uses (list_items_tree items))
loop_uses test items item p rest q ys variable limits a b c more loop ea eb ec =
    let here = list_uses (list_items_tree ys) in
    let bounds = limit_uses (limits_tree limits) in
    let behind = list_uses (list_items_tree rest) in
    ap₂ ◌||◌ ea (ap₂ ◌||◌ eb ec)
    ∙ ap (λ x. list_any test here || x) (sym (any_both test bounds behind))
    ∙ sym (any_both test here (bounds ++ behind))
    ∙ ap (λ x. list_any test (list_uses (more_items (list_item_tree x) (list_items_tree rest)))) (sym loop)
    ∙ ap (λ xs. list_any test (list_uses (list_items_tree xs))) (sym more)

-- ---- declarators

module _ (test : DeclaratorTree → Bool) where
  abbrev pub named : List DeclaratorTree → List (List ℕ)
  named ds = map (λ d. d.name) (filter test ds)

  named_append : (xs ys : List DeclaratorTree) → named (xs ++ ys) ≡ named xs ++ named ys
  named_append xs ys = ap (map (λ d. d.name)) (filter-append test xs ys) ∙ map-append (λ d. d.name) (filter test xs) (filter test ys)

  pub named_more : (front now next : List (List ℕ)) (ds : List Declarator) (i : ℕ) (d : Declarator) → i < length ds → d ≡ get_or ds i d → now ≡ front ++ named (map declarator_tree (take i ds)) → next ≡ now ++ named (declarator_tree d ∷ []) → next ≡ front ++ named (map declarator_tree (take (i + 1) ds))
  named_more front now next ds i d lt is so_far added =
      let behind = map declarator_tree (take i ds) in
      added ∙ ap (λ ns. ns ++ named (declarator_tree d ∷ [])) so_far
      ∙ append_assoc front (named behind) (named (declarator_tree d ∷ []))
      ∙ ap (λ ns. front ++ ns) (sym (named_append behind (declarator_tree d ∷ [])) ∙ ap named (sym (map_more declarator_tree ds i d lt is)))

-- ---- statements

module _ (r : Symbols) where
  sizeless_append : (before xs : List ItemTree) (x : ItemTree) → sizeless_in r before (xs ++ x ∷ []) ≡ sizeless_in r before xs ++ sizeless_at r (before ++ xs) x
  unfolding sizeless_in
  sizeless_append before [] x = append-nil (sizeless_at r before x) ∙ ap (λ b. sizeless_at r b x) (sym (append-nil before))
  sizeless_append before (y ∷ ys) x =
      ap (λ ns. sizeless_at r before y ++ ns) (sizeless_append (before ++ y ∷ []) ys x)
      ∙ sym (append_assoc (sizeless_at r before y) (sizeless_in r (before ++ y ∷ []) ys) (sizeless_at r ((before ++ y ∷ []) ++ ys) x))
      ∙ ap (λ b. (sizeless_at r before y ++ sizeless_in r (before ++ y ∷ []) ys) ++ sizeless_at r b x) (append_assoc before (y ∷ []) ys)

  pub sizeless_push : (before : List ItemTree) (x : ItemTree) → sizeless_in r [] (before ++ x ∷ []) ≡ sizeless_in r [] before ++ sizeless_at r before x
  sizeless_push before x = sizeless_append [] before x

  pub sizeless_none : [] ≡ sizeless_in r [] []
  unfolding sizeless_in
  sizeless_none = refl

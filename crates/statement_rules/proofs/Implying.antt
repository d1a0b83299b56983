-- An implied DO that sets the variable of one around it stands in one that has its variable.
use Rattle.std.proofs.Common.{◌≡◌, ℕ, Bool, true, false, ◌||◌, List, [], ◌∷◌, refl, sym, ap, ap₂, ◌∙◌}
use Rattle.std.specs.List.{list_any}
use Rattle.std.proofs.lemmas.List.Folds.{list_any-append}
use Rattle.meaning.specs.Syntax.{ListItemsTree, no_items, more_items, value_item, loop_item}
use Rattle.meaning.specs.Surroundings.{loop_variables}
use Rattle.meaning.specs.LoopRules.{resets_in}
use Rattle.meaning.specs.Uses.{is_one_of}
use Rattle.statement_rules.specs.Implied.{stands_in_own}
use Rattle.rule_passes.proofs.Membership.{none_of, one_of_more}

joined : (a b c d e f : Bool) → (a || (((b || c) || d) || (e || f))) ≡ ((a || (c || e)) || (b || (d || f)))
joined true b c d e f = refl
joined false true true d e f = refl
joined false true false d true f = refl
joined false true false d false f = refl
joined false false true d e f = refl
joined false false false true true f = refl
joined false false false true false f = refl
joined false false false false true f = refl
joined false false false false false f = refl

pub resets_is : (around : List (List ℕ)) (xs : ListItemsTree) → resets_in around xs ≡ (list_any (is_one_of around) (loop_variables xs) || stands_in_own xs)
resets_is around no_items = refl
resets_is around (more_items (value_item e) xs) = resets_is around xs
resets_is around (more_items (loop_item ys variable limits) xs) =
    ap₂ (λ a b. is_one_of around variable || (a || b)) (resets_is (variable ∷ around) ys ∙ ap (λ a. a || stands_in_own ys) (one_of_more variable around (loop_variables ys))) (resets_is around xs)
    ∙ joined (is_one_of around variable) (is_one_of (loop_variables ys) variable) (list_any (is_one_of around) (loop_variables ys)) (stands_in_own ys) (list_any (is_one_of around) (loop_variables xs)) (stands_in_own xs)
    ∙ ap (λ a. (is_one_of around variable || a) || (is_one_of (loop_variables ys) variable || (stands_in_own ys || stands_in_own xs))) (sym (list_any-append (is_one_of around) (loop_variables ys) (loop_variables xs)))

pub stands_is : (xs : ListItemsTree) → stands_in_own xs ≡ resets_in [] xs
stands_is xs = sym (resets_is [] xs ∙ ap (λ a. a || stands_in_own xs) (none_of (loop_variables xs)))

-- END among statements.
use Rattle.std.proofs.Common.{◌≡◌, ℕ, ◌<◌, true, false, List, map, get_or, length, sym, ap, ◌∙◌, arith}
use Rattle.std.specs.List.{list_any}
use Rattle.std.proofs.lemmas.List.{length-map, get_or-map}
use Rattle.std.proofs.lemmas.List.Folds.{list_any_at}
use Rattle.std.specs.Prelude.{not}
use Rattle.meaning.specs.declared.syntax.Item.{Item}
use Rattle.meaning.specs.Trees.{item_tree}
use Rattle.meaning.specs.Syntax.{ItemTree}
use Rattle.meaning.specs.Nesting.{effect_of, is_end, lacks_end}

pub found_end : (items : List Item) (i : ℕ) (m : Item) → i < length items → m ≡ get_or items i m → true ≡ is_end (effect_of (item_tree m).shape) → false ≡ lacks_end (map item_tree items)
found_end items i m h at e =
    let here : get_or (map item_tree items) i (item_tree m) ≡ item_tree m = get_or-map item_tree items i m (item_tree m) h ∙ ap item_tree (sym at) in
    let found : list_any (λ (x : ItemTree). is_end (effect_of x.shape)) (map item_tree items) ≡ true = list_any_at (λ (x : ItemTree). is_end (effect_of x.shape)) (map item_tree items) i (item_tree m) (omega (arith, length-map items item_tree)) (ap (λ (x : ItemTree). is_end (effect_of x.shape)) here ∙ sym e) in
    sym (ap not found)

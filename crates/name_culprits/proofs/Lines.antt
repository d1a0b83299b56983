-- What statements give names, one statement more.
use Rattle.std.proofs.Common.{◌≡◌, ℕ, ◌+◌, ◌<◌, ◌≤◌, Bool, true, false, List, [], ◌∷◌, ◌++◌, length, get_or, take, drop, map, refl, sym, ap, ◌∙◌, Option, Some, None}
use Rattle.std.specs.Prelude.{if◌then◌else◌}
use Rattle.std.specs.Borrow.{Bor}
use Rattle.std.proofs.lemmas.List.{drop_all}
use Rattle.meaning.specs.declared.syntax.DataType.{DataType}
use Rattle.meaning.specs.declared.syntax.Item.{Item}
use Rattle.meaning.specs.Syntax.{DeclaratorTree}
use Rattle.meaning.specs.Types.{typed_as}
use Rattle.meaning.specs.Uses.{Symbols, is_one_of}
use Rattle.symbols.specs.Listed.{tree_at, trees_at}
use Rattle.symbols.proofs.Passes.{map_left, map_more}
use Rattle.name_culprits.specs.declared.culprit.Giving.{Giving}
use Rattle.name_culprits.specs.Names.{gives, giving_line}

pub typed_names : (k : DataType) (ds : List DeclaratorTree) → map (λ t. t.name) (typed_as k ds) ≡ map (λ d. d.name) ds
typed_names k [] = refl
typed_names k (d ∷ ds) = ap (λ ns. d.name ∷ ns) (typed_names k ds)

module _ (r : Symbols) (k : Giving) (n : List ℕ) where
  module _ (ms : List (Bor Item)) (i : ℕ) where
    line_left : (m : Bor Item) → i < length ms → m ≡ get_or ms i m → giving_line r k (trees_at (take i ms)) (trees_at (drop i ms)) n ≡ (if is_one_of (gives r k (trees_at (take i ms)) (tree_at m)) n then Some (tree_at m).line else giving_line r k (trees_at (take i ms) ++ tree_at m ∷ []) (trees_at (drop (i + 1) ms)) n)
    unfolding giving_line
    line_left m lt is = ap (λ ys. giving_line r k (trees_at (take i ms)) ys n) (map_left tree_at ms i m lt is)

    pub line_here : (m : Bor Item) → i < length ms → m ≡ get_or ms i m → true ≡ is_one_of (gives r k (trees_at (take i ms)) (tree_at m)) n → Some (tree_at m).line ≡ giving_line r k (trees_at (take i ms)) (trees_at (drop i ms)) n
    line_here m lt is hit =
        ap (λ b. if b then Some (tree_at m).line else giving_line r k (trees_at (take i ms) ++ tree_at m ∷ []) (trees_at (drop (i + 1) ms)) n) hit ∙ sym (line_left m lt is)

    pub line_later : (m : Bor Item) → i < length ms → m ≡ get_or ms i m → false ≡ is_one_of (gives r k (trees_at (take i ms)) (tree_at m)) n → giving_line r k (trees_at (take (i + 1) ms)) (trees_at (drop (i + 1) ms)) n ≡ giving_line r k (trees_at (take i ms)) (trees_at (drop i ms)) n
    line_later m lt is miss =
        ap (λ ys. giving_line r k ys (trees_at (drop (i + 1) ms)) n) (map_more tree_at ms i m lt is)
        ∙ ap (λ b. if b then Some (tree_at m).line else giving_line r k (trees_at (take i ms) ++ tree_at m ∷ []) (trees_at (drop (i + 1) ms)) n) miss ∙ sym (line_left m lt is)

    pub line_nowhere : length ms ≤ i → None ≡ giving_line r k (trees_at (take i ms)) (trees_at (drop i ms)) n
    unfolding giving_line
    line_nowhere le = ap (λ ys. giving_line r k (trees_at (take i ms)) (trees_at ys) n) (sym (drop_all i ms le))

-- The names of constants, one more.
use Rattle.std.proofs.Common.{◌≡◌, List, [], ◌∷◌, ◌++◌, map, ap, ◌∙◌}
use Rattle.std.specs.Borrow.{Bor}
use Rattle.std.proofs.lemmas.List.{map-append}
use Rattle.meaning.specs.declared.syntax.Item.{Item}
use Rattle.meaning.specs.declared.syntax.NamedConstant.{NamedConstant}
use Rattle.meaning.specs.Scopes.{constants_in}
use Rattle.meaning.specs.Syntax.{constant_tree}
use Rattle.meaning.specs.Uses.{defined_constants}
use Rattle.symbols.specs.Listed.{tree_at, trees_at}
use Rattle.symbols.proofs.Passes.{flat_map_last}

pub constant_law : (cs : List NamedConstant) (c : NamedConstant) → map (λ x. x.name) (map constant_tree (cs ++ c ∷ [])) ≡ map (λ x. x.name) (map constant_tree cs) ++ c.name.items ∷ []
constant_law cs c =
    ap (map (λ x. x.name)) (map-append constant_tree cs (c ∷ [])) ∙ map-append (λ x. x.name) (map constant_tree cs) (constant_tree c ∷ [])

pub constants_law : (ms : List (Bor Item)) (m : Bor Item) → defined_constants (trees_at (ms ++ m ∷ [])) ≡ defined_constants (trees_at ms) ++ map (λ x. x.name) (constants_in (tree_at m).shape)
constants_law ms m =
    ap defined_constants (map-append tree_at ms (m ∷ []))
    ∙ flat_map_last (λ x. map (λ c. c.name) (constants_in x.shape)) (trees_at ms) (tree_at m)

-- Declarators with bounds, as the code sees them.
use Rattle.std.proofs.Common.{◌≡◌, ◌&&◌, List, [], ◌∷◌, length, map, refl, ap, arith}
use Rattle.std.specs.List.{list_all}
use Rattle.meaning.specs.declared.syntax.Bounds.{Bounds}
use Rattle.meaning.specs.declared.syntax.Declarator.{Declarator}
use Rattle.meaning.specs.Syntax.{bounds_tree, declarator_tree}
use Rattle.meaning.specs.Reading.{has_bounds}

pub viewed_length : (bs : List Bounds) → length (map bounds_tree bs) ≡ length bs
viewed_length [] = refl
viewed_length (b ∷ bs) = let k = viewed_length bs in omega arith

pub arrays_seen : (ds : List Declarator) → list_all (λ d. has_bounds (declarator_tree d)) ds ≡ list_all has_bounds (map declarator_tree ds)
arrays_seen [] = refl
arrays_seen (d ∷ ds) = ap (λ b. has_bounds (declarator_tree d) && b) (arrays_seen ds)

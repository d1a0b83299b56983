-- Places, and the cells of their elements.
use Rattle.std.proofs.Common.{◌≡◌, ℕ, suc, ◌+◌, ◌*◌, ◌<◌, ◌≤◌, false, List, [], ◌∷◌, length, map, ◌==◌, Option, Some, None, refl, sym, ap, ◌∙◌, subst, arith}
use Rattle.std.proofs.Math.Nat.{mul-add, mul_assoc, mul-le-mul_left}
use Rattle.std.proofs.lemmas.Bool.{true≢false}
use Rattle.meaning.specs.Arrays.{Dimension, place}
use Rattle.expressions.specs.declared.place.ElementAddress.{ElementAddress}
use Rattle.expressions.specs.declared.dimension.Dimension.{Dimension as Own}
use Rattle.expressions.specs.Dimensions.{dimension}
use Rattle.expressions.specs.Places.{left, from_cell, behind}

-- ---- numbers

-- e places of the first dimension, of which k is one, and m + 1 of the others
module _ (c s k e m count : ℕ) where
  last_is : s * (e + suc e * m) ≡ s * e + s * suc e * m
  last_is = mul-add s e (suc e * m) ∙ ap (λ x. s * e + x) (sym (mul_assoc s (suc e) m))

  all_below : c + s * (e + suc e * m) < count → c + (s * e + s * suc e * m) < count
  all_below h = subst (λ x. c + x < count) last_is h

  pub moved_below : k ≤ e → c + s * (e + suc e * m) < count → c + s * k + s * suc e * m < count
  moved_below le h = let p = all_below h in let q = mul-le-mul_left s le in omega (arith, p, q)

  pub distance_below : k ≤ e → c + s * (e + suc e * m) < count → c + s * k < count
  distance_below le h = let p = moved_below le h in omega (arith, p)

-- subscripts are left
pub no_cell : (p : ElementAddress) → (left p ≡ [] → ⊥) → behind p [] ≡ None
no_cell p some = by (left p) refl p.cell
  where
    by : (ds : List Dimension) → left p ≡ ds → (o : Option ℕ) → from_cell o p.stride (place (left p) []) ≡ None
    by [] is o = absurd (some is)
    by (d ∷ ds) is None = refl
    by (d ∷ ds) is (Some c) = ap (λ xs. from_cell (Some c) p.stride (place xs [])) is

pub is_left : (ds : List Own) → (length ds == 0) ≡ false → map dimension ds ≡ [] → ⊥
is_left [] some none = true≢false some
is_left (d ∷ ds) some none = absurd cc

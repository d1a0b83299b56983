-- The places of names, by what is kept of them.
use Rattle.std.proofs.Common.{◌≡◌, ◌≤◌, ◌<◌, ◌+◌, ◌^◌, ℕ, suc, ℤ, List, [], ◌∷◌, length, map, Option, Some, None, option_map, refl, sym, ap, subst, ◌∙◌, arith}
use Rattle.std.proofs.Math.Nat.{le_trans, lt_of_le_of_lt}
use Rattle.meaning.specs.declared.syntax.Tree.{Tree}
use Rattle.meaning.specs.Arrays.{Dimension, place, size}
use Rattle.meaning.specs.Values.{dimensions_in}
use Rattle.expressions.specs.declared.dimension.Dimension.{Dimension as Own}
use Rattle.expressions.specs.Dimensions.{dimension}
use Rattle.expressions.specs.Names.{AreCells as AreCellsBy}
use Rattle.expressions.specs.Places.{left, behind, limit}
use Rattle.expressions.specs.declared.numbering.Cells.{Cells}
use Rattle.expressions.specs.declared.place.ElementAddress.{ElementAddress}
use Rattle.storage.specs.declared.parts.Storage.{Storage}
use Rattle.storage.specs.Checked.{names_in, numbers_in, count_in}
use Rattle.name_maps.specs.Keeping.{kept_at}
use Rattle.storage.specs.declared.parts.Entry.{Entry}
use Rattle.storage.specs.declared.parts.Parts.{Parts}
use Rattle.storage.specs.Agreed.{IsNumbered}
use Rattle.storage.specs.Kept.{AreCells, HasNone, IsStored, IsTyped, Says, array_of, dimensions_kept, storage_kept, value_kept}
use Rattle.storage.specs.Whereabouts.{IsPlace, Whereabouts, where_in}

dimensions_array : (ds : List Dimension) → dimensions_in (array_of ds) ≡ ds
dimensions_array [] = refl
dimensions_array (d ∷ ds) = refl

-- what is made of the first cell and the dimensions that are kept
pub record IsMade (s : Storage) (p : ElementAddress) : Type 0 where
  pub dimensions : left p ≡ dimensions_kept s
  pub cells : (ss : List ℤ) → behind p ss ≡ option_map (λ i. s.first + i) (place (dimensions_kept s) ss)
  pub limited : limit p ≤ s.first + size (dimensions_kept s)

module _ (w : Whereabouts) (few : w.count < 2 ^ 64) (p : ElementAddress) where
  pub stored_place : (s : Storage) → AreCells w s → IsMade s p → IsPlace w p
  stored_place s kept made =
      let limited = le_trans made.limited kept.room in
      record {
        dimensions = made.dimensions ∙ sym (dimensions_array (dimensions_kept s)) ∙ ap dimensions_in kept.array;
        cells = λ ss. made.cells ss ∙ kept.cells ss;
        limited = limited;
        few = lt_of_le_of_lt limited few;
      }

  pub no_place : HasNone w → left p ≡ [] → ((ss : List ℤ) → behind p ss ≡ None) → limit p ≡ 0 → IsPlace w p
  no_place none dimensions cells limited =
      let nothing = subst (λ k. k ≤ w.count) (sym limited) (least w.count) in
      record {
        dimensions = dimensions ∙ sym (ap dimensions_in none.array);
        cells = λ ss. cells ss ∙ sym (none.cells ss);
        limited = nothing;
        few = lt_of_le_of_lt nothing few;
      }
    where
      least : (k : ℕ) → 0 ≤ k
      least k = omega arith

-- with the type they are a name's cells
pub cells_at : (t : Tree) (n : List ℕ) (c : Cells) → IsPlace (where_in t n) c.place → c.data_type ≡ (names_in t).types n → AreCellsBy (names_in t) (numbers_in t) (count_in t) n c
cells_at t n c at typed =
    record { dimensions = at.dimensions; cells = at.cells; typed = typed; limited = at.limited; few = at.few }

-- an array has a dimension
pub no_array : (ds : List Own) (a : Option (List Dimension)) → array_of (map dimension ds) ≡ a → length ds ≡ 0 → a ≡ None
no_array [] a is none = sym is
no_array (d ∷ ds) a is none = absurd (positive (length ds) none)
  where
    positive : (k : ℕ) → suc k ≡ 0 → ⊥
    positive k h = omega (arith, h)

pub some_array : (ds : List Own) (a : Option (List Dimension)) → array_of (map dimension ds) ≡ a → (length ds ≡ 0 → ⊥) → a ≡ Some (map dimension ds)
some_array [] a is some = absurd (some refl)
some_array (d ∷ ds) a is some = sym is

-- what is kept of a name is so of it in the program
pub says : (p : Parts) (n : List ℕ) (e : Entry) → IsNumbered p → kept_at p.entries n ≡ Some e → Says p.tree n e
says p n e numbered kept =
    record {
      value = sym (ap value_kept kept) ∙ numbered.valued n;
      typed = subst (IsTyped ((names_in p.tree).types n)) kept (numbered.typed n);
      stored = subst (λ o. IsStored (where_in p.tree n) (storage_kept o)) kept (numbered.stored n);
      few = numbered.few;
    }

-- the place that is made of what is kept
pub made : (s : Storage) (xs : List Own) (p : ElementAddress) → xs ≡ s.dimensions.items → left p ≡ map dimension xs → ((ss : List ℤ) → behind p ss ≡ option_map (λ i. s.first + i) (place (map dimension xs) ss)) → limit p ≤ s.first + size (map dimension xs) → IsMade s p
made s xs p same dimensions cells limited =
    record {
      dimensions = dimensions ∙ ap (map dimension) same;
      cells = λ ss. cells ss ∙ ap (λ ys. option_map (λ i. s.first + i) (place (map dimension ys) ss)) same;
      limited = subst (λ ys. limit p ≤ s.first + size (map dimension ys)) same limited;
    }

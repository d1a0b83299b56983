-- The map that the values of cells stand for, when one of them is written.
use Rattle.std.proofs.Common.{◌≡◌, ℕ, ℤ, ◌==◌, ◌&&◌, Bool, true, false, List, if◌then◌else◌, Option, Some, None, refl, sym, ap, ◌∙◌}
use Rattle.std.proofs.Math.Path.{fun_ext}
use Rattle.std.specs.Str.{bytes_eq}
use Rattle.std.specs.Ordering.{int_eq}
use Rattle.std.specs.Cmp.Lexicographic.{pointwise}
use Rattle.std.specs.Cmp.Rules.{signed_items}
use Rattle.std.proofs.lemmas.Bool.{eq-eqb, eqb-true, false≢true}
use Rattle.std.proofs.lemmas.Slice.Eq.{bytes_eq-Decides}
use Rattle.meaning.specs.Stores.{Cells, with_value}
use Rattle.meaning.specs.Maps.{CellNumbers, put, value_at, map_by}

both_true : (a b : Bool) → (a && b) ≡ true → (a ≡ true) × (b ≡ true)
both_true true true h = (refl, refl)
both_true true false h = absurd (false≢true h)
both_true false b h = absurd (false≢true h)

both_are : (a b : Bool) → a ≡ true → b ≡ true → (a && b) ≡ true
both_are true true h k = refl
both_are true false h k = absurd (false≢true k)
both_are false b h k = absurd (false≢true h)

-- the names and the subscripts of one cell are one
abbrev IsAlone : CellNumbers → List ℕ → List ℤ → ℕ → Type 0
IsAlone numbers n ss c = (p : List ℕ) (ts : List ℤ) → numbers p ts ≡ Some c → (n ≡ p) × (ss ≡ ts)

module _ (numbers : CellNumbers) (m : Cells) (n : List ℕ) (ss : List ℤ) (c : ℕ) (v : ℤ) (is_here : numbers n ss ≡ Some c) (alone : IsAlone numbers n ss c) where
  same_name : (p : List ℕ) (ts : List ℤ) → (bytes_eq n p && pointwise int_eq ss ts) ≡ true → numbers p ts ≡ Some c
  same_name p ts h =
      let both = both_true (bytes_eq n p) (pointwise int_eq ss ts) h in
      ap (λ q. numbers q ts) (sym ((bytes_eq-Decides n p).0 both.0)) ∙ ap (numbers n) (sym ((signed_items ss ts).0 both.1)) ∙ is_here

  same_cell : (p : List ℕ) (ts : List ℤ) → numbers p ts ≡ Some c → (bytes_eq n p && pointwise int_eq ss ts) ≡ true
  same_cell p ts h =
      let both = alone p ts h in
      both_are (bytes_eq n p) (pointwise int_eq ss ts) ((bytes_eq-Decides n p).1 both.0) ((signed_items ss ts).1 both.1)

  at_cell : (p : List ℕ) (ts : List ℤ) (b same : Bool) (d : ℕ) → numbers p ts ≡ Some d → (bytes_eq n p && pointwise int_eq ss ts) ≡ b → (d == c) ≡ same → (if same then v else m d) ≡ (if b then v else m d)
  at_cell p ts true true d is h k = refl
  at_cell p ts false false d is h k = refl
  at_cell p ts true false d is h k =
      let some : Some d ≡ Some c = sym is ∙ same_name p ts h in
      let dc : d ≡ c = cc in
      absurd (false≢true (sym k ∙ eq-eqb d c dc))
  at_cell p ts false true d is h k =
      absurd (false≢true (sym h ∙ same_cell p ts (is ∙ ap Some (eqb-true d c k))))

  at_place : (p : List ℕ) (ts : List ℤ) (b : Bool) (o : Option ℕ) → numbers p ts ≡ o → (bytes_eq n p && pointwise int_eq ss ts) ≡ b → value_at (with_value m c v) o ≡ (if b then v else value_at m o)
  at_place p ts b (Some d) is h = at_cell p ts b (d == c) d is h refl
  at_place p ts false None is h = refl
  at_place p ts true None is h =
      let none : None ≡ Some c = sym is ∙ same_name p ts h in
      absurd cc

  -- a value written to the cell of a name and subscripts is put into the map
  pub put_is : map_by numbers (with_value m c v) ≡ put (map_by numbers m) n ss v
  unfolding map_by put
  put_is = fun_ext (λ p. fun_ext (λ ts. at_place p ts (bytes_eq n p && pointwise int_eq ss ts) (numbers p ts) refl refl))

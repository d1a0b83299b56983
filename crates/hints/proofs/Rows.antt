-- Rows of the tables, one after another.
use Rattle.std.proofs.Common.{◌≡◌, refl, ap, ℕ, ◌+◌, ◌<◌, Bool, true, false, ◌&&◌, ◌||◌, List, [], ◌∷◌, length, drop, get_or, map, cond, sym, ◌∙◌}
use Rattle.std.proofs.lemmas.List.{drop_more}
use Rattle.std.specs.Prelude.{Option, Some}
use Rattle.std.specs.List.{find, list_any}
use Rattle.std.specs.Option.{option_map}
use Rattle.hints.specs.declared.hint.Hint.{Hint}
use Rattle.hints.specs.declared.tables.Row.{Row}
use Rattle.hints.specs.Forms.{first_hint, has, holds_any}
use Rattle.hints.specs.Patterns.{holds}
use Rattle.hints.specs.Rows.{form_of}

any_map : {X : Type 0} (xs : List X) (g : X → List ℕ) (f : List ℕ → Bool) → list_any (λ x. f (g x)) xs ≡ list_any f (map g xs)
any_map [] g f = refl
any_map (x ∷ xs) g f = ap (λ b. f (g x) || b) (any_map xs g f)

module _ (text : List ℕ) (r : Row) where
  abbrev fits_front : Bool
  fits_front = list_any (λ p. holds text p.now) r.0.now

  with_front : (b : Bool) → fits_front ≡ b → (b && holds_any text (form_of r).inner) ≡ has text (form_of r)
  with_front b e = ap (λ f. f && holds_any text (form_of r).inner) (sym e ∙ any_map r.0.now (λ w. w.now) (holds text))

  -- a text that has one of the first patterns fits a row if it has one of the second, and one that has none of the first doesn't
  pub by_inner : fits_front ≡ true → list_any (λ p. holds text p.now) r.1.now ≡ has text (form_of r)
  by_inner e = any_map r.1.now (λ w. w.now) (holds text) ∙ with_front true e

  pub by_front : fits_front ≡ false → false ≡ has text (form_of r)
  by_front e = with_front false e

module _ (rows : List Row) (text : List ℕ) (i : ℕ) (d : Row) (within : i < length rows) where
  abbrev row : Row
  row = get_or rows i d

  abbrev by_test : Bool → Option Hint
  by_test b = option_map (λ f. f.hint) (cond b (Some (form_of row)) (find (has text) (map form_of (drop (i + 1) rows))))

  here : first_hint (map form_of (drop i rows)) text ≡ by_test (has text (form_of row))
  here = ap (λ rs. first_hint (map form_of rs) text) (drop_more rows i d within)

  -- a row that a text doesn't fit is passed over, and of one that it fits the hint is told
  pub passed_over : has text (form_of row) ≡ false → first_hint (map form_of (drop i rows)) text ≡ first_hint (map form_of (drop (i + 1) rows)) text
  passed_over e = here ∙ ap by_test e

  pub told_here : has text (form_of row) ≡ true → first_hint (map form_of (drop i rows)) text ≡ Some row.2
  told_here e = here ∙ ap by_test e

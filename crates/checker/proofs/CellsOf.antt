-- The cells of names, one name's behind another's.
use Rattle.std.proofs.Common.{◌≡◌, ℕ, ◌+◌, ◌≤◌, ℤ, Bool, true, false, ◌||◌, List, [], ◌∷◌, Option, Some, None, option_map, refl, sym, ap, subst, ◌∙◌, arith}
use Rattle.std.specs.Prelude.{if◌then◌else◌}
use Rattle.std.specs.List.{list_any}
use Rattle.std.specs.Str.{bytes_eq}
use Rattle.std.proofs.lemmas.Slice.Eq.{bytes_eq-Decides}
use Rattle.meaning.specs.Arrays.{Dimension, cell_of, cells_of, place, size}
use Rattle.meaning.specs.Values.{Arrays, dimensions_in}
use Rattle.checker.specs.Entries.{first_of}
use Rattle.storage.specs.Numbered.{named}

zero_more : (k : ℕ) → 0 + k ≡ k
zero_more k = omega arith

no_more : (o : Option ℕ) → option_map (λ k. 0 + k) o ≡ o
no_more None = refl
no_more (Some k) = ap Some (zero_more k)

both_more : (a b : ℕ) (o : Option ℕ) → option_map (λ k. (a + b) + k) o ≡ option_map (λ k. a + k) (option_map (λ k. b + k) o)
both_more a b None = refl
both_more a b (Some k) = ap Some (grouped a b k)
  where
    grouped : (a b k : ℕ) → (a + b) + k ≡ a + (b + k)
    grouped a b k = omega arith

module _ (arrays : Arrays) (n : List ℕ) where
  abbrev own : List Dimension
  own = dimensions_in (arrays n)

  -- the cells from this one on are the name's
  pub record Leads (names : List (List ℕ)) (c : ℕ) : Type 0 where
    pub cells : (ss : List ℤ) → option_map (λ i. c + i) (place own ss) ≡ cell_of (named arrays names) n ss
    pub room : c + size own ≤ cells_of (named arrays names)
    pub among : list_any (bytes_eq n) names ≡ true

  abbrev IsLed : List (List ℕ) → Option ℕ → Type 0
  IsLed names None = (list_any (bytes_eq n) names ≡ false) × ((ss : List ℤ) → cell_of (named arrays names) n ss ≡ None)
  IsLed names (Some c) = Leads names c

  here : (x : List ℕ) (names : List (List ℕ)) → bytes_eq n x ≡ true → Leads (x ∷ names) 0
  here x names same =
      let e : n ≡ x = (bytes_eq-Decides n x).0 same in
      record {
        cells = λ ss.
            no_more (place own ss) ∙ ap (λ y. place (dimensions_in (arrays y)) ss) e
            ∙ sym (ap (λ b. if b then place (dimensions_in (arrays x)) ss else option_map (λ k. size (dimensions_in (arrays x)) + k) (cell_of (named arrays names) n ss)) same);
        room = subst (λ y. 0 + size (dimensions_in (arrays y)) ≤ size (dimensions_in (arrays x)) + cells_of (named arrays names)) (sym e) (within (size (dimensions_in (arrays x))) (cells_of (named arrays names)));
        among = ap (λ b. b || list_any (bytes_eq n) names) same;
      }
    where
      within : (a k : ℕ) → 0 + a ≤ a + k
      within a k = omega arith

  behind : (x : List ℕ) (names : List (List ℕ)) → bytes_eq n x ≡ false → (o : Option ℕ) → IsLed names o → IsLed (x ∷ names) (option_map (λ c. size (dimensions_in (arrays x)) + c) o)
  behind x names other None led = (
    ap (λ b. b || list_any (bytes_eq n) names) other ∙ led.0,
    λ ss.
        ap (λ b. if b then place (dimensions_in (arrays x)) ss else option_map (λ k. size (dimensions_in (arrays x)) + k) (cell_of (named arrays names) n ss)) other
        ∙ ap (option_map (λ k. size (dimensions_in (arrays x)) + k)) (led.1 ss),
  )
  behind x names other (Some c) led = record {
    cells = λ ss.
        both_more (size (dimensions_in (arrays x))) c (place own ss) ∙ ap (option_map (λ k. size (dimensions_in (arrays x)) + k)) (led.cells ss)
        ∙ sym (ap (λ b. if b then place (dimensions_in (arrays x)) ss else option_map (λ k. size (dimensions_in (arrays x)) + k) (cell_of (named arrays names) n ss)) other);
    room = more (size (dimensions_in (arrays x))) c (size own) (cells_of (named arrays names)) led.room;
    among = ap (λ b. b || list_any (bytes_eq n) names) other ∙ led.among;
  }
    where
      more : (a b d k : ℕ) → b + d ≤ k → (a + b) + d ≤ a + k
      more a b d k h = omega arith

  is_led : (names : List (List ℕ)) → IsLed names (first_of (named arrays names) n)
  is_led [] = (refl, λ ss. refl)
  is_led (x ∷ names) = by_test (bytes_eq n x) refl (is_led names)
    where
      by_test : (b : Bool) → bytes_eq n x ≡ b → IsLed names (first_of (named arrays names) n) → IsLed (x ∷ names) (if b then Some 0 else option_map (λ c. size (dimensions_in (arrays x)) + c) (first_of (named arrays names) n))
      by_test true same led = here x names same
      by_test false other led = behind x names other (first_of (named arrays names) n) led

  pub first_leads : (names : List (List ℕ)) (c : ℕ) → first_of (named arrays names) n ≡ Some c → Leads names c
  first_leads names c is = subst (IsLed names) is (is_led names)

  pub first_cells : (names : List (List ℕ)) (c : ℕ) → first_of (named arrays names) n ≡ Some c → (ss : List ℤ) → option_map (λ i. c + i) (place (dimensions_in (arrays n)) ss) ≡ cell_of (named arrays names) n ss
  first_cells names c is = (first_leads names c is).cells

  pub no_first : (names : List (List ℕ)) → first_of (named arrays names) n ≡ None → (list_any (bytes_eq n) names ≡ false) × ((ss : List ℤ) → cell_of (named arrays names) n ss ≡ None)
  no_first names is = subst (IsLed names) is (is_led names)

-- Readings with commas between: the loop that reads them.
use Rattle.std.proofs.Common.{◌≡◌, ℕ, suc, ◌+◌, ◌-◌, ◌<◌, List, [], ◌∷◌, ◌++◌, map, Option, Some, None, refl, sym, ap, ◌∙◌, append_assoc, arith}
use Rattle.std.specs.Prelude.{option_map}
use Rattle.meaning.specs.Reading.{Text, Reader, either, ◌>>=◌, after, separated_at}
use Rattle.parser.specs.declared.read_error.ReadError.{ReadError}
use Rattle.parser.specs.declared.read_error.ReadError.TheVariants.{NoReading, Memory}
use Rattle.parser.specs.Reports.{Misses}

-- what was read, with others before it
abbrev pub behind_others : {A : Type 0} → List A → List A × Text → List A × Text
behind_others xs r = (xs ++ r.0, r.1)

-- so many at most behind others
abbrev pub others_at : {A : Type 0} → Reader A → List A → ℕ → Reader (List A)
others_at one xs n t = option_map (behind_others xs) (separated_at one n t)

module _ {A : Type 0} (one : Reader A) where
  -- no turn is left
  pub no_turn : (xs : List A) (n i : ℕ) (t : Text) (total : Option (List A × Text)) → others_at one xs (n - i) t ≡ total → n - i ≡ 0 → total ≡ None
  unfolding separated_at
  no_turn xs n i t total so_far ended =
      let none : others_at one xs (n - i) t ≡ None = rw ended refl in
      sym so_far ∙ none

  -- one that isn't read ends all
  one_missed : (xs : List A) (n i : ℕ) (t : Text) (total : Option (List A × Text)) → others_at one xs (n - i) t ≡ total → i < n → one t ≡ None → total ≡ None
  unfolding separated_at ◌>>=◌
  one_missed xs n i t total so_far lt missed =
      let turns : n - i ≡ suc (n - (i + 1)) = omega arith in
      let none : others_at one xs (n - i) t ≡ None = rw (turns, missed) refl in
      sym so_far ∙ none

  pub missed : (e : ReadError) (xs : List A) (n i : ℕ) (t : Text) (total : Option (List A × Text)) → others_at one xs (n - i) t ≡ total → i < n → Misses e (one t) → Misses e total
  missed NoReading xs n i t total so_far lt none = one_missed xs n i t total so_far lt none
  missed Memory xs n i t total so_far lt none = tt

  last_value : (xs : List A) (n i : ℕ) (t : Text) (x : A) (u : Text) (total : Option (List A × Text)) → others_at one xs (n - i) t ≡ total → i < n → one t ≡ Some (x, u) → after (44 ∷ []) u ≡ None → total ≡ Some (xs ++ (x ∷ []), u)
  unfolding separated_at ◌>>=◌ either
  last_value xs n i t x u total so_far lt read no_comma =
      let turns : n - i ≡ suc (n - (i + 1)) = omega arith in
      let value : others_at one xs (n - i) t ≡ Some (xs ++ (x ∷ []), u) = rw (turns, read, no_comma) refl in
      sym so_far ∙ value

  regrouped_before : (xs : List A) (x : A) (o : Option (List A × Text)) → option_map (behind_others xs) (o >>= λ ys. Some (x ∷ ys.0, ys.1)) ≡ option_map (behind_others (xs ++ (x ∷ []))) o
  unfolding ◌>>=◌
  regrouped_before xs x None = refl
  regrouped_before xs x (Some ys) = ap (λ zs. Some (zs, ys.1)) (sym (append_assoc xs (x ∷ []) ys.0))

  next_value : (xs : List A) (n i : ℕ) (t : Text) (x : A) (u v : Text) (total : Option (List A × Text)) → others_at one xs (n - i) t ≡ total → i < n → one t ≡ Some (x, u) → after (44 ∷ []) u ≡ Some v → others_at one (xs ++ (x ∷ [])) (n - (i + 1)) v ≡ total
  unfolding separated_at ◌>>=◌ either
  next_value xs n i t x u v total so_far lt read comma =
      let turns : n - i ≡ suc (n - (i + 1)) = omega arith in
      let turn : others_at one xs (n - i) t ≡ option_map (behind_others xs) (separated_at one (n - (i + 1)) v >>= λ ys. Some (x ∷ ys.0, ys.1)) = rw (turns, read, comma) refl in
      sym (regrouped_before xs x (separated_at one (n - (i + 1)) v)) ∙ sym turn ∙ so_far

  -- one more, as it is seen
  one_more : {X : Type 0} (view : X → A) (xs ys : List X) (x : X) → ys ≡ xs ++ (x ∷ []) → map view ys ≡ map view xs ++ (view x ∷ [])
  one_more view xs ys x pushed = rw pushed (map_pushed view xs x)
    where
      map_pushed : {X : Type 0} (view : X → A) (xs : List X) (x : X) → map view (xs ++ (x ∷ [])) ≡ map view xs ++ (view x ∷ [])
      map_pushed view [] x = refl
      map_pushed view (w ∷ ws) x = ap (λ zs. view w ∷ zs) (map_pushed view ws x)

  -- the last one
  pub last_one : {X : Type 0} (view : X → A) (xs ys : List X) (x : X) (n i : ℕ) (t u : Text) (total : Option (List A × Text)) → ys ≡ xs ++ (x ∷ []) → others_at one (map view xs) (n - i) t ≡ total → i < n
      → one t ≡ Some (view x, u) → None ≡ after (44 ∷ []) u → total ≡ Some (map view ys, u)
  last_one view xs ys x n i t u total pushed so_far lt read no_comma = rw (one_more view xs ys x pushed) (last_value (map view xs) n i t (view x) u total so_far lt read (sym no_comma))

  -- one that others follow
  pub next_one : {X : Type 0} (view : X → A) (xs ys : List X) (x : X) (n i : ℕ) (t u v : Text) (total : Option (List A × Text)) → ys ≡ xs ++ (x ∷ []) → others_at one (map view xs) (n - i) t ≡ total → i < n
      → one t ≡ Some (view x, u) → Some v ≡ after (44 ∷ []) u → others_at one (map view ys) (n - (i + 1)) v ≡ total
  next_one view xs ys x n i t u v total pushed so_far lt read comma = rw (one_more view xs ys x pushed) (next_value (map view xs) n i t (view x) u v total so_far lt read (sym comma))

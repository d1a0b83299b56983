-- Doubled apostrophes are read back.
use Rattle.std.proofs.Common.{◌≡◌, ℕ, true, false, eqb, List, [], ◌∷◌, ◌++◌, Option, Some, None, inl, inr, refl, sym, ap, ◌∙◌}
use Rattle.std.specs.Prelude.{option_map}
use Rattle.std.proofs.lemmas.Bool.{cases_Bool, eqb-true, and_parts, not-true, not_from_false}
use Rattle.meaning.specs.Spelling.{is_paired}
use Rattle.meaning.specs.Reading.{after, when, with_char}
use Rattle.meaning.specs.Formats.{doubled, quoted_at, single_behind, undoubled}
use Rattle.meaning.specs.FormatLaws.{IsReadBack}

-- ---- doubled, and made single again

single_doubled : (text : List ℕ) → single_behind false (doubled text) ≡ text
unfolding single_behind
single_doubled [] = refl
single_doubled (c ∷ cs) =
    elim (cases_Bool (eqb c 39)) [
      | inl e ↦ rw e (ap (λ t. 39 ∷ t) (single_doubled cs) ∙ ap (λ d. d ∷ cs) (sym (eqb-true c 39 e)))
      | inr e ↦ rw e (rw e (ap (λ t. c ∷ t) (single_doubled cs)))
    ]

-- ---- doubled ones come in pairs

paired_other : (c : ℕ) (t : List ℕ) → eqb c 39 ≡ false → is_paired t ≡ true → is_paired (c ∷ t) ≡ true
paired_other c [] e h = not_from_false (eqb c 39) e
paired_other c (d ∷ t) e h = rw e h

paired_doubled : (text : List ℕ) → is_paired (doubled text) ≡ true
paired_doubled [] = refl
paired_doubled (c ∷ cs) =
    elim (cases_Bool (eqb c 39)) [
      | inl e ↦ rw e (paired_doubled cs)
      | inr e ↦ rw e (paired_other c (doubled cs) e (paired_doubled cs))
    ]

-- ---- made single, and doubled again

doubled_two : (cs : List ℕ) → doubled (single_behind false cs) ≡ cs → doubled (single_behind false (39 ∷ (39 ∷ cs))) ≡ 39 ∷ (39 ∷ cs)
unfolding single_behind
doubled_two cs h = ap (λ t. 39 ∷ (39 ∷ t)) h

doubled_other : (c : ℕ) (cs : List ℕ) → eqb c 39 ≡ false → doubled (single_behind false cs) ≡ cs → doubled (single_behind false (c ∷ cs)) ≡ c ∷ cs
unfolding single_behind
doubled_other c cs e h = rw e (ap (λ t. c ∷ t) h)

doubled_nothing : doubled (single_behind false []) ≡ []
unfolding single_behind
doubled_nothing = refl

doubled_single : (text : List ℕ) → is_paired text ≡ true → doubled (single_behind false text) ≡ text
doubled_single [] h = doubled_nothing
doubled_single (c ∷ []) h = doubled_other c [] (not-true (eqb c 39) h) doubled_nothing
doubled_single (c ∷ d ∷ cs) h =
    elim (cases_Bool (eqb c 39)) [
      | inl e ↦
          let both = and_parts (eqb d 39) (is_paired cs) (rw e at h) in
          let c_is : c ≡ 39 = eqb-true c 39 e in
          let d_is : d ≡ 39 = eqb-true d 39 both.0 in
          rw (c_is, d_is) (doubled_two cs (doubled_single cs both.1))
      | inr e ↦ doubled_other c (d ∷ cs) e (doubled_single (d ∷ cs) (rw e at h))
    ]

-- ---- read in a format

quoted_nothing : (rest : List ℕ) → after (39 ∷ []) rest ≡ None → quoted_at (39 ∷ rest) ≡ Some ([], rest)
unfolding quoted_at after when
quoted_nothing [] h = refl
quoted_nothing (d ∷ t) h =
    elim (cases_Bool (eqb d 39)) [
      | inl e ↦
          let d_is : d ≡ 39 = eqb-true d 39 e in
          let found : after (39 ∷ []) (39 ∷ t) ≡ None = ap (λ x. after (39 ∷ []) (x ∷ t)) (sym d_is) ∙ h in
          absurd cc
      | inr e ↦ rw e refl
    ]

quoted_two : (t : List ℕ) → quoted_at (39 ∷ (39 ∷ t)) ≡ option_map (with_char 39) (quoted_at t)
unfolding quoted_at
quoted_two t = refl

quoted_other : (c : ℕ) (t : List ℕ) → eqb c 39 ≡ false → quoted_at (c ∷ t) ≡ option_map (with_char c) (quoted_at t)
unfolding quoted_at
quoted_other c [] e = rw e refl
quoted_other c (d ∷ t) e = rw e refl

abbrev some_quoted : List ℕ → List ℕ → Option (List ℕ × List ℕ)
some_quoted text rest = Some (text, rest)

quoted_doubled : (text rest : List ℕ) → after (39 ∷ []) rest ≡ None → quoted_at (doubled text ++ (39 ∷ rest)) ≡ some_quoted text rest
quoted_doubled [] rest h = quoted_nothing rest h
quoted_doubled (c ∷ cs) rest h =
    elim (cases_Bool (eqb c 39)) [
      | inl e ↦ rw e (quoted_two (doubled cs ++ (39 ∷ rest)) ∙ ap (option_map (with_char 39)) (quoted_doubled cs rest h) ∙ ap (λ x. some_quoted (x ∷ cs) rest) (sym (eqb-true c 39 e)))
      | inr e ↦ rw e (quoted_other c (doubled cs ++ (39 ∷ rest)) e ∙ ap (option_map (with_char c)) (quoted_doubled cs rest h))
    ]

pub read_back : (text : List ℕ) → IsReadBack text
unfolding undoubled
read_back text = record {
  single = single_doubled text;
  pairs = paired_doubled text;
  again = doubled_single text;
  quoted = quoted_doubled text;
}

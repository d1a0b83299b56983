-- The places of elements.
use Rattle.std.proofs.Common.{◌≡◌, ℕ, ◌+◌, ◌*◌, ℤ, List, ◌∷◌, Option, Some, None, option_map, refl, sym, ap, ◌∙◌}
use Rattle.expressions.specs.Places.{capped}
use Rattle.std.specs.Prelude.{if◌then◌else◌, is_some}
use Rattle.meaning.specs.Arrays.{Dimension, above, combined, extent, place}
use Rattle.meaning.specs.Syntax.{ExprTree, ExprsTree, exprs}
use Rattle.meaning.specs.Types.{Types}
use Rattle.meaning.specs.Values.{Known}
use Rattle.meaning.specs.Initial.{and_also, known_subscripts, known_value, subscript_in}
use Rattle.data_rules.specs.DataPlaces.{place_known}

-- ---- the place that subscripts lead to

module _ (types : Types) (known : Known) (d : Dimension) (ds : List Dimension) (e : ExprTree) (es : ExprsTree) where
  abbrev pub whole : Option ℕ
  whole = place_known types known (d ∷ ds) (exprs e es)

  -- the rest where the subscript is this one
  abbrev behind : Option ℤ → Option ℕ
  behind o = and_also (and_also (subscript_in d o) (λ s. and_also (known_subscripts types known ds es) (λ ss. Some (s ∷ ss)))) (place (d ∷ ds))

  pub no_value : known_value types known e ≡ None → None ≡ whole
  no_value is = ap behind (sym is)

  pub not_within : (s : ℤ) → known_value types known e ≡ Some s → above d s ≡ None → None ≡ whole
  not_within s is outside =
      ap (λ o. and_also (and_also (if is_some o then Some s else None) (λ t. and_also (known_subscripts types known ds es) (λ ss. Some (t ∷ ss)))) (place (d ∷ ds))) (sym outside)
      ∙ ap behind (sym is)

  leads : (s : ℤ) (k : ℕ) (o : Option (List ℤ)) → above d s ≡ Some k → and_also (and_also o (place ds)) (λ i. Some (k + extent d * i)) ≡ and_also (and_also o (λ ss. Some (s ∷ ss))) (place (d ∷ ds))
  leads s k None at = refl
  leads s k (Some ss) at = by_rest (place ds ss) ∙ ap (λ p. combined (extent d) p (place ds ss)) (sym at)
    where
      by_rest : (o : Option ℕ) → and_also o (λ i. Some (k + extent d * i)) ≡ combined (extent d) (Some k) o
      by_rest None = refl
      by_rest (Some i) = refl

  pub within : (s : ℤ) (k : ℕ) (o : Option ℕ) → known_value types known e ≡ Some s → above d s ≡ Some k → o ≡ place_known types known ds es → and_also o (λ i. Some (k + extent d * i)) ≡ whole
  within s k o is at rest =
      ap (λ p. and_also p (λ i. Some (k + extent d * i))) rest
      ∙ leads s k (known_subscripts types known ds es) at
      ∙ ap (λ p. and_also (and_also (if is_some p then Some s else None) (λ t. and_also (known_subscripts types known ds es) (λ ss. Some (t ∷ ss)))) (place (d ∷ ds))) (sym at)
      ∙ ap behind (sym is)

  -- the same of places that are counted to 2^64-1
  pub capped_within : (s : ℤ) (k kept found : ℕ) → known_value types known e ≡ Some s → above d s ≡ Some k → Some kept ≡ option_map capped (place_known types known ds es) → ((i : ℕ) → kept ≡ capped i → found ≡ capped (k + extent d * i)) → Some found ≡ option_map capped whole
  capped_within s k kept found is at some by = by_place (place_known types known ds es) refl some
    where
      by_place : (o : Option ℕ) → o ≡ place_known types known ds es → Some kept ≡ option_map capped o → Some found ≡ option_map capped whole
      by_place None rest some = absurd cc
      by_place (Some i) rest some =
          let same : kept ≡ capped i = cc in
          ap Some (by i same) ∙ ap (option_map capped) (within s k (Some i) is at rest)

-- Pairs, one behind the other.
use Rattle.std.proofs.Common.{◌+◌, ◌<◌, ℕ, List, [], ◌∷◌, ◌++◌, get_or, length, take, refl, sym, subst, ap, ◌∙◌, append_assoc, Option}
use Rattle.std.proofs.lemmas.List.{append-nil, take_more}
use Rattle.meaning.specs.declared.refusal.Broken.{Broken}
use Rattle.meaning.specs.declared.refusal.Rule.{Rule}
use Rattle.engine.specs.Told.{ArePairs, IsPairBehind}

module _ (first : Option Rule) (file source : List ℕ) where
  more_pairs : (before bs : List Broken) (b : Broken) (told last : List ℕ) → ArePairs first file source before bs told → IsPairBehind first file source (before ++ bs) b last → ArePairs first file source before (bs ++ b ∷ []) (told ++ last)
  more_pairs before [] b told last none p =
      (last, [], subst (λ ps. IsPairBehind first file source ps b last) (append-nil before) p, refl, ap (λ l. l ++ last) none ∙ sym (append-nil last))
  more_pairs before (c ∷ cs) b told last (one, behind, is, rest, joined) p =
      let further = subst (λ ps. IsPairBehind first file source ps b last) (sym (append_assoc before (c ∷ []) cs)) p in
      (one, behind ++ last, is, more_pairs (before ++ c ∷ []) cs b behind last rest further, ap (λ l. l ++ last) joined ∙ append_assoc one behind last)

  -- and one more
  pub next_pair : (pairs : List Broken) (at : ℕ) (d : Broken) (told last : List ℕ) → at < length pairs → ArePairs first file source [] (take at pairs) told → IsPairBehind first file source (take at pairs) (get_or pairs at d) last → ArePairs first file source [] (take (at + 1) pairs) (told ++ last)
  next_pair pairs at d told last h are is =
      subst (λ bs. ArePairs first file source [] bs (told ++ last)) (sym (take_more pairs at d h)) (more_pairs [] (take at pairs) (get_or pairs at d) told last are is)

-- The least pair of a list.
use Rattle.std.proofs.Common.{◌≡◌, Bool, true, false, cond, List, [], ◌∷◌, Option, Some, None, refl, sym, ap, subst, ◌∙◌, inl, inr}
use Rattle.meaning.specs.declared.refusal.Broken.{Broken}
use Rattle.meaning.specs.Refusals.{is_less, least, lesser_of}
use Rattle.all_breaches.proofs.Members.{In}
use Rattle.all_breaches.proofs.Sorting.{less_chain, less_one_way, not_itself}

same_some : (a b : Broken) → Some a ≡ Some b → a ≡ b
same_some a b e = cc

-- ---- the least pair

pub least_some : (xs : List Broken) (c : Broken) → In c xs → (m : Broken) × (least xs ≡ Some m)
least_some [] c h = absurd h
least_some (b ∷ bs) c h = (lesser_of b (least bs), refl)

pub least_in : (xs : List Broken) (m : Broken) → least xs ≡ Some m → In m xs
least_in [] m e = absurd cc
least_in (b ∷ bs) m e = by_rest (least bs) (least_in bs) (same_some (lesser_of b (least bs)) m e)
  where
    chosen : (d : Broken) (t : Bool) → In d bs → cond t d b ≡ m → In m (b ∷ bs)
    chosen d true i e = inr (subst (λ x. In x bs) e i)
    chosen d false i e = inl (sym e)

    by_rest : (o : Option Broken) → ((d : Broken) → o ≡ Some d → In d bs) → lesser_of b o ≡ m → In m (b ∷ bs)
    by_rest None rec e = inl (sym e)
    by_rest (Some d) rec e = chosen d (is_less d b) (rec d refl) e

pub least_first : (xs : List Broken) (m c : Broken) → least xs ≡ Some m → In c xs → is_less c m ≡ false
least_first [] m c e h = absurd h
least_first (b ∷ bs) m c e h = by_rest (least bs) refl (λ d k i. least_first bs d c k i) (same_some (lesser_of b (least bs)) m e) h
  where
    here : (d : Broken) (t : Bool) → is_less d b ≡ t → is_less b (cond t d b) ≡ false
    here d true k = less_one_way d b k
    here d false k = not_itself b

    later : (d : Broken) (t : Bool) → is_less d b ≡ t → is_less c d ≡ false → is_less c (cond t d b) ≡ false
    later d true k f = f
    later d false k f = less_chain c d b f k

    some : (o : Option Broken) → least bs ≡ o → o ≡ None → In c bs → ⊥
    some o k n i = let r = least_some bs c i in never r.0 (sym r.1 ∙ k ∙ n)
      where
        never : (x : Broken) → Some x ≡ None → ⊥
        never x f = cc

    by_rest : (o : Option Broken) → least bs ≡ o → ((d : Broken) → o ≡ Some d → In c bs → is_less c d ≡ false) → lesser_of b o ≡ m → In c (b ∷ bs) → is_less c m ≡ false
    by_rest None k rec f (inl g) = ap (λ x. is_less x m) g ∙ ap (is_less b) (sym f) ∙ not_itself b
    by_rest None k rec f (inr i) = absurd (some None k refl i)
    by_rest (Some d) k rec f (inl g) = ap (λ x. is_less x m) g ∙ ap (is_less b) (sym f) ∙ here d (is_less d b) refl
    by_rest (Some d) k rec f (inr i) = ap (is_less c) (sym f) ∙ later d (is_less d b) refl (rec d refl i)

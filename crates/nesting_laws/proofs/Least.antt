-- The lesser of two pairs, where there are two.
use Rattle.std.proofs.Common.{◌≡◌, ℕ, Bool, true, false, Option, Some, None, refl, sym, ap, ◌∙◌, arith, inl, inr}
use Rattle.std.specs.Prelude.{◌⊎◌}
use Rattle.std.proofs.lemmas.Bool.Decides.{nat_tests}
use Rattle.meaning.specs.declared.refusal.Broken.{Broken}
use Rattle.meaning.specs.declared.refusal.Rule.TheVariants.{N2}
use Rattle.meaning.specs.Ranks.{rank_of}
use Rattle.meaning.specs.Refusals.{merge, is_less, lesser}

not_itself : (a : Broken) → is_less a a ≡ false
not_itself a = grind (arith, nat_tests)

not_back : (a b : Broken) → is_less b a ≡ true → is_less a b ≡ false
not_back a b h = grind (arith, nat_tests)

same_line : (a b : Broken) → is_less a b ≡ false → is_less b a ≡ false → a.line ≡ b.line
same_line a b h k = grind (arith, nat_tests)

same_rank : (a b : Broken) → is_less a b ≡ false → is_less b a ≡ false → rank_of a.rule ≡ rank_of b.rule
same_rank a b h k = grind (arith, nat_tests)

some_is : (a b : Broken) → Some a ≡ Some b → a ≡ b
some_is a b e = cc

-- one of two options is the pair
abbrev pub IsOneOf : Option Broken → Option Broken → Broken → Type 0
IsOneOf m f b = (m ≡ Some b) ⊎ (f ≡ Some b)

-- and no other is less
pub record IsLeastOf (m f : Option Broken) (b : Broken) : Type 0 where
  pub one : IsOneOf m f b
  pub least : (c : Broken) → IsOneOf m f c → is_less c b ≡ false

lesser_true : (a b : Broken) → is_less b a ≡ true → lesser a b ≡ b
lesser_true a b h = rw h refl

lesser_false : (a b : Broken) → is_less b a ≡ false → lesser a b ≡ a
lesser_false a b h = rw h refl

no_pair : (b : Broken) → None ≡ Some b → ⊥
no_pair b e = cc

least_of_two : (a b c : Broken) → lesser a b ≡ c → IsLeastOf (Some a) (Some b) c
least_of_two a b c e = by_test (is_less b a) refl
  where
    second : is_less b a ≡ true → (d : Broken) → IsOneOf (Some a) (Some b) d → is_less d b ≡ false
    second h d (inl f) = rw (← some_is a d f) (not_back a b h)
    second h d (inr f) = rw (← some_is b d f) (not_itself b)

    first : is_less b a ≡ false → (d : Broken) → IsOneOf (Some a) (Some b) d → is_less d a ≡ false
    first h d (inl f) = rw (← some_is a d f) (not_itself a)
    first h d (inr f) = rw (← some_is b d f) h

    by_test : (x : Bool) → is_less b a ≡ x → IsLeastOf (Some a) (Some b) c
    by_test true h = let same : b ≡ c = sym (lesser_true a b h) ∙ e in rw (← same) (record { one = inr refl; least = second h })
    by_test false h = let same : a ≡ c = sym (lesser_false a b h) ∙ e in rw (← same) (record { one = inl refl; least = first h })

pub merge_least : (m f : Option Broken) (b : Broken) → merge m f ≡ Some b → IsLeastOf m f b
merge_least None f b e = record { one = inr e; least = only }
  where
    only : (c : Broken) → IsOneOf None f c → is_less c b ≡ false
    only c (inl g) = absurd (no_pair c g)
    only c (inr g) = rw (some_is c b (sym g ∙ e)) (not_itself b)
merge_least (Some a) None b e = record { one = inl e; least = only }
  where
    only : (c : Broken) → IsOneOf (Some a) None c → is_less c b ≡ false
    only c (inl g) = rw (some_is c b (sym g ∙ e)) (not_itself b)
    only c (inr g) = absurd (no_pair c g)
merge_least (Some a) (Some c) b e = least_of_two a c b (some_is (lesser a c) b e)

-- a pair that isn't N2 has another rank
abbrev pub IsTold : Option Broken → Type 0
IsTold f = (c : Broken) → f ≡ Some c → rank_of c.rule ≡ 2 → c.rule ≡ N2

same_pair : (a b : Broken) → a.rule ≡ b.rule → a.line ≡ b.line → a ≡ b
same_pair a b e f = ap (λ r. record { line = a.line; rule = r }) e ∙ ap (λ (k : ℕ). record { line = k; rule = b.rule }) f

both_least : (a c b : Broken) → a.rule ≡ N2 → (rank_of c.rule ≡ 2 → c.rule ≡ N2) → IsLeastOf (Some a) (Some c) b → lesser a c ≡ b
both_least a c b e told h = by_one h.one (is_less c a) refl
  where
    tie : is_less c a ≡ false → is_less a c ≡ false → a ≡ c
    tie g k = same_pair a c (e ∙ sym (told (sym (same_rank a c k g) ∙ ap rank_of e))) (same_line a c k g)

    by_one : IsOneOf (Some a) (Some c) b → (x : Bool) → is_less c a ≡ x → lesser a c ≡ b
    by_one (inl f) true g = absurd (clash g (rw (some_is a b f) (h.least c (inr refl))))
      where
        clash : is_less c a ≡ true → is_less c a ≡ false → ⊥
        clash p q = cc
    by_one (inl f) false g = lesser_false a c g ∙ some_is a b f
    by_one (inr f) true g = lesser_true a c g ∙ some_is c b f
    by_one (inr f) false g = lesser_false a c g ∙ tie g (rw (some_is c b f) (h.least a (inl refl))) ∙ some_is c b f

pub least_merge : (m f : Option Broken) (b : Broken) → ((a : Broken) → m ≡ Some a → a.rule ≡ N2) → IsTold f → IsLeastOf m f b → merge m f ≡ Some b
least_merge None f b told rank h = by_one h.one
  where
    by_one : IsOneOf None f b → f ≡ Some b
    by_one (inl g) = absurd (no_pair b g)
    by_one (inr g) = g
least_merge (Some a) None b told rank h = by_one h.one
  where
    by_one : IsOneOf (Some a) None b → Some a ≡ Some b
    by_one (inl g) = g
    by_one (inr g) = absurd (no_pair b g)
least_merge (Some a) (Some c) b told rank h = ap (λ (x : Broken). Some x) (both_least a c b (told a refl) (rank c refl) h)

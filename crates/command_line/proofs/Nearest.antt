-- The nearest of the options that were looked at.
use Rattle.std.proofs.Common.{◌≡◌, ◌<◌, ◌≤◌, ◌+◌, ◌⊎◌, ◌==◌, ◌&&◌, ◌||◌, ℕ, Bool, true, false, arith, refl, sym, subst, inl, inr, below_more, true≢false, ◌∙◌}
use Rattle.std.specs.Prelude.{Some, None, nat_lt}
use Rattle.std.proofs.lemmas.Bool.{and_parts, and_cases, eq-eqb, eqb-true, ltb-false, ltb-true, or_parts}
use Rattle.command_line.specs.CommandLine.{Text}
use Rattle.command_line.specs.Culprits.{IsNear, IsNearest, edits, is_near, name_at}

-- none of those before a place is near
pub record NoneYet (text : Text) (at nearest : ℕ) : Type 0 where
  pub none : nearest ≡ 12
  pub far : (k : ℕ) → k < at → IsNear text k → ⊥

-- the nearest of those before a place, and its edits
pub record Best (text : Text) (at nearest count : ℕ) : Type 0 where
  pub there : nearest < at
  pub near : IsNear text nearest
  pub known : count ≡ edits text (name_at nearest)
  pub least : (k : ℕ) → k < at → IsNear text k → count ≤ edits text (name_at k)
  pub first : (k : ℕ) → k < nearest → IsNear text k → count < edits text (name_at k)

abbrev pub SoFar : Text → ℕ → ℕ → ℕ → Type 0
SoFar text at nearest count = NoneYet text at nearest ⊎ Best text at nearest count

-- the next is nearer than those before it
pub nearer : (text : Text) (at nearest count more : ℕ) → more ≡ edits text (name_at at)
    → (is_near text (name_at at) && ((nearest == 12) || nat_lt more count)) ≡ true → at < 12 → SoFar text at nearest count → SoFar text (at + 1) at more
nearer text at nearest count more is better lt before = inr (record {
  there = omega arith;
  near = parts.0;
  known = is;
  least = below_more (λ k. IsNear text k → more ≤ edits text (name_at k)) at (λ k l n. let p = all before k l n in omega (arith, p)) (λ n. omega (arith, is));
  first = all before;
})
  where
    parts : IsNear text at × (((nearest == 12) || nat_lt more count) ≡ true)
    parts = and_parts _ _ better

    less : (b c : Bool) → (nearest == 12) ≡ b → nat_lt more count ≡ c → (b || c) ≡ true → Best text at nearest count → more < count
    less true c e f h best = let same : nearest ≡ 12 = eqb-true nearest 12 e in let there = best.there in absurd (omega (arith, same, there, lt))
    less false true e f h best = ltb-true more count f
    less false false e f h best = absurd (true≢false (sym h))

    all : SoFar text at nearest count → (k : ℕ) → k < at → IsNear text k → more < edits text (name_at k)
    all (inl none) k l n = absurd (none.far k l n)
    all (inr best) k l n =
        let closer : more < count = less _ _ refl refl parts.1 best in
        let bound : count ≤ edits text (name_at k) = best.least k l n in
        omega (arith, closer, bound)

-- or not
pub no_nearer : (text : Text) (at nearest count more : ℕ) → more ≡ edits text (name_at at)
    → (is_near text (name_at at) && ((nearest == 12) || nat_lt more count)) ≡ false → SoFar text at nearest count → SoFar text (at + 1) nearest count
no_nearer text at nearest count more is worse before = go (and_cases _ _ worse) before
  where
    go : (is_near text (name_at at) ≡ false) ⊎ (((nearest == 12) || nat_lt more count) ≡ false) → SoFar text at nearest count → SoFar text (at + 1) nearest count
    go (inl far) (inl none) =
        inl (record { none = none.none; far = below_more (λ k. IsNear text k → ⊥) at none.far (λ n. true≢false (sym n ∙ far)) })
    go (inl far) (inr best) = inr (record {
      there = let there = best.there in omega (arith, there);
      near = best.near;
      known = best.known;
      least = below_more (λ k. IsNear text k → count ≤ edits text (name_at k)) at best.least (λ n. absurd (true≢false (sym n ∙ far)));
      first = best.first;
    })
    go (inr not_so) (inl none) = absurd (true≢false (sym (eq-eqb nearest 12 none.none) ∙ (or_parts _ _ not_so).0))
    go (inr not_so) (inr best) = inr (record {
      there = let there = best.there in omega (arith, there);
      near = best.near;
      known = best.known;
      least = below_more (λ k. IsNear text k → count ≤ edits text (name_at k)) at best.least (λ n. let bound : count ≤ more = ltb-false more count (or_parts _ _ not_so).1 in omega (arith, bound, is));
      first = best.first;
    })

-- all were looked at, and one is the nearest
pub chosen : (text : Text) (at nearest count : ℕ) → at ≡ 12 → nearest < 12 → SoFar text at nearest count → IsNearest text (Some (name_at nearest))
chosen text at nearest count end lt (inl none) = let is = none.none in absurd (omega (arith, is, lt))
chosen text at nearest count end lt (inr best) = (
  nearest,
  refl,
  record {
    there = lt;
    near = best.near;
    least = λ k l n. subst (λ m. m ≤ edits text (name_at k)) best.known (best.least k (omega (arith, end, l)) n);
    first = λ k l n. subst (λ m. m < edits text (name_at k)) best.known (best.first k l n);
  },
)

-- or none is near
pub none_near : (text : Text) (at nearest count : ℕ) → at ≡ 12 → 12 ≤ nearest → SoFar text at nearest count → IsNearest text None
none_near text at nearest count end le (inl none) k l n = none.far k (omega (arith, end, l)) n
none_near text at nearest count end le (inr best) k l n = let there = best.there in absurd (omega (arith, there, end, le))

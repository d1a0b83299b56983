-- Pages that were copied, when one more is.
use Rattle.std.proofs.Common.{◌≡◌, ◌≢◌, ℕ, ℤ, pos, ◌+◌, ◌*◌, ◌/◌, ◌%◌, ◌<◌, ◌≤◌, List, [], ◌∷◌, ◌++◌, length, Some, sym, ap, ◌∙◌, subst, arith, inl, inr, length-append}
use Rattle.std.specs.Prelude.{◌⊎◌, slice_get, slice_index_or, slice_set}
use Rattle.std.proofs.Math.ListN.{get_or-append}
use Rattle.std.proofs.Math.Seq.{get_or-append_seam}
use Rattle.std.proofs.lemmas.Bool.{cases_lt}
use Rattle.std.proofs.lemmas.List.{get_or-set_same, get_or-set_other}
use Rattle.std.proofs.lemmas.Option.{slice_get-get_or}
use Rattle.std.proofs.Common.{true, cond, None}
use Rattle.std.specs.Cmp.{nat_cmp_total}
use Rattle.std.specs.FinSet.{nat_cmp-IsAntisymmetric}
use Rattle.private_view.proofs.Looking.{written_is}
use Rattle.std.proofs.lemmas.Bool.{true≢false}
use Rattle.std.specs.Ordering.{nat_cmp}
use Rattle.std.specs.FinSet as set
use Rattle.std.specs.FinMap as map
use Rattle.private_view.specs.Views.{IsCopied, IsKept, slot_at, value_at, written_by}

-- a page or another one
pub either_page : (k page : ℕ) → (k ≡ page) ⊎ (k ≢ page)
either_page k page = by (cases_lt k page) (cases_lt page k)
  where
    by : (k < page) ⊎ (page ≤ k) → (page < k) ⊎ (k ≤ page) → (k ≡ page) ⊎ (k ≢ page)
    by (inl lt) q = inr (λ e. absurd (omega arith))
    by (inr le) (inl lt) = inr (λ e. absurd (omega arith))
    by (inr le) (inr ge) = inl (omega arith)

-- a page's number behind others, with its place noted among places that were grown for it
module _ (slots grown numbers : List ℕ) (page : ℕ) (within : page < length grown) (same : (k : ℕ) → slot_at grown k ≡ slot_at slots k) where
  abbrev pub noted : List ℕ
  noted = slice_set grown page (length numbers)

  abbrev pub more : List ℕ
  more = numbers ++ page ∷ []

  slot_here : slot_at noted page ≡ length numbers
  slot_here = get_or-set_same grown page (length numbers) 0 within

  slot_other : (k : ℕ) → k ≢ page → slot_at noted k ≡ slot_at slots k
  slot_other k other = get_or-set_other grown page k (length numbers) 0 other ∙ same k

  longer : length more ≡ length numbers + 1
  longer = length-append numbers (page ∷ [])

  number_last : slice_index_or more (length numbers) 0 ≡ page
  number_last = get_or-append_seam numbers page [] 0

  number_before : (i : ℕ) → i < length numbers → slice_index_or more i 0 ≡ slice_index_or numbers i 0
  number_before i lt = get_or-append numbers (page ∷ []) 0 i lt

  pub copied_here : IsCopied noted more page
  copied_here =
      record { within = (let e = slot_here in let l = longer in omega arith); there = ap (λ i. slice_index_or more i 0) slot_here ∙ number_last }

  copied_other : (k : ℕ) → k ≢ page → IsCopied slots numbers k → IsCopied noted more k
  copied_other k other c = record {
    within = (let e = slot_other k other in let l = longer in let w = c.within in omega arith);
    there = ap (λ i. slice_index_or more i 0) (slot_other k other) ∙ number_before (slot_at slots k) c.within ∙ c.there;
  }

  copied_back : (k : ℕ) → k ≢ page → IsCopied noted more k → IsCopied slots numbers k
  copied_back k other c = by (cases_lt (slot_at slots k) (length numbers))
    where
      there : slice_index_or more (slot_at slots k) 0 ≡ k
      there = sym (ap (λ i. slice_index_or more i 0) (slot_other k other)) ∙ c.there

      last : length numbers ≤ slot_at slots k → slot_at slots k ≡ length numbers
      last le = let w = c.within in let e = slot_other k other in let l = longer in omega arith

      by : (slot_at slots k < length numbers) ⊎ (length numbers ≤ slot_at slots k) → IsCopied slots numbers k
      by (inl lt) = record { within = lt; there = sym (number_before (slot_at slots k) lt) ∙ there }
      by (inr le) = absurd (other (sym there ∙ ap (λ i. slice_index_or more i 0) (last le) ∙ number_last))

  -- what holds of these holds of what they became
  pub along : (P : List ℕ → List ℕ → Type 0) (new_slots new_numbers : List ℕ) → new_slots ≡ noted → new_numbers ≡ more → P noted more → P new_slots new_numbers
  along P new_slots new_numbers e f p = subst (λ s. P s new_numbers) (sym e) (subst (λ n. P noted n) (sym f) p)

  module _ (fresh : IsCopied slots numbers page → ⊥) where
    not_it : (k : ℕ) → IsCopied slots numbers k → k ≢ page
    not_it k c e = fresh (subst (IsCopied slots numbers) e c)

    pub copied_still : (k : ℕ) → IsCopied slots numbers k → IsCopied noted more k
    copied_still k c = copied_other k (not_it k c) c

    -- values of the page behind those of the others
    module _ (values wider part base : List ℤ) (long : length values ≡ 64 * length numbers) (before : (i : ℕ) → i < length values → slice_index_or wider i (pos 0) ≡ slice_index_or values i (pos 0)) where
      pub value_still : (c : ℕ) → IsCopied slots numbers (c / 64) → value_at noted wider c ≡ value_at slots values c
      value_still c copied =
          ap (λ s. slice_index_or wider (64 * s + c % 64) (pos 0)) (slot_other (c / 64) (not_it (c / 64) copied)) ∙ before (64 * slot_at slots (c / 64) + c % 64) (let w = copied.within in room (slot_at slots (c / 64)) (length numbers) (c % 64) (length values) w (rest c) long)
        where
          rest : (c : ℕ) → c % 64 < 64
          rest c = omega arith

          room : (s n r len : ℕ) → s < n → r < 64 → len ≡ 64 * n → 64 * s + r < len
          room s n r len lt small is = omega (arith, lt, small, is)

      module _ (there : (i : ℕ) → i < length part → slice_index_or wider (length values + i) (pos 0) ≡ slice_index_or part i (pos 0)) (reaches : (c : ℕ) → c < length base → c / 64 ≡ page → c % 64 < length part) (is : (i : ℕ) → i < length part → slice_index_or part i (pos 0) ≡ slice_index_or base (64 * page + i) (pos 0)) where
        pub value_based : (c : ℕ) → c < length base → IsCopied noted more (c / 64) → IsCopied slots numbers (c / 64) ⊎ (Some (value_at noted wider c) ≡ slice_get base c)
        value_based c lt copied = by (either_page (c / 64) page)
          where
            whole : (c page : ℕ) → c / 64 ≡ page → 64 * page + c % 64 ≡ c
            whole c page e = omega (arith, e)

            at_end : (s n r len : ℕ) → s ≡ n → len ≡ 64 * n → 64 * s + r ≡ len + r
            at_end s n r len e is = omega (arith, e, is)

            value : c / 64 ≡ page → value_at noted wider c ≡ slice_index_or base c (pos 0)
            value e =
                ap (λ i. slice_index_or wider i (pos 0)) (at_end (slot_at noted (c / 64)) (length numbers) (c % 64) (length values) (ap (slot_at noted) e ∙ slot_here) long)
                ∙ there (c % 64) (reaches c lt e)
                ∙ is (c % 64) (reaches c lt e)
                ∙ ap (λ i. slice_index_or base i (pos 0)) (whole c page e)

            by : (c / 64 ≡ page) ⊎ (c / 64 ≢ page) → IsCopied slots numbers (c / 64) ⊎ (Some (value_at noted wider c) ≡ slice_get base c)
            by (inl e) = inr (ap Some (value e) ∙ sym (slice_get-get_or base c (pos 0) lt))
            by (inr other) = inl (copied_back (c / 64) other copied)

-- ---- no pages

pub none_kept : (base : List ℤ) (s : set.FinSet nat_cmp) (slots numbers : List ℕ) (values : List ℤ) → s ≡ set.empty → numbers ≡ [] → values ≡ [] → IsKept base s slots numbers values
none_kept base s slots numbers values empty no_numbers no_values = record {
  paged = record {
    within = λ c h. absurd (none c h);
    copied = λ c h. absurd (none c h);
    placed = λ i lt. absurd (let e = ap length no_numbers in omega arith);
    long = ap length no_values ∙ sym (ap (λ n. 64 * n) (ap length no_numbers));
  };
  based = λ c lt copied h. absurd (let w = copied.within in let e = ap length no_numbers in omega arith);
}
  where
    none : (c : ℕ) → set.contains s c ≡ true → ⊥
    none c h = true≢false (sym h ∙ ap (λ t. set.contains t c) empty ∙ set.contains-empty nat_cmp c)

pub written_none : (s : set.FinSet nat_cmp) (f : ℕ → ℤ) → s ≡ set.empty → written_by s f ≡ map.empty
written_none s f empty =
    map.same_map nat_cmp_total nat_cmp-IsAntisymmetric (written_by s f) map.empty (λ q. written_is s f q ∙ ap (λ b. cond b (Some (f q)) None) (ap (λ t. set.contains t q) empty ∙ set.contains-empty nat_cmp q) ∙ sym (map.get-empty nat_cmp q))

-- Reading the parts of a format, one after another, and a whole text.
use Rattle.std.proofs.Common.{◌≡◌, ℕ, suc, ◌<◌, List, [], ◌∷◌, ◌++◌, length, Option, Some, None, refl, sym, ap, ◌∙◌, arith}
use Rattle.meaning.specs.Reading.{Text, Reader, ◌>>=◌, when, either, after, at_end}
use Rattle.meaning.specs.Formats.{Part, Parts, no_parts, parts, group, group_at, part_at, is_separator, next_at, parts_at, parts_in, is_short_pass, descriptors_of}
use Rattle.format_edit.specs.declared.format.Part.{Part as PartOf}
use Rattle.format_edit.specs.declared.fault.FormatFault.{FormatFault}
use Rattle.format_edit.specs.declared.fault.FormatFault.TheVariants as faults
use Rattle.format_edit.specs.Formatted.{part_of, parts_of, Breaks}

abbrev pub joined : Parts → Parts → Parts
joined no_parts qs = qs
joined (parts p ps) qs = parts p (joined ps qs)

joined-joined : (ps qs rs : Parts) → joined (joined ps qs) rs ≡ joined ps (joined qs rs)
joined-joined no_parts qs rs = refl
joined-joined (parts p ps) qs rs = ap (parts p) (joined-joined ps qs rs)

pub one_more : (xs : List PartOf) (p : PartOf) → parts_of (xs ++ p ∷ []) ≡ joined (parts_of xs) (parts (part_of p) no_parts)
one_more [] p = refl
one_more (x ∷ xs) p = ap (parts (part_of x)) (one_more xs p)

abbrev pub Read : Type 0
Read = Option (Parts × Text)

-- what was read before, and what is still read
abbrev pub with_front : Parts → Read → Read
with_front front None = None
with_front front (Some x) = Some (joined front x.0, x.1)

regroup : (front : Parts) (p : Part) (o : Read) → with_front front (o >>= λ ps. Some (parts p ps.0, ps.1)) ≡ with_front (joined front (parts p no_parts)) o
unfolding ◌>>=◌
regroup front p None = refl
regroup front p (Some x) = ap (λ ps. Some (ps, x.1)) (sym (joined-joined front (parts p no_parts) x.0))

no_front : (o : Read) → with_front no_parts o ≡ o
no_front None = refl
no_front (Some x) = refl

-- the first of the levels
pub level_is : (levels k : ℕ) (t : Text) → levels ≡ suc k → parts_in levels t ≡ parts_at (parts_in k) (suc (length t)) t
unfolding parts_in
level_is levels k t e = ap (λ n. parts_in n t) e

pub no_level : (levels : ℕ) (t : Text) → levels ≡ 0 → parts_in levels t ≡ None
unfolding parts_in
no_level levels t e = ap (λ n. parts_in n t) e

pub starts : (levels k n : ℕ) (t : Text) → levels ≡ suc k → n ≡ suc (length t) → with_front no_parts (parts_at (parts_in k) n t) ≡ parts_in levels t
starts levels k n t e f =
    no_front (parts_at (parts_in k) n t) ∙ ap (λ m. parts_at (parts_in k) m t) f ∙ sym (level_is levels k t e)

module _ (inner : Reader Parts) (front : Parts) (n : ℕ) (rest : Text) (total : Read) (so_far : with_front front (parts_at inner n rest) ≡ total) where
  pub runs_out : n ≡ 0 → total ≡ None
  unfolding parts_at
  runs_out e = sym so_far ∙ ap (λ m. with_front front (parts_at inner m rest)) e

  module _ (k : ℕ) (more : n ≡ suc k) where
    pub breaks : part_at inner rest ≡ None → total ≡ None
    unfolding parts_at ◌>>=◌
    breaks e =
        let h : parts_at inner (suc k) rest ≡ None = rw e refl in
        sym so_far ∙ ap (λ m. with_front front (parts_at inner m rest)) more ∙ ap (with_front front) h

    -- a fault of the next part is one of the whole
    pub breaks_along : (e : FormatFault) → Breaks e (part_at inner rest) → Breaks e total
    breaks_along faults.Broken h = breaks h
    breaks_along faults.Memory h = tt

    pub goes_on : (p : Part) (behind next : Text) → part_at inner rest ≡ Some (p, behind) → next_at (is_separator p) behind ≡ Some next → with_front (joined front (parts p no_parts)) (parts_at inner k next) ≡ total
    unfolding parts_at ◌>>=◌ either
    goes_on p behind next e a =
        let h : parts_at inner (suc k) rest ≡ (parts_at inner k next >>= λ ps. Some (parts p ps.0, ps.1)) = rw (e, a) refl in
        sym (regroup front p (parts_at inner k next)) ∙ sym (ap (with_front front) h) ∙ sym (ap (λ m. with_front front (parts_at inner m rest)) more) ∙ so_far

    pub is_done : (p : Part) (behind : Text) → part_at inner rest ≡ Some (p, behind) → next_at (is_separator p) behind ≡ None → total ≡ Some (joined front (parts p no_parts), behind)
    unfolding parts_at ◌>>=◌ either
    is_done p behind e a =
        let h : parts_at inner (suc k) rest ≡ Some (parts p no_parts, behind) = rw (e, a) refl in
        sym so_far ∙ ap (λ m. with_front front (parts_at inner m rest)) more ∙ ap (with_front front) h

-- ---- a group

pub group_read : (inner : Reader Parts) (n : ℕ) (t : Text) (ps : Parts) (u rest : Text) (p : Part) → inner t ≡ Some (ps, u) → after (41 ∷ []) u ≡ Some rest → p ≡ group n ps → group_at inner n t ≡ Some (p, rest)
unfolding group_at ◌>>=◌
group_read inner n t ps u rest p e a is = rw (e, a) (ap (λ q. Some (q, rest)) (sym is))

-- ---- a whole text

-- parts in all levels of parentheses
abbrev pub all_at : Reader Parts
all_at t = parts_in 17 t

pub read_is : (t : Text) → 0 < length t → descriptors_of t ≡ (all_at t >>= λ ps. at_end ps >>= λ all. when (is_short_pass all) (Some all))
unfolding descriptors_of
read_is [] h = absurd (omega arith)
read_is (c ∷ t) h = refl

pub read_nothing : (t : Text) → length t ≡ 0 → descriptors_of t ≡ Some no_parts
unfolding descriptors_of
read_nothing [] e = refl
read_nothing (c ∷ t) e = absurd (omega arith)

module _ (t : Text) (some : 0 < length t) where
  pub read_breaks : all_at t ≡ None → descriptors_of t ≡ None
  unfolding ◌>>=◌
  read_breaks e = read_is t some ∙ rw e refl

  -- a fault of the parts is one of the format
  pub format_breaks : (e : FormatFault) → Breaks e (all_at t) → Breaks e (descriptors_of t)
  format_breaks faults.Broken h = read_breaks h
  format_breaks faults.Memory h = tt

  pub read_leaves : (ps : Parts) (rest : Text) → all_at t ≡ Some (ps, rest) → 0 < length rest → descriptors_of t ≡ None
  unfolding ◌>>=◌
  read_leaves ps [] e h = absurd (omega arith)
  read_leaves ps (c ∷ rest) e h = read_is t some ∙ rw e refl

  pub read_all : (ps : Parts) (rest : Text) → all_at t ≡ Some (ps, rest) → length rest ≡ 0 → descriptors_of t ≡ when (is_short_pass ps) (Some ps)
  unfolding ◌>>=◌
  read_all ps [] e h = read_is t some ∙ rw e refl
  read_all ps (c ∷ rest) e h = absurd (omega arith)

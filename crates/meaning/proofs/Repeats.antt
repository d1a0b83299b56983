-- More repeats of the part that control goes back to change nothing.
use Rattle.std.proofs.Common.{◌≡◌, ℕ, zero, suc, ◌≤◌, Bool, true, false, ◌||◌, List, [], ◌∷◌, ◌++◌, length, Option, Some, None, refl, sym, ap, subst, ◌∙◌, inl, inr, arith}
use Rattle.std.specs.Prelude.{nat_le}
use Rattle.std.proofs.lemmas.Bool.{false≢true, or_cases, or_left, or_right, and_parts, leb-true}
use Rattle.meaning.specs.declared.ending.Value.{Value}
use Rattle.meaning.specs.declared.ending.Value.TheVariants as values
use Rattle.meaning.specs.Formats.{Descriptor, integer_field, logical_field, characters, skip, slash, colon, Part, single, group, Parts, no_parts, parts, Word, integers, logicals, quoted, blanks, slash_word, colon_word, grouped, Words, last, before, count_in, IsRepeat, IsWellWord, AreWell, meant, all_meant, IsWellFormat, format_meant, Denotes}
use Rattle.meaning.specs.Records.{times, unrolled, pass, is_field, has_field, have_field, unless_found, from_last_group, reverted, sequence, stops, puts, moves, ends, course, justified, integer_text, logical_text, is_clash, laid, written, outcome_of, edited, edited_within}

-- ---- descriptors of which one takes a value

abbrev takes : List Descriptor → Bool
takes [] = false
takes (d ∷ ds) = is_field d || takes ds

takes_left : (ds es : List Descriptor) → takes ds ≡ true → takes (ds ++ es) ≡ true
takes_left [] es h = absurd (false≢true h)
takes_left (d ∷ ds) es h =
    elim (or_cases (is_field d) (takes ds) h) [
      | inl e ↦ or_left (is_field d) (takes (ds ++ es)) e
      | inr e ↦ or_right (is_field d) (takes (ds ++ es)) (takes_left ds es e)
    ]

takes_right : (ds es : List Descriptor) → takes es ≡ true → takes (ds ++ es) ≡ true
takes_right [] es h = h
takes_right (d ∷ ds) es h = or_right (is_field d) (takes (ds ++ es)) (takes_right ds es h)

takes_times : (n : ℕ) (ds : List Descriptor) → 1 ≤ n → takes ds ≡ true → takes (times n ds) ≡ true
takes_times zero ds some h = absurd (omega arith)
takes_times (suc n) ds some h = takes_left ds (times n ds) h

-- ---- parts whose counts are one at least

abbrev mutual
  IsCounted : Part → Type 0
  IsCounted (single n d) = 1 ≤ n
  IsCounted (group n ps) = (1 ≤ n) × AreCounted ps

  AreCounted : Parts → Type 0
  AreCounted no_parts = Unit {0}
  AreCounted (parts p ps) = IsCounted p × AreCounted ps

mutual
  takes_part : (p : Part) → IsCounted p → has_field p ≡ true → takes (unrolled p) ≡ true
  takes_part (single n d) counted h = takes_times n (d ∷ []) counted (or_left (is_field d) false h)
  takes_part (group n ps) counted h = takes_times n (pass ps) counted.0 (takes_pass ps counted.1 h)

  takes_pass : (ps : Parts) → AreCounted ps → have_field ps ≡ true → takes (pass ps) ≡ true
  takes_pass no_parts counted h = absurd (false≢true h)
  takes_pass (parts p ps) counted h =
      elim (or_cases (has_field p) (have_field ps) h) [
        | inl e ↦ takes_left (unrolled p) (pass ps) (takes_part p counted.0 e)
        | inr e ↦ takes_right (unrolled p) (pass ps) (takes_pass ps counted.1 e)
      ]

counted_behind : (ps others : Parts) → AreCounted ps → AreCounted others → AreCounted (unless_found others (from_last_group ps))
counted_behind no_parts others counted h = h
counted_behind (parts (single n d) ps) others counted h = counted_behind ps others counted.1 h
counted_behind (parts (group n qs) ps) others counted h = counted_behind ps (parts (group n qs) ps) counted.1 counted

-- ---- counts of what is written

count_some : (digits : List ℕ) → IsRepeat digits → 1 ≤ count_in digits
count_some digits h = leb-true 1 (count_in digits) (and_parts (nat_le 1 (count_in digits)) (nat_le (count_in digits) 9999) h.1).0

mutual
  counted_word : (w : Word) → IsWellWord w → IsCounted (meant w)
  counted_word (integers repeats width least) h = count_some repeats h.0
  counted_word (logicals repeats width) h = count_some repeats h.0
  counted_word (quoted text) h = omega arith
  counted_word (blanks count) h = omega arith
  counted_word slash_word h = omega arith
  counted_word colon_word h = omega arith
  counted_word (grouped repeats ws) h = (count_some repeats h.0, counted_words ws h.1)

  counted_words : (ws : Words) → AreWell ws → AreCounted (all_meant ws)
  counted_words (last w) h = (counted_word w h, tt)
  counted_words (before w comma ws) h = (counted_word w h.0, counted_words ws h.1.1)

counted_format : (o : Option Words) → IsWellFormat o → AreCounted (format_meant o)
counted_format None h = tt
counted_format (Some ws) h = counted_words ws h.0

-- ---- descriptors behind others

-- the same becomes of both where so many values are left at most
abbrev AreSame : ℕ → List Descriptor → List Descriptor → Type 0
AreSame k x y = (vs : List Value) → length vs ≤ k → course x vs ≡ course y vs

same_behind : (ds x y : List Descriptor) (k : ℕ) → AreSame k x y → AreSame k (ds ++ x) (ds ++ y)
unfolding course
same_behind [] x y k same vs h = same vs h
same_behind (integer_field w m ∷ ds) x y k same [] h = refl
same_behind (integer_field w m ∷ ds) x y k same (values.Int z ∷ vs) h =
    ap (puts (justified w (integer_text m z))) (same_behind ds x y k same vs (omega arith))
same_behind (integer_field w m ∷ ds) x y k same (values.Bool b ∷ vs) h = refl
same_behind (logical_field w ∷ ds) x y k same [] h = refl
same_behind (logical_field w ∷ ds) x y k same (values.Int z ∷ vs) h = refl
same_behind (logical_field w ∷ ds) x y k same (values.Bool b ∷ vs) h =
    ap (puts (justified w (logical_text b))) (same_behind ds x y k same vs (omega arith))
same_behind (characters text ∷ ds) x y k same vs h = ap (puts text) (same_behind ds x y k same vs h)
same_behind (skip n ∷ ds) x y k same vs h = ap (moves n) (same_behind ds x y k same vs h)
same_behind (slash ∷ ds) x y k same vs h = ap ends (same_behind ds x y k same vs h)
same_behind (colon ∷ ds) x y k same [] h = refl
same_behind (colon ∷ ds) x y k same (v ∷ vs) h = same_behind ds x y k same (v ∷ vs) h

-- where one of them takes a value, a value less is left behind them
one_less : (ds x y : List Descriptor) (k : ℕ) → AreSame k x y → takes ds ≡ true → AreSame (suc k) (ds ++ x) (ds ++ y)
unfolding course
one_less [] x y k same some vs h = absurd (false≢true some)
one_less (integer_field w m ∷ ds) x y k same some [] h = refl
one_less (integer_field w m ∷ ds) x y k same some (values.Int z ∷ vs) h =
    ap (puts (justified w (integer_text m z))) (same_behind ds x y k same vs (omega arith))
one_less (integer_field w m ∷ ds) x y k same some (values.Bool b ∷ vs) h = refl
one_less (logical_field w ∷ ds) x y k same some [] h = refl
one_less (logical_field w ∷ ds) x y k same some (values.Int z ∷ vs) h = refl
one_less (logical_field w ∷ ds) x y k same some (values.Bool b ∷ vs) h =
    ap (puts (justified w (logical_text b))) (same_behind ds x y k same vs (omega arith))
one_less (characters text ∷ ds) x y k same some vs h = ap (puts text) (one_less ds x y k same some vs h)
one_less (skip n ∷ ds) x y k same some vs h = ap (moves n) (one_less ds x y k same some vs h)
one_less (slash ∷ ds) x y k same some vs h = ap ends (one_less ds x y k same some vs h)
one_less (colon ∷ ds) x y k same some [] h = refl
one_less (colon ∷ ds) x y k same some (v ∷ vs) h = one_less ds x y k same some (v ∷ vs) h

-- ---- going back

abbrev again : List Descriptor → ℕ → List Descriptor
again ds n = times n (colon ∷ (slash ∷ ds))

stops_again : (ds : List Descriptor) (n : ℕ) → course (again ds n) [] ≡ stops
unfolding course
stops_again ds zero = refl
stops_again ds (suc n) = refl

same_again : (ds : List Descriptor) → takes ds ≡ true → (k m n : ℕ) → k ≤ m → k ≤ n → AreSame k (again ds m) (again ds n)
unfolding course
same_again ds some k m n p q [] h = stops_again ds m ∙ sym (stops_again ds n)
same_again ds some zero m n p q (v ∷ vs) h = absurd (omega arith)
same_again ds some (suc k) zero n p q (v ∷ vs) h = absurd (omega arith)
same_again ds some (suc k) (suc m) zero p q (v ∷ vs) h = absurd (omega arith)
same_again ds some (suc k) (suc m) (suc n) p q (v ∷ vs) h =
    ap ends (one_less ds (again ds m) (again ds n) k (same_again ds some k m n (omega arith) (omega arith)) some (v ∷ vs) h)

same_course : (ps : Parts) (vs : List Value) (n : ℕ) → AreCounted ps → length vs ≤ n → course (sequence ps n) vs ≡ course (sequence ps (length vs)) vs
same_course ps vs n counted h = by_test (have_field (reverted ps)) refl
  where
    by_test : (b : Bool) → have_field (reverted ps) ≡ b → course (sequence ps n) vs ≡ course (sequence ps (length vs)) vs
    by_test true e =
        let some = takes_pass (reverted ps) (counted_behind ps ps counted counted) e in
        let same = same_again (pass (reverted ps)) some (length vs) n (length vs) h (omega arith) in
        rw e (same_behind (pass ps) (again (pass (reverted ps)) n) (again (pass (reverted ps)) (length vs)) (length vs) same vs (omega arith))
    by_test false e = rw e refl

pub same_records : (text : List ℕ) (ps : Parts) (vs : List Value) (n : ℕ) → Denotes text ps → length vs ≤ n → edited_within n ps vs ≡ edited ps vs
unfolding edited
same_records text ps vs n denotes h =
    let counted = subst AreCounted denotes.means (counted_format denotes.words denotes.well) in
    ap (λ c. outcome_of (is_clash c) (written (laid 0 [] c))) (same_course ps vs n counted h)

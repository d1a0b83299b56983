-- The edit descriptors to which values go: how many a part has, and which is whose.
use Rattle.std.proofs.Common.{◌≡◌, ℕ, zero, suc, ◌+◌, ◌-◌, ◌*◌, ◌%◌, ◌<◌, ◌≤◌, min, Bool, true, false, List, [], ◌∷◌, ◌++◌, length, Option, Some, None, slice_get, refl, sym, ap, subst, ◌∙◌, if◌then◌else◌, arith}
use Rattle.std.proofs.Math.Nat.{mul-le-mul_left}
use Rattle.std.proofs.lemmas.Bool.{or_parts}
use Rattle.std.proofs.lemmas.List.{length-append}
use Rattle.std.proofs.lemmas.Option.{slice_get_past}
use Rattle.meaning.specs.declared.ending.Value.{Value}
use Rattle.meaning.specs.declared.ending.Value.TheVariants as values
use Rattle.meaning.specs.Formats.{Descriptor, colon, slash, Part, single, group, Parts, no_parts, parts}
use Rattle.meaning.specs.Records.{times, unrolled, pass, is_field, has_field, have_field, reverted, course, clashes}
use Rattle.fault_details.specs.declared.detail.Field.{Field}
use Rattle.fault_details.specs.declared.detail.Field.TheVariants.{Integer, Logical}
use Rattle.fault_details.specs.Fields.{field_of, fields, field_for, differs}
use Rattle.fault_details.proofs.Repeats.{get_before, get_behind, get_times, times_length, same_rest}

-- ---- lists

chosen : (b : Bool) (d : Descriptor) (all first rest : List Descriptor) → all ≡ first ++ rest → (if b then d ∷ all else all) ≡ (if b then d ∷ first else first) ++ rest
chosen true d all first rest e = ap (λ ds. d ∷ ds) e
chosen false d all first rest e = e

pub fields_append : (a b : List Descriptor) → fields (a ++ b) ≡ fields a ++ fields b
fields_append [] b = refl
fields_append (d ∷ ds) b = chosen (is_field d) d (fields (ds ++ b)) (fields ds) (fields b) (fields_append ds b)

pub fields_times : (n : ℕ) (ds : List Descriptor) → fields (times n ds) ≡ times n (fields ds)
fields_times zero ds = refl
fields_times (suc n) ds = fields_append ds (times n ds) ∙ ap (λ rest. fields ds ++ rest) (fields_times n ds)

pub times_count : (n : ℕ) (ds : List Descriptor) → length (fields (times n ds)) ≡ n * length (fields ds)
times_count n ds = ap length (fields_times n ds) ∙ times_length n (fields ds)

pub pass_count : (p : Part) (ps : Parts) → length (fields (pass (parts p ps))) ≡ length (fields (unrolled p)) + length (fields (pass ps))
pass_count p ps = ap length (fields_append (unrolled p) (pass ps)) ∙ length-append (fields (unrolled p)) (fields (pass ps))

-- ---- one descriptor

one_count : (b : Bool) (d : Descriptor) → length (if b then d ∷ [] else []) ≡ (if b then 1 else 0)
one_count true d = refl
one_count false d = refl

-- so many values go to so many times a descriptor
pub single_count : (most n : ℕ) (d : Descriptor) (taken r : ℕ) → taken ≡ (if is_field d then 1 else 0) → r ≡ min (n * taken) most → r ≡ min (length (fields (unrolled (single n d)))) most
single_count most n d taken r e f =
    f ∙ ap (λ k. min (n * k) most) (e ∙ sym (one_count (is_field d) d)) ∙ ap (λ k. min k most) (sym (times_count n (d ∷ [])))

one_found : (b : Bool) (d : Descriptor) (n i : ℕ) → i < n * length (if b then d ∷ [] else []) → (if b then Some d else None) ≡ slice_get (if b then d ∷ [] else []) (i % length (if b then d ∷ [] else []))
one_found true d n i lt = ap (slice_get (d ∷ [])) (sym (by_one i))
  where
    by_one : (k : ℕ) → k % 1 ≡ 0
    by_one k = omega arith
one_found false d n i lt = refl

-- each goes to the descriptor itself
pub single_found : (n : ℕ) (d : Descriptor) (i : ℕ) (found : Option Descriptor) → found ≡ (if is_field d then Some d else None) → i < length (fields (unrolled (single n d))) → found ≡ slice_get (fields (unrolled (single n d))) i
single_found n d i found e lt =
    let within : i < n * length (fields (d ∷ [])) = subst (λ k. i < k) (times_count n (d ∷ [])) lt in
    e ∙ one_found (is_field d) d n i within ∙ sym (get_times n (fields (d ∷ [])) i within) ∙ ap (λ ds. slice_get ds i) (sym (fields_times n (d ∷ [])))

-- ---- groups

-- a value that goes to a group goes to the pass of it behind the whole ones
pub group_found : (most n : ℕ) (ps : Parts) (i count : ℕ) (found : Option Descriptor) → i < most → i < length (fields (unrolled (group n ps))) → count ≡ min (length (fields (pass ps))) most
    → found ≡ slice_get (fields (pass ps)) (i % count) → found ≡ slice_get (fields (unrolled (group n ps))) i
group_found most n ps i count found small lt e f =
    let within : i < n * length (fields (pass ps)) = subst (λ k. i < k) (times_count n (pass ps)) lt in
    f ∙ ap (slice_get (fields (pass ps))) (same_rest most i count (length (fields (pass ps))) small e) ∙ sym (get_times n (fields (pass ps)) i within) ∙ ap (λ ds. slice_get ds i) (sym (fields_times n (pass ps)))

nothing : (n i a : ℕ) → i < n * a → 0 < a
nothing n i zero lt = absurd (omega arith)
nothing n i (suc a) lt = omega arith

pub group_count : (most n : ℕ) (ps : Parts) (i count : ℕ) → 0 < most → i < length (fields (unrolled (group n ps))) → count ≡ min (length (fields (pass ps))) most → 0 < count
group_count most n ps i count some lt e =
    let within : i < n * length (fields (pass ps)) = subst (λ k. i < k) (times_count n (pass ps)) lt in
    let more = nothing n i (length (fields (pass ps))) within in
    omega arith

-- ---- parts

pub first_found : (p : Part) (ps : Parts) (i : ℕ) → i < length (fields (unrolled p)) → slice_get (fields (pass (parts p ps))) i ≡ slice_get (fields (unrolled p)) i
first_found p ps i lt = ap (λ ds. slice_get ds i) (fields_append (unrolled p) (pass ps)) ∙ get_before (fields (unrolled p)) (fields (pass ps)) i lt

pub later_found : (p : Part) (ps : Parts) (i : ℕ) → length (fields (unrolled p)) ≤ i → slice_get (fields (pass (parts p ps))) i ≡ slice_get (fields (pass ps)) (i - length (fields (unrolled p)))
later_found p ps i le = ap (λ ds. slice_get ds i) (fields_append (unrolled p) (pass ps)) ∙ get_behind (fields (unrolled p)) (fields (pass ps)) i le

-- ---- the whole format

times_nothing : (n : ℕ) → times n [] ≡ []
times_nothing zero = refl
times_nothing (suc n) = times_nothing n

not_taken : (b : Bool) (d : Descriptor) → b ≡ false → (if b then d ∷ [] else []) ≡ []
not_taken true d e = absurd cc
not_taken false d e = refl

mutual
  none_in : (p : Part) → has_field p ≡ false → fields (unrolled p) ≡ []
  none_in (single n d) e = fields_times n (d ∷ []) ∙ ap (times n) (not_taken (is_field d) d e) ∙ times_nothing n
  none_in (group n ps) e = fields_times n (pass ps) ∙ ap (times n) (none_among ps e) ∙ times_nothing n

  none_among : (ps : Parts) → have_field ps ≡ false → fields (pass ps) ≡ []
  none_among no_parts e = refl
  none_among (parts p ps) e =
      let both = or_parts (has_field p) (have_field ps) e in
      fields_append (unrolled p) (pass ps) ∙ ap (λ ds. ds ++ fields (pass ps)) (none_in p both.0) ∙ none_among ps both.1

-- what comes behind the first pass
abbrev further : Parts → ℕ → List Descriptor
further again n = if have_field again then times n (colon ∷ (slash ∷ pass again)) else []

pub found_in_pass : (ps : Parts) (i : ℕ) → i < length (fields (pass ps)) → field_for ps i ≡ slice_get (fields (pass ps)) i
unfolding field_for
found_in_pass ps i lt =
    ap (λ ds. slice_get ds i) (fields_append (pass ps) (further (reverted ps) (suc i))) ∙ get_before (fields (pass ps)) (fields (further (reverted ps) (suc i))) i lt

behind_pass : (ps : Parts) (i : ℕ) → length (fields (pass ps)) ≤ i → field_for ps i ≡ slice_get (fields (further (reverted ps) (suc i))) (i - length (fields (pass ps)))
unfolding field_for
behind_pass ps i le =
    ap (λ ds. slice_get ds i) (fields_append (pass ps) (further (reverted ps) (suc i))) ∙ get_behind (fields (pass ps)) (fields (further (reverted ps) (suc i))) i le

further_fields : (b : Bool) (again : Parts) (n : ℕ) → (b ≡ false → fields (pass again) ≡ []) → fields (if b then times n (colon ∷ (slash ∷ pass again)) else []) ≡ times n (fields (pass again))
further_fields true again n none = fields_times n (colon ∷ (slash ∷ pass again))
further_fields false again n none = sym (ap (times n) (none refl) ∙ times_nothing n)

pub found_further : (ps again : Parts) (i : ℕ) → again ≡ reverted ps → length (fields (pass ps)) ≤ i → field_for ps i ≡ slice_get (times (suc i) (fields (pass again))) (i - length (fields (pass ps)))
found_further ps again i e le =
    behind_pass ps i le ∙ ap (λ r. slice_get (fields (further r (suc i))) (i - length (fields (pass ps)))) (sym e)
    ∙ ap (λ ds. slice_get ds (i - length (fields (pass ps)))) (further_fields (have_field again) again (suc i) (none_among again))

-- the format is used up, and no value goes to what control goes back to
pub found_nowhere : (most : ℕ) (ps again : Parts) (i first count : ℕ) → i < most → again ≡ reverted ps → first ≡ min (length (fields (pass ps))) most → first ≤ i
    → count ≡ min (length (fields (pass again))) most → count ≡ 0 → field_for ps i ≡ None
found_nowhere most ps again i first count small e f le g none =
    let many : length (times (suc i) (fields (pass again))) ≡ suc i * length (fields (pass again)) = times_length (suc i) (fields (pass again)) in
    let zeros : length (fields (pass again)) ≡ 0 = omega arith in
    let nowhere : suc i * length (fields (pass again)) ≡ suc i * 0 = ap (λ k. suc i * k) zeros in
    found_further ps again i e (omega arith) ∙ slice_get_past (times (suc i) (fields (pass again))) _ (omega arith)

-- it is found in what control goes back to
pub found_again : (most : ℕ) (ps again : Parts) (i first count : ℕ) (found : Option Descriptor) → i < most → again ≡ reverted ps → first ≡ min (length (fields (pass ps))) most → first ≤ i
    → count ≡ min (length (fields (pass again))) most → 0 < count → found ≡ slice_get (fields (pass again)) ((i - first) % count) → found ≡ field_for ps i
found_again most ps again i first count found small e f le g some h =
    let same : first ≡ length (fields (pass ps)) = omega arith in
    let rest = i - length (fields (pass ps)) in
    let once : suc i * 1 ≤ suc i * length (fields (pass again)) = mul-le-mul_left (suc i) (omega arith) in
    let within : rest < suc i * length (fields (pass again)) = omega arith in
    h ∙ ap (λ k. slice_get (fields (pass again)) ((i - k) % count)) same
    ∙ ap (slice_get (fields (pass again))) (same_rest most rest count (length (fields (pass again))) (omega arith) g)
    ∙ sym (get_times (suc i) (fields (pass again)) rest within) ∙ sym (found_further ps again i e (omega arith))

-- ---- types

-- a value of the other type clashes with the descriptor
pub clash_is : (v : Value) (f : Field) → differs v f ≡ true → course (field_of f ∷ []) (v ∷ []) ≡ clashes
unfolding course
clash_is (values.Int z) (Integer width least) e = absurd cc
clash_is (values.Int z) (Logical width) e = refl
clash_is (values.Bool b) (Integer width least) e = refl
clash_is (values.Bool b) (Logical width) e = absurd cc

-- Walking descriptors over values.
use Rattle.std.proofs.Common.{◌≡◌, ℕ, zero, suc, ◌<◌, Bool, true, false, List, [], ◌∷◌, ◌++◌, length, Option, Result, Ok, Err, refl, sym, ap, subst, ◌∙◌, append_assoc, arith, ℤ}
use Rattle.meaning.specs.declared.ending.Value.{Value}
use Rattle.meaning.specs.declared.ending.Value.TheVariants as values
use Rattle.meaning.specs.Formats.{Descriptor, integer_field, logical_field, colon, slash, Parts}
use Rattle.meaning.specs.Records.{stops, clashes, puts, ends, course, justified, integer_text, logical_text, times, pass, have_field, reverted, sequence}
use Rattle.format_edit.specs.declared.fault.EditFault.{EditFault}
use Rattle.format_edit.specs.declared.fault.EditFault.TheVariants as faults
use Rattle.format_edit.specs.Edits.{Made, Fails, Follows}
use Rattle.format_edit.specs.Ahead.{ahead_of, Walks}
use Rattle.format_edit.specs.declared.sheet.Sheet.{Sheet}
use Rattle.std.specs.Borrow.{Bor}

-- a fault of what is ahead is one of the whole
pub fails_along : (e : EditFault) (whole rest : Made) → whole ≡ rest → Fails e rest → Fails e whole
fails_along faults.F7 whole rest same h = same ∙ h
fails_along faults.F8 whole rest same h = same ∙ h
fails_along faults.Memory whole rest same h = tt

pub follows_along : {X : Type 0} (r : Result X EditFault) (whole rest : Made) (after : X → Made) → whole ≡ rest → Follows r rest after → Follows r whole after
follows_along (Ok x) whole rest after same h = same ∙ h
follows_along (Err e) whole rest after same h = fails_along e whole rest same h

-- what was made before leads to this state, where these descriptors and these values are left
abbrev pub SoFar : (List Descriptor → Made) → List ℕ → ℕ → List Descriptor → List Value → Type 0
SoFar made bytes gap ds left =
    (more : List Descriptor) → made more ≡ ahead_of bytes gap (course (ds ++ more) left)

-- the first of them and those behind
pub along : (made : List Descriptor → Made) (bytes : List ℕ) (gap : ℕ) (all first behind : List Descriptor) (left : List Value) → SoFar made bytes gap all left → all ≡ first ++ behind → (more : List Descriptor)
    → made more ≡ ahead_of bytes gap (course (first ++ (behind ++ more)) left)
along made bytes gap all first behind left so_far e more =
    so_far more ∙ ap (λ ds. ahead_of bytes gap (course ds left)) (ap (λ ds. ds ++ more) e ∙ append_assoc first behind more)

-- none of them
pub along_none : (made : List Descriptor → Made) (bytes : List ℕ) (gap : ℕ) (all : List Descriptor) (left : List Value) → SoFar made bytes gap all left → all ≡ [] → (more : List Descriptor)
    → made more ≡ ahead_of bytes gap (course more left)
along_none made bytes gap all left so_far e more =
    so_far more ∙ ap (λ ds. ahead_of bytes gap (course (ds ++ more) left)) e

pub times_more : (k j : ℕ) (ds : List Descriptor) → k ≡ suc j → times k ds ≡ ds ++ times j ds
times_more k j ds e = ap (λ n. times n ds) e

pub times_none : (k : ℕ) (ds : List Descriptor) → k ≡ 0 → times k ds ≡ []
times_none k ds e = ap (λ n. times n ds) e

-- ---- fields

module _ (more : List Descriptor) where
  pub integer_stops : (w m : ℕ) (left : List Value) → length left ≡ 0 → course (integer_field w m ∷ more) left ≡ stops
  unfolding course
  integer_stops w m [] e = refl
  integer_stops w m (v ∷ vs) e = absurd (omega arith)

  pub integer_clashes : (w m : ℕ) (left : List Value) (v : Value) (rest : List Value) (b : Bool) → left ≡ v ∷ rest → v ≡ values.Bool b → course (integer_field w m ∷ more) left ≡ clashes
  unfolding course
  integer_clashes w m left v rest b e is =
      ap (course (integer_field w m ∷ more)) (e ∙ ap (λ x. x ∷ rest) is)

  pub integer_puts : (w m : ℕ) (left : List Value) (v : Value) (rest : List Value) (z : ℤ) → left ≡ v ∷ rest → v ≡ values.Int z → course (integer_field w m ∷ more) left ≡ puts (justified w (integer_text m z)) (course more rest)
  unfolding course
  integer_puts w m left v rest z e is = ap (course (integer_field w m ∷ more)) (e ∙ ap (λ x. x ∷ rest) is)

  pub logical_stops : (w : ℕ) (left : List Value) → length left ≡ 0 → course (logical_field w ∷ more) left ≡ stops
  unfolding course
  logical_stops w [] e = refl
  logical_stops w (v ∷ vs) e = absurd (omega arith)

  pub logical_clashes : (w : ℕ) (left : List Value) (v : Value) (rest : List Value) (z : ℤ) → left ≡ v ∷ rest → v ≡ values.Int z → course (logical_field w ∷ more) left ≡ clashes
  unfolding course
  logical_clashes w left v rest z e is = ap (course (logical_field w ∷ more)) (e ∙ ap (λ x. x ∷ rest) is)

  pub logical_puts : (w : ℕ) (left : List Value) (v : Value) (rest : List Value) (b : Bool) → left ≡ v ∷ rest → v ≡ values.Bool b → course (logical_field w ∷ more) left ≡ puts (justified w (logical_text b)) (course more rest)
  unfolding course
  logical_puts w left v rest b e is = ap (course (logical_field w ∷ more)) (e ∙ ap (λ x. x ∷ rest) is)

  pub colon_stops : (left : List Value) → length left ≡ 0 → course (colon ∷ more) left ≡ stops
  unfolding course
  colon_stops [] e = refl
  colon_stops (v ∷ vs) e = absurd (omega arith)

  pub colon_passes : (left : List Value) → 0 < length left → course (colon ∷ more) left ≡ course more left
  unfolding course
  colon_passes [] h = absurd (omega arith)
  colon_passes (v ∷ vs) h = refl

-- ---- going back

pub goes_back : (ps again : Parts) (n : ℕ) → again ≡ reverted ps → have_field again ≡ true → sequence ps n ≡ pass ps ++ times n (colon ∷ (slash ∷ pass again))
goes_back ps again n same e =
    let k : have_field (reverted ps) ≡ true = ap have_field (sym same) ∙ e in
    rw k (ap (λ x. pass ps ++ times n (colon ∷ (slash ∷ pass x))) (sym same))

pub stays : (ps again : Parts) (n : ℕ) → again ≡ reverted ps → have_field again ≡ false → sequence ps n ≡ pass ps ++ []
stays ps again n same e =
    let k : have_field (reverted ps) ≡ false = ap have_field (sym same) ∙ e in
    rw k refl

-- where the list is used up
pub again_stops : (n : ℕ) (steps : List Descriptor) (left : List Value) → length left ≡ 0 → course (times n (colon ∷ (slash ∷ steps))) left ≡ stops
unfolding course
again_stops zero steps [] e = refl
again_stops (suc n) steps [] e = refl
again_stops n steps (v ∷ vs) e = absurd (omega arith)

pub again_ends : (n j : ℕ) (steps : List Descriptor) (left : List Value) → n ≡ suc j → 0 < length left → course (times n (colon ∷ (slash ∷ steps))) left ≡ ends (course (steps ++ times j (colon ∷ (slash ∷ steps))) left)
unfolding course
again_ends n j steps [] e h = absurd (omega arith)
again_ends n j steps (v ∷ vs) e h =
    ap (λ k. course (times k (colon ∷ (slash ∷ steps))) (v ∷ vs)) e

-- values that are left where nothing of a format is
pub nothing_stops : (left : List Value) → length left ≡ 0 → course [] left ≡ stops
unfolding course
nothing_stops [] e = refl
nothing_stops (v ∷ vs) e = absurd (omega arith)

pub nothing_clashes : (left : List Value) → 0 < length left → course [] left ≡ clashes
unfolding course
nothing_clashes [] h = absurd (omega arith)
nothing_clashes (v ∷ vs) h = refl

-- ---- the same descriptors

pub walks_same : (result : Result (Option (Bor (List Value))) EditFault) (old new : Sheet) (vs : List Value) (a b : List Descriptor) → a ≡ b → Walks result old vs a new → Walks result old vs b new
walks_same result old new vs a b same h = subst (λ ds. Walks result old vs ds new) same h

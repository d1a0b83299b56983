-- Why a stage is cut where it is.
use Rattle.std.proofs.Common.{◌≡◌, ℕ, ◌+◌, ◌-◌, ◌<◌, ◌≤◌, ◌==◌, ◌||◌, Bool, true, false, length, ap, sym, subst, ◌∙◌, refl, arith, get_or, take, Option, Some, is_none, is_some, slice_get, inl, ⊎_elim, ltb-true, eq-eqb, ne_eqb}
use Rattle.std.specs.Prelude.{nat_lt, if◌then◌else◌}
use Rattle.std.specs.List.{list_any}
use Rattle.std.proofs.lemmas.Bool.{false≢true, cases_lt, and_parts, or_from, or_left}
use Rattle.block_stage.specs.Causes.{IsBroken, IsCarried, IsCause, has_ended}
use Rattle.block_stage.specs.declared.causes.Cause.{Cause}
use Rattle.block_stage.specs.declared.causes.Cause.TheVariants as causes
use Rattle.block_stage.specs.declared.causes.Dependence.{Dependence}
use Rattle.block_stage.specs.Faithful.{RunData}
use Rattle.block_stage.specs.Cuts.{Places, IsCut, at_place, place_at, reads_place, clashes_at, clashes, outcome_in, outcome_to, turns_to, is_limit, is_early, stops_later, stops}
use Rattle.block_stage.proofs.Cutting.{place_is}

-- what stands at a place, seen in an equal list
pub seen_at : (places shown : Places) (i : ℕ) (p q : Option RunData) → shown ≡ places → i < length shown → p ≡ get_or shown i p → p ≡ q → slice_get places i ≡ Some q
seen_at places shown i p q same lt is e = ap (λ ps. slice_get ps i) (sym same) ∙ place_is shown i p lt is ∙ ap Some e

or_last : (x y : Bool) → x ≡ false → (x || y) ≡ true → y ≡ true
or_last x y e h = sym (ap (λ b. b || y) e) ∙ h

or_first : (x y : Bool) → y ≡ false → (x || y) ≡ true → x ≡ true
or_first true y e h = refl
or_first false y e h = absurd (false≢true (sym e ∙ h))

-- there is no place behind all blocks
pub whole_at : (t : ℕ) (places : Places) (cut : ℕ) → IsCut t places cut → length places ≤ cut → cut ≡ length places
whole_at t places cut is past =
    ⊎_elim
    (λ (lt : length places < cut). absurd (false≢true (sym (is.least (length places) lt) ∙ or_left _ _ (or_left _ _ (eq-eqb (length places) (length places) refl)))))
    (λ (le : cut ≤ length places). let e : cut ≡ length places = omega arith in e)
    (cases_lt (length places) cut)

-- behind all blocks, the cause is how the last one ended
pub behind_is : (t : ℕ) (places shown : Places) (cut : ℕ) (cause : Cause) → shown ≡ places → IsCut t places cut → length shown ≤ cut → cause ≡ (if has_ended shown (length shown) then causes.Exit else causes.Whole) → IsCause t places cut cause
behind_is t places shown cut cause same is past told =
    let e = whole_at t places cut is (omega (arith, ap length same, past)) in
    let here = ap (λ ps. has_ended ps (length ps)) same ∙ ap (has_ended places) (sym e) in
    by_end (has_ended places cut) refl (told ∙ ap (λ b. if b then causes.Exit else causes.Whole) here) e
  where
    by_end : (b : Bool) → has_ended places cut ≡ b → cause ≡ (if b then causes.Exit else causes.Whole) → cut ≡ length places → IsCause t places cut cause
    by_end true h k e = subst (IsCause t places cut) (sym k) (inl e, h)
    by_end false h k e = subst (IsCause t places cut) (sym k) (e, h)

-- where a block with a run stands it is a place past the first
pub later_at : (t : ℕ) (places shown : Places) (cut : ℕ) (q : Option RunData) (r : RunData) → shown ≡ places → cut < length shown → q ≡ get_or shown cut q → q ≡ Some r → stops t places cut ≡ true → (slice_get places cut ≡ Some (Some r)) × ((0 < cut) × (stops_later t places cut ≡ true))
later_at t places shown cut q r same lt is e here =
    let at = seen_at places shown cut q (Some r) same lt is e in
    let front = or_from (cut == length places) (is_none (place_at places cut)) (ne_eqb cut (length places) (λ z. omega (arith, ap length same))) (ap (λ o. is_none (at_place o)) at) in
    let parts = and_parts (nat_lt 0 cut) (stops_later t places cut) (or_last _ _ front here) in
    (at, (ltb-true 0 cut parts.0, parts.1))

-- how the block before it ended
pub ended_at : (places shown : Places) (cut : ℕ) (q : Option RunData) → shown ≡ places → cut < length shown → q ≡ get_or shown (cut - 1) q → is_early (outcome_to places cut) ≡ is_early (outcome_in q)
ended_at places shown cut q same lt is = ap (λ o. is_early (outcome_in (at_place o))) (seen_at places shown (cut - 1) q q same (omega arith) is refl)

-- a block with a run stands there, and no dependence of it is broken
pub some_at : (places : Places) (cut : ℕ) (r : RunData) → slice_get places cut ≡ Some (Some r) → is_some (place_at places cut) ≡ true
some_at places cut r at = ap (λ o. is_some (at_place o)) at

pub unbroken_at : (places : Places) (cut : ℕ) (r : RunData) → slice_get places cut ≡ Some (Some r) → list_any (reads_place r) (take cut places) ≡ false → clashes places cut ≡ false
unbroken_at places cut r at none = ap (λ o. clashes_at places cut (at_place o)) at ∙ none

-- a dependence of the run that stands there
pub broken_at : (places : Places) (cut : ℕ) (r : RunData) (d : Dependence) → slice_get places cut ≡ Some (Some r) → IsCarried (take cut places) r d → IsBroken places cut (place_at places cut) d
broken_at places cut r d at carried = subst (λ p. IsBroken places cut p d) (sym (ap at_place at)) carried

-- where no dependence is broken, and the block before it ended normally
pub turns_at_cut : (t : ℕ) (places : Places) (cut : ℕ) (r : RunData) → slice_get places cut ≡ Some (Some r) → stops_later t places cut ≡ true → list_any (reads_place r) (take cut places) ≡ false → is_early (outcome_to places cut) ≡ false → (nat_lt t (turns_to places (cut + 1)) || is_limit (outcome_in (place_at places cut))) ≡ true
turns_at_cut t places cut r at later none normal =
    let no_clash = unbroken_at places cut r at none in
    let turns = nat_lt t (turns_to places (cut + 1)) in
    let limit = is_limit (outcome_in (place_at places cut)) in
    let front = or_first (clashes places cut || turns || limit) (is_early (outcome_to places cut)) normal later in
    sym (ap (λ b. b || turns || limit) no_clash) ∙ front

-- The trips before the cut, one after another from the base, are the base with the written cells of the blocks put in.
use Rattle.std.proofs.Common.{◌≡◌, ℕ, zero, suc, ℤ, pos, ◌+ℤ◌, ◌*ℤ◌, ◌+◌, ◌*◌, ◌-◌, ◌<◌, ◌≤◌, ◌==◌, ◌&&◌, ◌||◌, Bool, true, false, IsTrue, List, [], ◌∷◌, ◌++◌, length, refl, ap, sym, ◌∙◌, subst, arith, rules, take, Option, Some, None, is_some, is_none, unwrap_or, slice_get, inl, inr}
use Rattle.std.specs.Prelude.{nat_lt, sum_by}
use Rattle.std.specs.List.{list_any}
use Rattle.std.specs.Ordering.{nat_cmp, is_eq, eq_by_cmp}
use Rattle.std.specs.Cmp.{Equal-is}
use Rattle.std.specs.FinSet as set
use Rattle.std.specs.FinMap as map
use Rattle.std.proofs.Math.Nat.{mul-le-mul_right}
use Rattle.std.proofs.lemmas.Option.{slice_get_within, get_or_from_slice_get}
use Rattle.std.proofs.lemmas.List.Sums.{sum_by_push}
use Rattle.std.proofs.lemmas.List.{take_more, length-map, length-append}
use Rattle.std.proofs.lemmas.List.FromFn.{length-range_with_len}
use Rattle.std.proofs.lemmas.Bool.{or_parts, lt-ltb, ltb-false, true≢false, cases_lt, eqb-false}
use Rattle.meaning.specs.declared.ending.Outcome.{Outcome}
use Rattle.meaning.specs.declared.ending.Outcome.TheVariants.{Normal, Left, Stopped, Fault}
use Rattle.meaning.specs.Maps.{Map, put}
use Rattle.meaning.specs.Stores.{Cells, overlay}
use Rattle.meaning.specs.Turns.{met_limit}
use Rattle.meaning.specs.Execution.{Ran, more, goes_on, exec, fold_trips}
use Rattle.meaning.specs.LoopLaws.{NeverSets}
use Rattle.meaning.proofs.Limits.{fold_trips-append, fold_trips-bounded, exec-bounded}
use Rattle.meaning.proofs.Advancing.{put_again, fold_trips-number, fold_trips-goes_on}
use Rattle.evaluator.specs.Over.{values_by}
use Rattle.evaluator.specs.Statements.{outcome_of}
use Rattle.block_stage.specs.Jobs.{JobData, start_of, count_of}
use Rattle.block_stage.specs.Faithful.{RunData, IsFaithful, map_in_job, base_of, trips_of, ran}
use Rattle.block_stage.specs.Cuts.{Places, at_place, place_at, reads_of, reads_place, clashes_at, clashes, turns_in, outcome_in, turns_to, is_limit, is_early, stops_later, stops, IsCut, overlay_by, overlay_all, trips_before, outcome_to}
use Rattle.block_stage.proofs.Putting.{put_here}

-- ---- what earlier blocks wrote

among : (p : ℕ → Bool) (q : ℕ) (xs : List ℕ) → list_any p xs ≡ false → list_any (eq_by_cmp nat_cmp q) xs ≡ true → p q ≡ false
among p q [] absent here = absurd (true≢false (sym here))
among p q (x ∷ xs) absent here =
    by (λ h. among p q xs (or_parts (p x) (list_any p xs) absent).1 h) (is_eq (nat_cmp q x)) refl here
  where
    by : (list_any (eq_by_cmp nat_cmp q) xs ≡ true → p q ≡ false) → (b : Bool) → is_eq (nat_cmp q x) ≡ b → (b || list_any (eq_by_cmp nat_cmp q) xs) ≡ true → p q ≡ false
    by later true e h = ap p (set.nat_cmp-IsAntisymmetric q x ((Equal-is (nat_cmp q x)).0 e)) ∙ (or_parts (p x) (list_any p xs) absent).0
    by later false e h = later h

nothing_there : (o : Option ℤ) (x : ℤ) → is_some o ≡ false → unwrap_or o x ≡ x
nothing_there None x h = refl
nothing_there (Some y) x h = absurd (true≢false h)

module _ (s : RunData) (c : ℕ) (shown : IsTrue (set.contains s.seen.exposed c)) where
  unread : (r : RunData) → reads_of r s ≡ false → is_some (map.get r.seen.written c) ≡ false
  unread r apart = among (λ k. is_some (map.get r.seen.written k)) c (set.items s.seen.exposed) apart (sym (set.contains-items s.seen.exposed c) ∙ shown)

  overlay_apart : (m : Cells) (p : Option RunData) → reads_place s p ≡ false → overlay_by m p c ≡ m c
  unfolding overlay
  overlay_apart m None apart = refl
  overlay_apart m (Some r) apart = nothing_there (map.get r.seen.written c) (m c) (unread r apart)

  -- what no earlier block wrote is as in the base
  all_apart : (m : Cells) (ps : Places) → list_any (reads_place s) ps ≡ false → overlay_all m ps c ≡ m c
  all_apart m [] apart = refl
  all_apart m (p ∷ ps) apart =
      let q = or_parts (reads_place s p) (list_any (reads_place s) ps) apart in
      all_apart (overlay_by m p) ps q.1 ∙ overlay_apart m p q.0

-- ---- one more block

all_append : (m : Cells) (ps qs : Places) → overlay_all m (ps ++ qs) ≡ overlay_all (overlay_all m ps) qs
all_append m [] qs = refl
all_append m (p ∷ ps) qs = all_append (overlay_by m p) ps qs

take_place : (places : Places) (c : ℕ) (p : Option RunData) → slice_get places c ≡ Some p → take (c + 1) places ≡ take c places ++ p ∷ []
take_place places c p at =
    take_more places c p (slice_get_within places c p at) ∙ ap (λ (x : Option RunData). take c places ++ x ∷ []) (get_or_from_slice_get places c p p at)

pub all_more : (m : Cells) (places : Places) (c : ℕ) (p : Option RunData) → slice_get places c ≡ Some p → overlay_all m (take (c + 1) places) ≡ overlay_by (overlay_all m (take c places)) p
all_more m places c p at = ap (λ (ps : Places). overlay_all m ps) (take_place places c p at) ∙ all_append m (take c places) (p ∷ [])

pub turns_next : (places : Places) (c : ℕ) (p : Option RunData) → slice_get places c ≡ Some p → turns_to places (c + 1) ≡ turns_to places c + turns_in p
turns_next places c p at = ap (λ (ps : Places). sum_by turns_in ps) (take_place places c p at) ∙ sum_by_push turns_in (take c places) p

some_run : (o : Option (Option RunData)) → is_none (at_place o) ≡ false → (r : RunData) × (o ≡ Some (Some r))
some_run None h = absurd cc
some_run (Some None) h = absurd cc
some_run (Some (Some r)) h = (r, refl)

pub run_here : (t : ℕ) (places : Places) (c : ℕ) → stops t places c ≡ false → (r : RunData) × (slice_get places c ≡ Some (Some r))
run_here t places c h =
    let p = or_parts ((c == length places) || is_none (place_at places c)) (nat_lt 0 c && stops_later t places c) h in
    let q = or_parts (c == length places) (is_none (place_at places c)) p.0 in
    some_run (slice_get places c) q.1

later_not : (t : ℕ) (places : Places) (c : ℕ) → 0 < c → stops t places c ≡ false → stops_later t places c ≡ false
later_not t places c some h =
    let p = or_parts ((c == length places) || is_none (place_at places c)) (nat_lt 0 c && stops_later t places c) h in
    rw (lt-ltb 0 c some) at p.1

normal_end : (o : Outcome) → is_early o ≡ false → o ≡ Normal
normal_end Normal h = refl
normal_end (Left s) h = absurd cc
normal_end (Stopped line) h = absurd cc
normal_end (Fault f) h = absurd cc

-- ---- trips by their number

length-values : (first by : ℤ) (n : ℕ) → length (values_by first by n) ≡ n
length-values first by n = length-map _ _ ∙ length-range_with_len 0 n

module _ (d : JobData) where
  abbrev fold : ℤ → ℕ → Map → ℕ → Ran
  fold first n m t = fold_trips (exec d.items) d.line d.variable d.step d.range (values_by first d.step n) m t

  -- some trips, and after a normal end the others
  fold_split : (first start : ℤ) (n k : ℕ) (m : Map) (t : ℕ) → fold first (n + k) m t ≡ goes_on (fold first n m t) t (λ q u. fold start k q u)
  fold_split first start n k m t =
      fold_trips-number (exec d.items) d.line d.variable d.step d.range (values_by first d.step (n + k)) (values_by first d.step n ++ values_by start d.step k) (let a = length-values first d.step (n + k) in let b = length-values first d.step n in let e = length-values start d.step k in let f = length-append (values_by first d.step n) (values_by start d.step k) in omega arith) m t
      ∙ fold_trips-append (exec d.items) d.line d.variable d.step d.range (values_by start d.step k) (values_by first d.step n) m t

  goes_on-ran : (m : Cells) (u t : ℕ) (go : Map → ℕ → Ran) → goes_on (ran d Normal m u) t go ≡ more [] u (go (map_in_job d m) (t - u))
  unfolding goes_on
  goes_on-ran m u t go = refl

  more-ran : (o : Outcome) (m : Cells) (u n k : ℕ) → u + n ≡ k → more [] u (ran d o m n) ≡ ran d o m k
  unfolding more
  more-ran o m u n k e = λ i. record { outcome = outcome_of o; map = map_in_job d m; pieces = []; used = e i }

  -- the fold over the trips of the blocks below c
  abbrev pub IsRun : Places → ℕ → Type 0
  IsRun places c =
      trips_of d d.first (trips_before d c) (base_of d) d.turns_left ≡ ran d (outcome_to places c) (overlay_all (base_of d) (take c places)) (turns_to places c)

  run_first : (places : Places) (r : RunData) → slice_get places 0 ≡ Some (Some r) → r.index ≡ 0 → IsFaithful d r → IsRun places 1
  run_first places r at is ok =
      let g = ok.gives (base_of d) (λ c shown. refl) in
      let start : start_of d r.index ≡ d.first = ap (start_of d) is ∙ first_start d.first d.step in
      let n : count_of d r.index ≡ trips_before d 1 = ap (count_of d) is ∙ omega arith in
      let g2 : trips_of d d.first (trips_before d 1) (base_of d) d.turns_left ≡ ran d r.outcome (overlay (base_of d) (map.get r.seen.written)) r.used = sym (λ i. trips_of d (start i) (n i) (base_of d) d.turns_left) ∙ g in
      let maps : overlay_all (base_of d) (take (0 + 1) places) ≡ overlay (base_of d) (map.get r.seen.written) = all_more (base_of d) places 0 (Some r) at in
      let turns : turns_to places (0 + 1) ≡ r.used = turns_next places 0 (Some r) at ∙ none_before r.used in
      let o : outcome_to places 1 ≡ r.outcome = ap (λ p. outcome_in (at_place p)) at in
      g2 ∙ sym (λ i. ran d (o i) (maps i) (turns i))
    where
      first_start : (a s : ℤ) → a +ℤ pos (0 * d.block_size) *ℤ s ≡ a
      first_start a s = search rules

      none_before : (n : ℕ) → 0 + n ≡ n
      none_before n = omega arith

  module _ (long : 0 < d.block_size) (last : (d.blocks - 1) * d.block_size < d.trips) (unset : NeverSets d.variable d.range) where
    block_below : (c : ℕ) → c < d.blocks → c * d.block_size < d.trips
    block_below c lt = let le = mul-le-mul_right d.block_size (let e : c ≤ d.blocks - 1 = omega arith in e) in omega (arith, last)

    run_next : (places : Places) (c : ℕ) (r : RunData) → 0 < c → c < d.blocks → slice_get places c ≡ Some (Some r) → r.index ≡ c → IsFaithful d r → stops_later d.turns_left places c ≡ false → IsRun places c → IsRun places (c + 1)
    run_next places c r some lt at is ok not_later old =
        let base = base_of d in
        let m = overlay_all base (take c places) in
        let u = turns_to places c in
        let n = trips_before d c in
        let k = count_of d c in
        let start = start_of d c in
        let p1 = or_parts (clashes places c || nat_lt d.turns_left (turns_to places (c + 1)) || is_limit (outcome_in (place_at places c))) (is_early (outcome_in (place_at places (c - 1)))) not_later in
        let p2 = or_parts (clashes places c || nat_lt d.turns_left (turns_to places (c + 1))) (is_limit (outcome_in (place_at places c))) p1.0 in
        let p3 = or_parts (clashes places c) (nat_lt d.turns_left (turns_to places (c + 1))) p2.0 in
        let well : outcome_to places c ≡ Normal = normal_end (outcome_to places c) p1.1 in
        let here : place_at places c ≡ Some r = ap at_place at in
        let apart : list_any (reads_place r) (take c places) ≡ false = sym (ap (clashes_at places c) here) ∙ p3.0 in
        let no_limit : met_limit (outcome_of r.outcome) ≡ false = sym (ap (λ p. is_limit (outcome_in p)) here) ∙ p2.1 in
        let turns : turns_to places (c + 1) ≡ u + r.used = turns_next places c (Some r) at in
        let fits : turns_to places (c + 1) ≤ d.turns_left = ltb-false d.turns_left (turns_to places (c + 1)) p3.1 in
        let old2 : fold d.first n (put (map_in_job d base) d.variable [] d.first) d.turns_left ≡ ran d Normal m u = old ∙ ap (λ o. ran d o m u) well in
        let below = block_below c lt in
        let place_is : n ≡ c * d.block_size = omega arith in
        let size : trips_before d (c + 1) ≡ n + k = omega arith in
        let g = ok.gives m (λ q shown. all_apart r q shown base (take c places) apart) in
        let g1 : fold start k (put (map_in_job d m) d.variable [] start) d.turns_left ≡ ran d r.outcome (overlay m (map.get r.seen.written)) r.used = sym (λ i. trips_of d (start_of d (is i)) (count_of d (is i)) m d.turns_left) ∙ g in
        let value : map_in_job d m d.variable [] ≡ d.first +ℤ pos (length (values_by d.first d.step n)) *ℤ d.step = sym (ap (λ (q : Ran). q.map d.variable []) old2) ∙ fold_trips-goes_on d.items d.line d.variable d.step d.range unset (values_by d.first d.step n) (put (map_in_job d base) d.variable [] d.first) d.turns_left (ap (λ (q : Ran). q.outcome) old2) ∙ ap (λ z. z +ℤ pos (length (values_by d.first d.step n)) *ℤ d.step) (put_here (map_in_job d base) d.variable d.first) in
        let at_start : map_in_job d m d.variable [] ≡ start = value ∙ ap (λ j. d.first +ℤ pos j *ℤ d.step) (length-values d.first d.step n ∙ place_is) in
        let g2 : fold start k (map_in_job d m) d.turns_left ≡ ran d r.outcome (overlay m (map.get r.seen.written)) r.used = ap (λ q. fold start k q d.turns_left) (sym (put_again (map_in_job d m) d.variable [] start at_start)) ∙ g1 in
        let used : (fold start k (map_in_job d m) d.turns_left).used ≡ r.used = ap (λ (q : Ran). q.used) g2 in
        let unlimited : met_limit (fold start k (map_in_job d m) d.turns_left).outcome ≡ false = ap (λ (q : Ran). met_limit q.outcome) g2 ∙ no_limit in
        let g3 : fold start k (map_in_job d m) (d.turns_left - u) ≡ ran d r.outcome (overlay m (map.get r.seen.written)) r.used = (fold_trips-bounded (exec d.items) d.line d.variable d.step d.range (exec-bounded d.items) (values_by start d.step k) (map_in_job d m)).frugal (d.turns_left - u) d.turns_left (omega arith) (omega arith) unlimited ∙ g2 in
        let split = fold_split d.first start n k (put (map_in_job d base) d.variable [] d.first) d.turns_left in
        let maps : overlay_all base (take (c + 1) places) ≡ overlay m (map.get r.seen.written) = all_more base places c (Some r) at in
        let o : outcome_to places (c + 1) ≡ r.outcome = ap (λ j. outcome_in (place_at places j)) (one_back c) ∙ ap outcome_in here in
        ap (λ j. fold d.first j (put (map_in_job d base) d.variable [] d.first) d.turns_left) size
        ∙ split
        ∙ ap (λ q. goes_on q d.turns_left (λ w t. fold start k w t)) old2
        ∙ goes_on-ran m u d.turns_left (λ w t. fold start k w t)
        ∙ ap (λ q. more [] u q) g3
        ∙ more-ran r.outcome (overlay m (map.get r.seen.written)) u r.used (turns_to places (c + 1)) (sym turns)
        ∙ sym (λ i. ran d (o i) (maps i) (turns_to places (c + 1)))
      where
        one_back : (c : ℕ) → (c + 1) - 1 ≡ c
        one_back c = omega arith

    -- the theorem of the commit
    pub committed : (places : Places) → ((i : ℕ) (r : RunData) → slice_get places i ≡ Some (Some r) → (r.index ≡ i) × IsFaithful d r) → (c : ℕ) → 0 < c → c ≤ d.blocks → ((p : ℕ) → p < c → stops d.turns_left places p ≡ false) → IsRun places c
    committed places ok zero some le go = absurd (omega arith)
    committed places ok (suc zero) some le go =
        let h = run_here d.turns_left places 0 (go 0 (omega arith)) in
        let f = ok 0 h.0 h.1 in
        run_first places h.0 h.1 f.0 f.1
    committed places ok (suc (suc c)) some le go =
        let old = committed places ok (suc c) (omega arith) (omega arith) (λ p lt. go p (omega arith)) in
        let h = run_here d.turns_left places (suc c) (go (suc c) (omega arith)) in
        let f = ok (suc c) h.0 h.1 in
        let n : suc c + 1 ≡ suc (suc c) = omega arith in
        subst (IsRun places) n (run_next places (suc c) h.0 (omega arith) (omega arith) h.1 f.0 f.1 (later_not d.turns_left places (suc c) (omega arith) (go (suc c) (omega arith))) old)

    -- the turns before a cut are within those that are left
    pub turns_fit : (places : Places) → ((i : ℕ) (r : RunData) → slice_get places i ≡ Some (Some r) → (r.index ≡ i) × IsFaithful d r) → (c : ℕ) → 0 < c → ((p : ℕ) → p < c → stops d.turns_left places p ≡ false) → turns_to places c ≤ d.turns_left
    turns_fit places ok zero some go = absurd (omega arith)
    turns_fit places ok (suc zero) some go =
        let h = run_here d.turns_left places 0 (go 0 (omega arith)) in
        let f = (ok 0 h.0 h.1).1 in
        let e : turns_to places (0 + 1) ≡ 0 + h.0.used = turns_next places 0 (Some h.0) h.1 in
        omega (arith, e, f.within)
    turns_fit places ok (suc (suc c)) some go =
        let l = later_not d.turns_left places (suc c) (omega arith) (go (suc c) (omega arith)) in
        let p1 = or_parts (clashes places (suc c) || nat_lt d.turns_left (turns_to places (suc c + 1)) || is_limit (outcome_in (place_at places (suc c)))) (is_early (outcome_in (place_at places (suc c - 1)))) l in
        let p2 = or_parts (clashes places (suc c) || nat_lt d.turns_left (turns_to places (suc c + 1))) (is_limit (outcome_in (place_at places (suc c)))) p1.0 in
        let p3 = or_parts (clashes places (suc c)) (nat_lt d.turns_left (turns_to places (suc c + 1))) p2.0 in
        let n : suc c + 1 ≡ suc (suc c) = omega arith in
        subst (λ j. turns_to places j ≤ d.turns_left) n (ltb-false d.turns_left (turns_to places (suc c + 1)) p3.1)

pub cut_within : (t : ℕ) (places : Places) (c : ℕ) → IsCut t places c → c ≤ length places
cut_within t places c h =
    elim (cases_lt (length places) c) [
      | inr le ↦ le
      | inl past ↦ (let e = h.least (length places) past in let p = or_parts ((length places == length places) || is_none (place_at places (length places))) (nat_lt 0 (length places) && stops_later t places (length places)) e in let q = or_parts (length places == length places) (is_none (place_at places (length places))) p.0 in absurd (eqb-false (length places) (length places) q.0 refl))
    ]

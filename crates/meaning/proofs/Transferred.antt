-- In a program unit that breaks no rule transfers of control go on at statements, and none leaves the body.
use Rattle.std.proofs.Common.{◌≡◌, ℕ, zero, suc, ℤ, pos, negsuc, ◌+◌, ◌-◌, ◌+ℤ◌, ◌==◌, ◌||◌, Bool, true, false, not, if◌then◌else◌, Option, Some, None, List, [], ◌∷◌, ◌++◌, map, Result, Ok, Err, refl, sym, ap, ◌∙◌, subst, arith}
use Rattle.std.specs.Prelude.{count_by}
use Rattle.std.proofs.lemmas.Bool.{true≢false, false≢true, eqb-true, not-false}
use Rattle.std.proofs.lemmas.List.{append-nil}
use Rattle.std.proofs.lemmas.List.Folds.{list_any-append}
use Rattle.std.proofs.lemmas.List.Sums.{sum_by-cons}
use Rattle.std.specs.List.{list_any, AllByRecursion}
use Rattle.meaning.specs.declared.ending.FaultKind.{FaultKind}
use Rattle.meaning.specs.declared.ending.Value.{Value}
use Rattle.meaning.specs.declared.refusal.Rule.TheVariants.{K2, K9}
use Rattle.meaning.specs.Characters.{number_of}
use Rattle.meaning.specs.Statements.{broken_if}
use Rattle.meaning.specs.Syntax.{ExprTree, ExprsTree, ShapeTree, ListItemsTree, FormatTree, assignment, writing, printing, doing, continuing, going, computed_going, arithmetic_if, logical_if, stopping, end_do, ItemTree}
use Rattle.meaning.specs.Trees.{Members, none, plain, loop, block, Arms, no_arms, arm, flat, flat_arms, Nested, flatten}
use Rattle.meaning.specs.Surroundings.{Around, head_of, own_items, in_body, in_range, in_arm, told_in, told_in_arms}
use Rattle.meaning.specs.Uses.{Symbols, symbols_of}
use Rattle.meaning.specs.LabelRules.{has_label, transfers_of, not_executable, is_out_of_reach, misses, breaks_transfers}
use Rattle.meaning.specs.LoopRules.{breaks_loops}
use Rattle.meaning.specs.Rules.{broken_items, broken_lists, checked}
use Rattle.meaning.specs.Scopes.{scope_of, Definition, defined_by}
use Rattle.meaning.specs.Lists.{Listed, listed, list_limit}
use Rattle.meaning.specs.Trips.{Span, span_of, trips}
use Rattle.meaning.specs.Maps.{Map, put}
use Rattle.meaning.specs.Values.{Scope, value, subscripts, dimensions_in, as_integer, as_logical, integer}
use Rattle.meaning.specs.Records.{edited}
use Rattle.meaning.specs.Execution.{Outcome, normal, jump, stopped, fault, Ran, more, ended, ended_by, turn, with_ok, parts_for, with_list, output, assigned, unless_defined, picked_by, nth_label, by_count, by_sign, Meaning, Follow, Next, onward, at_label, Ways, goes_on, goes_on_by, leads_on, leads_on_by, simple, step, added, fold_trips, trips_from, looped, while_of, ways_again, repeated, loop_by, condition_of, holds, turn_if, tested, arms_from, heads, labelled, goes_at, ways_in, pass_over, fuelled, exec}
use Rattle.meaning.proofs.Keeping.{or-parts}
use Rattle.meaning.proofs.Lasting.{none_of_both, not_told, nothing_broken}

-- ---- labels in reach

-- a statement of these has the label
abbrev pub InReach : List ItemTree → ℕ → Type 0
InReach reach s = list_any (has_label s) reach ≡ true

none_more : (n : ℕ) → 0 + n ≡ n
none_more n = omega arith

some_counted : {A : Type 0} (p : A → Bool) (xs : List A) → (count_by p xs == 0) ≡ false → list_any p xs ≡ true
some_counted p [] h = absurd (true≢false h)
some_counted p (x ∷ xs) h = by (p x) refl (some_counted p xs)
  where
    by : (b : Bool) → p x ≡ b → ((count_by p xs == 0) ≡ false → list_any p xs ≡ true) → list_any p (x ∷ xs) ≡ true
    by true e further = ap (λ b. b || list_any p xs) e
    by false e further =
        ap (λ b. b || list_any p xs) e ∙ further (sym (ap (λ k. k == 0) (sum_by-cons (λ y. if p y then 1 else 0) x xs ∙ ap (λ b. (if b then 1 else 0) + count_by p xs) e ∙ none_more (count_by p xs))) ∙ h)

or-second : (a b : Bool) → b ≡ true → (a || b) ≡ true
or-second true b h = refl
or-second false b h = h

module _ (r : Symbols) (items : List ItemTree) where
  not_missed : (reach : List ItemTree) (s : ℕ) → misses r items reach s ≡ false → InReach reach s
  not_missed reach s h =
      some_counted (has_label s) reach (or-parts (count_by (has_label s) reach == 0) (not (count_by (has_label s) reach == count_by (has_label s) items)) (or-parts (is_out_of_reach items reach s) (list_any (has_label s) (not_executable r [] items)) h).0).0

  all_in_reach : (reach : List ItemTree) (ss : List ℕ) → list_any (misses r items reach) ss ≡ false → AllByRecursion (InReach reach) ss
  all_in_reach reach [] h = tt
  all_in_reach reach (s ∷ ss) h =
      let parts = or-parts (misses r items reach s) (list_any (misses r items reach) ss) h in
      (not_missed reach s parts.0, all_in_reach reach ss parts.1)

  -- ---- lists in which no statement breaks the rule

  abbrev Nowhere : Around → Members → Type 0
  Nowhere a ms = told_in (breaks_transfers r items) K2 a ms ≡ []

  abbrev NowhereIn : Around → Arms → Type 0
  NowhereIn a arms = told_in_arms (breaks_transfers r items) K2 a arms ≡ []

  -- the labels of a statement's transfers are in reach
  abbrev Here : Around → ItemTree → Type 0
  Here a x = AllByRecursion (InReach a.items) (transfers_of x.shape)

  here : (a : Around) (x : ItemTree) → broken_if (breaks_transfers r items a x) x.line K2 ≡ [] → Here a x
  here a x h = all_in_reach a.items (transfers_of x.shape) (not_told (breaks_transfers r items a x) x.line K2 h)

  plain_parts : (a : Around) (x : ItemTree) (ms : Members) → Nowhere a (plain x ms) → Here a x × Nowhere a ms
  unfolding told_in told_in_arms
  plain_parts a x ms h =
      let parts = none_of_both (broken_if (breaks_transfers r items a x) x.line K2) (told_in (breaks_transfers r items) K2 a ms) h in
      (here a x parts.0, parts.1)

  loop_parts : (a : Around) (x : ItemTree) (range ms : Members) → Nowhere a (loop x range ms) → Nowhere (in_range a x range) range × Nowhere a ms
  unfolding told_in told_in_arms
  loop_parts a x range ms h =
      let parts = none_of_both (broken_if (breaks_transfers r items a x) x.line K2) (told_in (breaks_transfers r items) K2 (in_range a x range) range ++ told_in (breaks_transfers r items) K2 a ms) h in
      none_of_both (told_in (breaks_transfers r items) K2 (in_range a x range) range) (told_in (breaks_transfers r items) K2 a ms) parts.1

  block_parts : (a : Around) (arms : Arms) (x : ItemTree) (ms : Members) → Nowhere a (block arms x ms) → NowhereIn a arms × Nowhere a ms
  unfolding told_in told_in_arms
  block_parts a arms x ms h =
      let parts = none_of_both (told_in_arms (breaks_transfers r items) K2 a arms) (broken_if (breaks_transfers r items a x) x.line K2 ++ told_in (breaks_transfers r items) K2 a ms) h in
      (parts.0, (none_of_both (broken_if (breaks_transfers r items a x) x.line K2) (told_in (breaks_transfers r items) K2 a ms) parts.1).1)

  arm_parts : (a : Around) (x : ItemTree) (body : Members) (arms : Arms) → NowhereIn a (arm x body arms) → Nowhere (in_arm a body) body × NowhereIn a arms
  unfolding told_in told_in_arms
  arm_parts a x body arms h =
      let parts = none_of_both (broken_if (breaks_transfers r items a x) x.line K2) (told_in (breaks_transfers r items) K2 (in_arm a body) body ++ told_in_arms (breaks_transfers r items) K2 a arms) h in
      none_of_both (told_in (breaks_transfers r items) K2 (in_arm a body) body) (told_in_arms (breaks_transfers r items) K2 a arms) parts.1

  -- ---- each transfer is to a statement

  abbrev Arrives : ItemTree → Type 0
  Arrives x = AllByRecursion (InReach items) (transfers_of x.shape)

  not_missed_at_all : (reach : List ItemTree) (s : ℕ) → misses r items reach s ≡ false → InReach items s
  not_missed_at_all reach s h =
      let parts = or-parts (count_by (has_label s) reach == 0) (not (count_by (has_label s) reach == count_by (has_label s) items)) (or-parts (is_out_of_reach items reach s) (list_any (has_label s) (not_executable r [] items)) h).0 in
      some_counted (has_label s) items (sym (ap (λ n. n == 0) (eqb-true (count_by (has_label s) reach) (count_by (has_label s) items) (not-false (count_by (has_label s) reach == count_by (has_label s) items) parts.1))) ∙ parts.0)

  all_arrive : (reach : List ItemTree) (ss : List ℕ) → list_any (misses r items reach) ss ≡ false → AllByRecursion (InReach items) ss
  all_arrive reach [] h = tt
  all_arrive reach (s ∷ ss) h =
      let parts = or-parts (misses r items reach s) (list_any (misses r items reach) ss) h in
      (not_missed_at_all reach s parts.0, all_arrive reach ss parts.1)

  arrives : (a : Around) (x : ItemTree) → broken_if (breaks_transfers r items a x) x.line K2 ≡ [] → Arrives x
  arrives a x h = all_arrive a.items (transfers_of x.shape) (not_told (breaks_transfers r items a x) x.line K2 h)

  of_both : (xs ys : List ItemTree) → AllByRecursion Arrives xs → AllByRecursion Arrives ys → AllByRecursion Arrives (xs ++ ys)
  of_both [] ys h k = k
  of_both (x ∷ xs) ys h k = (h.0, of_both xs ys h.1 k)

  mutual
    unfolding told_in told_in_arms

    arrive : (a : Around) (ms : Members) → Nowhere a ms → AllByRecursion Arrives (flat ms)
    arrive a none h = tt
    arrive a (plain x ms) h =
        let parts = none_of_both (broken_if (breaks_transfers r items a x) x.line K2) (told_in (breaks_transfers r items) K2 a ms) h in
        (arrives a x parts.0, arrive a ms parts.1)
    arrive a (loop x range ms) h =
        let parts = none_of_both (broken_if (breaks_transfers r items a x) x.line K2) (told_in (breaks_transfers r items) K2 (in_range a x range) range ++ told_in (breaks_transfers r items) K2 a ms) h in
        let inner = none_of_both (told_in (breaks_transfers r items) K2 (in_range a x range) range) (told_in (breaks_transfers r items) K2 a ms) parts.1 in
        (arrives a x parts.0, of_both (flat range) (flat ms) (arrive (in_range a x range) range inner.0) (arrive a ms inner.1))
    arrive a (block arms x ms) h =
        let parts = none_of_both (told_in_arms (breaks_transfers r items) K2 a arms) (broken_if (breaks_transfers r items a x) x.line K2 ++ told_in (breaks_transfers r items) K2 a ms) h in
        let further = none_of_both (broken_if (breaks_transfers r items a x) x.line K2) (told_in (breaks_transfers r items) K2 a ms) parts.1 in
        of_both (flat_arms arms) (x ∷ flat ms) (arms_arrive a arms parts.0) (arrives a x further.0, arrive a ms further.1)

    arms_arrive : (a : Around) (arms : Arms) → NowhereIn a arms → AllByRecursion Arrives (flat_arms arms)
    arms_arrive a no_arms h = tt
    arms_arrive a (arm x body arms) h =
        let parts = none_of_both (broken_if (breaks_transfers r items a x) x.line K2) (told_in (breaks_transfers r items) K2 (in_arm a body) body ++ told_in_arms (breaks_transfers r items) K2 a arms) h in
        let inner = none_of_both (told_in (breaks_transfers r items) K2 (in_arm a body) body) (told_in_arms (breaks_transfers r items) K2 a arms) parts.1 in
        (arrives a x parts.0, of_both (flat body) (flat_arms arms) (arrive (in_arm a body) body inner.0) (arms_arrive a arms inner.1))

-- ---- a label of a list

none_here : (a b : Bool) (ms : Members) (o : Option Members) → (if a then Some ms else o) ≡ None → (a ≡ false) × (o ≡ None)
none_here true b ms o h = absurd cc
none_here false b ms o h = (refl, h)

neither : (a b : Bool) → a ≡ false → b ≡ false → (a || b) ≡ false
neither a b h k = rw (h, k) refl

unlabelled : (s : ℕ) (ms : Members) → labelled s ms ≡ None → list_any (has_label s) (own_items ms) ≡ false
unfolding labelled
unlabelled s none h = refl
unlabelled s (plain x ms) h =
    let parts = none_here (has_label s x) false (plain x ms) (labelled s ms) h in
    neither (has_label s x) (list_any (has_label s) (own_items ms)) parts.0 (unlabelled s ms parts.1)
unlabelled s (loop x range ms) h =
    let parts = none_here (has_label s x) false (loop x range ms) (labelled s ms) h in
    neither (has_label s x) (list_any (has_label s) (own_items ms)) parts.0 (unlabelled s ms parts.1)
unlabelled s (block arms x ms) h =
    let parts = none_here (heads s arms) false (block arms x ms) (if has_label s x then Some ms else labelled s ms) h in
    let further = none_here (has_label s x) false ms (labelled s ms) parts.1 in
    list_any-append (has_label s) (head_of arms) (x ∷ own_items ms) ∙ neither (list_any (has_label s) (head_of arms)) (has_label s x || list_any (has_label s) (own_items ms)) (headed arms parts.0) (neither (has_label s x) (list_any (has_label s) (own_items ms)) further.0 (unlabelled s ms further.1))
  where
    headed : (arms : Arms) → heads s arms ≡ false → list_any (has_label s) (head_of arms) ≡ false
    headed no_arms e = refl
    headed (arm y body arms) e = neither (has_label s y) false e refl

-- a label that isn't one of a list is one around it
around_it : (s : ℕ) (ms : Members) (outer : List ItemTree) → labelled s ms ≡ None → InReach (own_items ms ++ outer) s → InReach outer s
around_it s ms outer h reached =
    sym (ap (λ b. b || list_any (has_label s) outer) (unlabelled s ms h)) ∙ sym (list_any-append (has_label s) (own_items ms) outer) ∙ reached

-- ---- runs

-- a transfer out of a run is to a label around it
abbrev Inside : List ItemTree → Ran → Type 0
Inside outer r = (s : ℕ) → r.outcome ≡ jump s → InReach outer s

abbrev FollowInside : List ItemTree → Follow → Type 0
FollowInside outer go = (n : Map) (u : ℕ) → Inside outer (go n u)

abbrev IsReached : List ItemTree → Next → Type 0
IsReached reach onward = Unit {0}
IsReached reach (at_label s) = InReach reach s

abbrev WaysInside : List ItemTree → List ItemTree → Ways → Type 0
WaysInside reach outer go = (next : Next) → IsReached reach next → FollowInside outer (go next)

module _ (outer : List ItemTree) where
  ended-inside : (m : Map) → Inside outer (ended m)
  ended-inside m s h = let k : normal ≡ jump s = h in absurd cc

  stopped-inside : (line : ℕ) (m : Map) → Inside outer (ended_by (stopped line) m)
  stopped-inside line m s h = let k : stopped line ≡ jump s = h in absurd cc

  failed-inside : (kind : FaultKind) (line : ℕ) (m : Map) → Inside outer (ended_by (fault kind line) m)
  failed-inside kind line m s h = let k : fault kind line ≡ jump s = h in absurd cc

  more-inside : (ps : List (List ℕ)) (n : ℕ) (r : Ran) → Inside outer r → Inside outer (more ps n r)
  unfolding more
  more-inside ps n r inside s h = inside s h

  turn-inside : (line : ℕ) (m : Map) (t : ℕ) (go : ℕ → Ran) → ((u : ℕ) → Inside outer (go u)) → Inside outer (turn line m t go)
  unfolding turn
  turn-inside line m zero go inside = failed-inside _ line m
  turn-inside line m (suc t) go inside = more-inside [] 1 (go t) (inside t)

  turn_if-inside : (b : Bool) (line : ℕ) (m : Map) (t : ℕ) (go : ℕ → Ran) → ((u : ℕ) → Inside outer (go u)) → Inside outer (turn_if b line m t go)
  turn_if-inside true line m t go inside = turn-inside line m t go inside
  turn_if-inside false line m t go inside = inside t

  with_ok-inside : {A : Type 0} (r : Result A FaultKind) (line : ℕ) (m : Map) (go : A → Ran) → ((x : A) → Inside outer (go x)) → Inside outer (with_ok r line m go)
  unfolding with_ok
  with_ok-inside (Ok x) line m go inside = inside x
  with_ok-inside (Err k) line m go inside = failed-inside k line m

  with_list-inside : (r : Listed) (line : ℕ) (go : List Value → Map → Ran) → ((vs : List Value) (n : Map) → Inside outer (go vs n)) → Inside outer (with_list r line go)
  unfolding with_list
  with_list-inside (Ok l) line go inside = inside l.values l.map
  with_list-inside (Err f) line go inside = failed-inside f.kind line f.map

  if-inside : (b : Bool) (x y : Ran) → Inside outer x → Inside outer y → Inside outer (if b then x else y)
  if-inside true x y h k = h
  if-inside false x y h k = k

  goes_on_by-inside : (o : Outcome) (r : Ran) (t : ℕ) (go : Follow) → Inside outer r → FollowInside outer go → Inside outer (goes_on_by o r t go)
  goes_on_by-inside normal r t go inside follow =
      more-inside r.pieces r.used (go r.map (t - r.used)) (follow r.map (t - r.used))
  goes_on_by-inside (jump s) r t go inside follow = inside
  goes_on_by-inside (stopped line) r t go inside follow = inside
  goes_on_by-inside (fault k line) r t go inside follow = inside

  goes_on-inside : (r : Ran) (t : ℕ) (go : Follow) → Inside outer r → FollowInside outer go → Inside outer (goes_on r t go)
  unfolding goes_on
  goes_on-inside r t go inside follow = goes_on_by-inside r.outcome r t go inside follow

  module _ (reach : List ItemTree) where
    leads_on_by-inside : (o : Outcome) (r : Ran) (t : ℕ) (go : Ways) → r.outcome ≡ o → Inside reach r → WaysInside reach outer go → Inside outer (leads_on_by o r t go)
    leads_on_by-inside normal r t go e inside ways =
        more-inside r.pieces r.used (go onward r.map (t - r.used)) (ways onward tt r.map (t - r.used))
    leads_on_by-inside (jump s) r t go e inside ways =
        more-inside r.pieces r.used (go (at_label s) r.map (t - r.used)) (ways (at_label s) (inside s e) r.map (t - r.used))
    leads_on_by-inside (stopped line) r t go e inside ways = λ s h. let k : stopped line ≡ jump s = sym e ∙ h in absurd cc
    leads_on_by-inside (fault kind line) r t go e inside ways = λ s h. let k : fault kind line ≡ jump s = sym e ∙ h in absurd cc

    leads_on-inside : (r : Ran) (t : ℕ) (go : Ways) → Inside reach r → WaysInside reach outer go → Inside outer (leads_on r t go)
    unfolding leads_on
    leads_on-inside r t go inside ways = leads_on_by-inside r.outcome r t go refl inside ways

    -- ---- statements

    picked-inside : (s : Scope) (e : ExprTree) (pick : Value → Next) (line : ℕ) (m : Map) (t : ℕ) (go : Ways) → ((v : Value) → IsReached reach (pick v)) → WaysInside reach outer go → Inside outer (picked_by s e pick line m t go)
    picked-inside s e pick line m t go reached ways =
        turn-inside line m t (λ u. with_ok (value s e m) line m (λ v. go (pick v) m u)) (λ u. with_ok-inside (value s e m) line m (λ v. go (pick v) m u) (λ v. ways (pick v) (reached v) m u))

    nth-reached : (ss : List (List ℕ)) → AllByRecursion (InReach reach) (map number_of ss) → (n : ℕ) → IsReached reach (nth_label ss n)
    nth-reached [] h n = tt
    nth-reached (s ∷ ss) h zero = h.0
    nth-reached (s ∷ ss) h (suc n) = nth-reached ss h.1 n

    count-reached : (ss : List (List ℕ)) → AllByRecursion (InReach reach) (map number_of ss) → (z : ℤ) → IsReached reach (by_count ss z)
    count-reached ss h (pos zero) = tt
    count-reached ss h (pos (suc n)) = nth-reached ss h n
    count-reached ss h (negsuc n) = tt

    sign-reached : (a b c : List ℕ) → AllByRecursion (InReach reach) (number_of a ∷ (number_of b ∷ (number_of c ∷ []))) → (z : ℤ) → IsReached reach (by_sign a b c z)
    sign-reached a b c h (pos zero) = h.1.0
    sign-reached a b c h (pos (suc n)) = h.1.1.0
    sign-reached a b c h (negsuc n) = h.0

    module _ (program : List ItemTree) where
      output-inside : (source : FormatTree) (list : ListItemsTree) (line : ℕ) (m : Map) (t : ℕ) (go : Follow) → FollowInside outer go → Inside outer (output program source list line m t go)
      output-inside source list line m t go follow =
          let records : List Value → Result (List ℕ) FaultKind = λ vs. edited (parts_for program source) vs in
          let items = listed (scope_of program) list m list_limit in
          turn-inside line m t (λ u. with_list items line (λ vs n. with_ok (records vs) line n (λ r. more (r ∷ []) 0 (go n u)))) (λ u. with_list-inside items line (λ vs n. with_ok (records vs) line n (λ r. more (r ∷ []) 0 (go n u))) (λ vs n. with_ok-inside (records vs) line n (λ r. more (r ∷ []) 0 (go n u)) (λ r. more-inside (r ∷ []) 0 (go n u) (follow n u))))

      assigned-inside : (s : Scope) (target : List ℕ) (es : ExprsTree) (e : ExprTree) (line : ℕ) (m : Map) (t : ℕ) (go : Follow) → FollowInside outer go → Inside outer (assigned s target es e line m t go)
      assigned-inside s target es e line m t go follow =
          let at = subscripts s (dimensions_in (s.arrays target)) es m in
          let right = value s e m in
          turn-inside line m t (λ u. with_ok at line m (λ ss. with_ok right line m (λ v. go (put m target ss (as_integer v)) u))) (λ u. with_ok-inside at line m (λ ss. with_ok right line m (λ v. go (put m target ss (as_integer v)) u)) (λ ss. with_ok-inside right line m (λ v. go (put m target ss (as_integer v)) u) (λ v. follow (put m target ss (as_integer v)) u)))

      unless_defined-inside : (o : Option Definition) (r passed : Ran) → Inside outer r → Inside outer passed → Inside outer (unless_defined o r passed)
      unless_defined-inside None r passed h k = h
      unless_defined-inside (Some d) r passed h k = k

      simple-inside : (s : ShapeTree) (line : ℕ) (m : Map) (t : ℕ) (go : Ways) → AllByRecursion (InReach reach) (transfers_of s) → WaysInside reach outer go → Inside outer (simple program s line m t go)
      simple-inside (assignment target es e) line m t go reached ways =
          unless_defined-inside (defined_by (scope_of program).arrays (assignment target es e)) (assigned (scope_of program) target es e line m t (go onward)) (go onward m t) (assigned-inside (scope_of program) target es e line m t (go onward) (ways onward tt)) (ways onward tt m t)
      simple-inside (writing control list) line m t go reached ways = output-inside control.source list line m t (go onward) (ways onward tt)
      simple-inside (printing source list) line m t go reached ways = output-inside source list line m t (go onward) (ways onward tt)
      simple-inside continuing line m t go reached ways = turn-inside line m t (λ u. go onward m u) (λ u. ways onward tt m u)
      simple-inside end_do line m t go reached ways = turn-inside line m t (λ u. go onward m u) (λ u. ways onward tt m u)
      simple-inside (going label) line m t go reached ways =
          turn-inside line m t (λ u. go (at_label (number_of label)) m u) (λ u. ways (at_label (number_of label)) reached.0 m u)
      simple-inside (computed_going labels comma e) line m t go reached ways =
          picked-inside (scope_of program) e (λ v. by_count labels (as_integer v)) line m t go (λ v. count-reached labels reached (as_integer v)) ways
      simple-inside (arithmetic_if e a b c) line m t go reached ways =
          picked-inside (scope_of program) e (λ v. by_sign a b c (as_integer v)) line m t go (λ v. sign-reached a b c reached (as_integer v)) ways
      simple-inside (stopping text) line m t go reached ways =
          turn-inside line m t (λ u. ended_by (stopped line) m) (λ u. stopped-inside line m)
      simple-inside s line m t go reached ways = ways onward tt m t

      step-inside : (s : ShapeTree) (line : ℕ) (m : Map) (t : ℕ) (go : Ways) → AllByRecursion (InReach reach) (transfers_of s) → WaysInside reach outer go → Inside outer (step program s line m t go)
      step-inside (logical_if e s) line m t go reached ways =
          let r = value (scope_of program) e m in
          turn-inside line m t (λ u. with_ok r line m (λ v. if as_logical v then simple program s line m u go else go onward m u)) (λ u. with_ok-inside r line m (λ v. if as_logical v then simple program s line m u go else go onward m u) (λ v. if-inside (as_logical v) (simple program s line m u go) (go onward m u) (simple-inside s line m u go reached ways) (ways onward tt m u)))
      step-inside s line m t go reached ways = simple-inside s line m t go reached ways

  fold_trips-inside : (f : Meaning) (line : ℕ) (variable : List ℕ) (by : ℤ) (range : Members) → ((m : Map) (t : ℕ) → Inside outer (f range range m t)) → (is : List ℤ) (m : Map) (t : ℕ) → Inside outer (fold_trips f line variable by range is m t)
  unfolding fold_trips
  fold_trips-inside f line variable by range inside [] m t = ended-inside m
  fold_trips-inside f line variable by range inside (i ∷ is) m t =
      goes_on-inside (f range range m t) t (λ n u. added line variable by n (λ k. fold_trips f line variable by range is k u)) (inside m t) (λ n u. with_ok-inside (integer (n variable [] +ℤ by)) line n (λ v. fold_trips f line variable by range is (put n variable [] (as_integer v)) u) (λ v. fold_trips-inside f line variable by range inside is (put n variable [] (as_integer v)) u))

-- ---- lists

module _ (r : Symbols) (items : List ItemTree) where
  -- a list that stands in others, executed from a member on
  abbrev AllInside : Meaning → Type 0
  AllInside f = (a : Around) (outer : List ItemTree) (all rest : Members) → a.items ≡ own_items all ++ outer → Nowhere r items a all → Nowhere r items a rest → (m : Map) (t : ℕ) → Inside outer (f all rest m t)

  kept_if : (a : Around) (b : Bool) (ms : Members) (o : Option Members) (rest : Members) → Nowhere r items a ms → (o ≡ Some rest → Nowhere r items a rest) → (if b then Some ms else o) ≡ Some rest → Nowhere r items a rest
  kept_if a true ms o rest kept other e = let same : ms ≡ rest = cc in subst (Nowhere r items a) same kept
  kept_if a false ms o rest kept other e = other e

  labelled-kept : (a : Around) (s : ℕ) (ms : Members) → Nowhere r items a ms → (rest : Members) → labelled s ms ≡ Some rest → Nowhere r items a rest
  unfolding labelled
  labelled-kept a s none kept rest e = absurd cc
  labelled-kept a s (plain x ms) kept rest e =
      let parts = plain_parts r items a x ms kept in
      kept_if a (has_label s x) (plain x ms) (labelled s ms) rest kept (λ k. labelled-kept a s ms parts.1 rest k) e
  labelled-kept a s (loop x range ms) kept rest e =
      let parts = loop_parts r items a x range ms kept in
      kept_if a (has_label s x) (loop x range ms) (labelled s ms) rest kept (λ k. labelled-kept a s ms parts.1 rest k) e
  labelled-kept a s (block arms x ms) kept rest e =
      let parts = block_parts r items a arms x ms kept in
      kept_if a (heads s arms) (block arms x ms) (if has_label s x then Some ms else labelled s ms) rest kept (λ k. kept_if a (has_label s x) ms (labelled s ms) rest parts.1 (λ q. labelled-kept a s ms parts.1 rest q) k) e

  module _ (f : Meaning) (inside : AllInside f) where
    looped-inside : (scope : Scope) (a : Around) (outer : List ItemTree) (x : ItemTree) (range : Members) (m : Map) (t : ℕ) (go : Ways) → Nowhere r items (in_range a x range) range → WaysInside a.items outer go → Inside outer (looped scope f x.shape x.line range m t go)
    unfolding looped
    looped-inside scope a outer x range m t go kept ways = by x.shape
      where
        trips-inside : (line : ℕ) (variable : List ℕ) (s : Span) (n : Map) (u : ℕ) → Inside a.items (trips_from f line variable range n u s)
        trips-inside line variable s n u =
            fold_trips-inside a.items f line variable s.step range (λ k q. inside (in_range a x range) a.items range range refl kept kept k q) (trips s.first s.last s.step) (put n variable [] s.first) u

        by : (s : ShapeTree) → Inside outer (looped scope f s x.line range m t go)
        by (doing label comma variable limits) =
            turn-inside outer x.line m t (λ u. with_ok (span_of scope limits m) x.line m (λ s. leads_on (trips_from f x.line variable range m u s) u go)) (λ u. with_ok-inside outer (span_of scope limits m) x.line m (λ s. leads_on (trips_from f x.line variable range m u s) u go) (λ s. leads_on-inside outer a.items (trips_from f x.line variable range m u s) u go (trips-inside x.line variable s m u) ways))
        by s = ways onward tt m t

    repeated-inside : (scope : Scope) (a : Around) (outer : List ItemTree) (e : ExprTree) (x : ItemTree) (range : Members) (again : Follow) → FollowInside outer again → (m : Map) (t : ℕ) (go : Ways) → Nowhere r items (in_range a x range) range → WaysInside a.items outer go → Inside outer (repeated scope f e x.line range again m t go)
    unfolding repeated
    repeated-inside scope a outer e x range again further m t go kept ways =
        let c = value scope e m in
        turn-inside outer x.line m t (λ u. with_ok c x.line m (λ v. if as_logical v then leads_on (f range range m u) u (ways_again again go) else go onward m u)) (λ u. with_ok-inside outer c x.line m (λ v. if as_logical v then leads_on (f range range m u) u (ways_again again go) else go onward m u) (λ v. if-inside outer (as_logical v) (leads_on (f range range m u) u (ways_again again go)) (go onward m u) (leads_on-inside outer a.items (f range range m u) u (ways_again again go) (inside (in_range a x range) a.items range range refl kept kept m u) ways_back) (ways onward tt m u)))
      where
        ways_back : WaysInside a.items outer (ways_again again go)
        ways_back onward reached = further
        ways_back (at_label s) reached = ways (at_label s) reached

    loop_by-inside : (o : Option ExprTree) (scope : Scope) (a : Around) (outer : List ItemTree) (x : ItemTree) (range : Members) (again : Follow) → FollowInside outer again → (m : Map) (t : ℕ) (go : Ways) → Nowhere r items (in_range a x range) range → WaysInside a.items outer go → Inside outer (loop_by o scope f x range again m t go)
    unfolding loop_by
    loop_by-inside None scope a outer x range again further m t go kept ways = looped-inside scope a outer x range m t go kept ways
    loop_by-inside (Some e) scope a outer x range again further m t go kept ways =
        repeated-inside scope a outer e x range again further m t go kept ways

    arms_from-inside : (scope : Scope) (a : Around) (outer : List ItemTree) (first : Bool) (arms : Arms) (m : Map) (t : ℕ) (go : Ways) → NowhereIn r items a arms → WaysInside a.items outer go → Inside outer (arms_from scope f first arms m t go)
    unfolding arms_from tested
    arms_from-inside scope a outer first no_arms m t go kept ways = ways onward tt m t
    arms_from-inside scope a outer first (arm x body arms) m t go kept ways =
        let c = holds scope (condition_of x.shape) m in
        let parts = arm_parts r items a x body arms kept in
        turn_if-inside outer _ x.line m t (λ u. with_ok c x.line m (λ b. if b then leads_on (f body body m u) u go else arms_from scope f false arms m u go)) (λ u. with_ok-inside outer c x.line m (λ b. if b then leads_on (f body body m u) u go else arms_from scope f false arms m u go) (λ b. if-inside outer b (leads_on (f body body m u) u go) (arms_from scope f false arms m u go) (leads_on-inside outer a.items (f body body m u) u go (inside (in_arm a body) a.items body body refl parts.0 parts.0 m u) ways) (arms_from-inside scope a outer false arms m u go parts.1 ways)))

    ways-inside : (a : Around) (outer : List ItemTree) (all : Members) (go : Follow) → a.items ≡ own_items all ++ outer → Nowhere r items a all → FollowInside outer go → WaysInside a.items outer (ways_in f all go)
    ways-inside a outer all go is kept follow onward reached n u = follow n u
    ways-inside a outer all go is kept follow (at_label s) reached n u = by (labelled s all) refl
      where
        by : (o : Option Members) → labelled s all ≡ o → Inside outer (goes_at f all o s n u)
        by (Some rest) e = inside a outer all rest is kept (labelled-kept a s all kept rest e) n u
        by None e = λ k h. let same : s ≡ k = cc in subst (InReach outer) same (around_it s all outer e (subst (λ xs. InReach xs s) is reached))

  pass_over-inside : (program : List ItemTree) (f : Meaning) → AllInside f → AllInside (pass_over program f)
  unfolding pass_over
  pass_over-inside program f inside a outer all none is kept rest m t = ended-inside outer m
  pass_over-inside program f inside a outer all (plain x ms) is kept rest m t =
      let parts = plain_parts r items a x ms rest in
      step-inside outer a.items program x.shape x.line m t _ parts.0 (ways-inside f inside a outer all (λ n u. pass_over program f all ms n u) is kept (λ n u. pass_over-inside program f inside a outer all ms is kept parts.1 n u))
  pass_over-inside program f inside a outer all (loop x range ms) is kept rest m t =
      let parts = loop_parts r items a x range ms rest in
      loop_by-inside f inside (while_of x.shape) (scope_of program) a outer x range (f all (loop x range ms)) (λ n u. inside a outer all (loop x range ms) is kept rest n u) m t _ parts.0 (ways-inside f inside a outer all (λ n u. pass_over program f all ms n u) is kept (λ n u. pass_over-inside program f inside a outer all ms is kept parts.1 n u))
  pass_over-inside program f inside a outer all (block arms x ms) is kept rest m t =
      let parts = block_parts r items a arms x ms rest in
      arms_from-inside f inside (scope_of program) a outer true arms m t _ parts.0 (ways-inside f inside a outer all (λ n u. pass_over program f all ms n u) is kept (λ n u. pass_over-inside program f inside a outer all ms is kept parts.1 n u))

  fuelled-inside : (program : List ItemTree) (n : ℕ) → AllInside (fuelled program n)
  unfolding fuelled
  fuelled-inside program zero a outer all rest is kept further m t = ended-inside outer m
  fuelled-inside program (suc n) a outer all rest is kept further m t =
      pass_over-inside program (fuelled program n) (fuelled-inside program n) a outer all rest is kept further m t

  exec-inside : (program : List ItemTree) → AllInside (exec program)
  unfolding exec
  exec-inside program a outer all rest is kept further m t = fuelled-inside program (suc t) a outer all rest is kept further m t

nowhere : (t u : Nested) → checked t ≡ Ok u → Nowhere (symbols_of (flatten t)) (flatten t) (in_body t.body) t.body
nowhere t u accepted =
    let r = symbols_of (flatten t) in
    let lists = (none_of_both (broken_items r (flatten t)) (broken_lists r t) (nothing_broken t u accepted)).1 in
    (none_of_both (told_in (breaks_transfers r (flatten t)) K2 (in_body t.body) t.body) (told_in (breaks_loops r) K9 (in_body t.body) t.body) lists).0

pub each_arrives : (t u : Nested) → checked t ≡ Ok u → AllByRecursion (λ x. AllByRecursion (λ s. list_any (has_label s) (flatten t) ≡ true) (transfers_of x.shape)) (flatten t)
each_arrives t u accepted = arrive (symbols_of (flatten t)) (flatten t) (in_body t.body) t.body (nowhere t u accepted)

pub stays : (t u : Nested) → checked t ≡ Ok u → (m : Map) (n s : ℕ) → (exec (flatten t) t.body t.body m n).outcome ≡ jump s → ⊥
stays t u accepted m n s h =
    let kept = nowhere t u accepted in
    false≢true (exec-inside (symbols_of (flatten t)) (flatten t) (flatten t) (in_body t.body) [] t.body t.body (sym (append-nil (own_items t.body))) kept kept m n s h)

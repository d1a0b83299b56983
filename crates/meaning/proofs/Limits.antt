-- Turns: no more are used than are given; a run that didn't meet the limit is the same with more of them, and with fewer where
-- it used no more than those.
use Rattle.std.proofs.Common.{◌≡◌, ℕ, zero, suc, ℤ, ◌+◌, ◌-◌, ◌+ℤ◌, ◌≤◌, Bool, true, false, if◌then◌else◌, Option, Some, None, List, [], ◌∷◌, ◌++◌, Result, Ok, Err, refl, sym, ap, ◌∙◌, arith}
use mathlib.Core.Path.{fun_ext}
use Rattle.meaning.specs.declared.ending.FaultKind.{FaultKind}
use Rattle.meaning.specs.declared.ending.Value.{Value}
use Rattle.meaning.specs.Characters.{number_of}
use Rattle.meaning.specs.Syntax.{ExprTree, ExprsTree, ShapeTree, ListItemsTree, FormatTree, assignment, writing, printing, doing, continuing, going, computed_going, arithmetic_if, logical_if, stopping, end_do, ItemTree}
use Rattle.meaning.specs.Scopes.{scope_of, Definition, defined_by}
use Rattle.meaning.specs.Lists.{Listed, listed, list_limit}
use Rattle.meaning.specs.Trees.{Members, none, plain, loop, block, Arms, no_arms, arm}
use Rattle.meaning.specs.Trips.{span_of, trips}
use Rattle.meaning.specs.Maps.{Map, put}
use Rattle.meaning.specs.Values.{Scope, value, subscripts, dimensions_in, as_integer, as_logical, integer}
use Rattle.meaning.specs.Records.{edited}
use Rattle.meaning.specs.Execution.{Outcome, normal, jump, stopped, fault, Ran, more, ended, ended_by, turn, with_ok, parts_for, with_list, output, assigned, unless_defined, picked_by, by_count, by_sign, Meaning, Follow, Next, onward, at_label, Ways, goes_on, goes_on_by, leads_on, leads_on_by, simple, step, added, fold_trips, trips_from, looped, while_of, ways_again, repeated, loop_by, condition_of, holds, turn_if, tested, arms_from, labelled, goes_at, ways_in, pass_over, fuelled, exec}
use Rattle.meaning.specs.Turns.{met_limit, Bounded}
use Rattle.meaning.proofs.Running.{more-more, more-none, exec-fuelled}

abbrev pub BoundedFollow : Follow → Type 0
BoundedFollow go = (n : Map) → Bounded (λ t. go n t)

abbrev pub BoundedWays : Ways → Type 0
BoundedWays go = (next : Next) → BoundedFollow (go next)

abbrev pub BoundedMeaning : Meaning → Type 0
BoundedMeaning f = (all rest : Members) (m : Map) → Bounded (λ t. f all rest m t)

ended_by-bounded : (o : Outcome) (m : Map) → Bounded (λ t. ended_by o m)
ended_by-bounded o m = record {
  spares = λ t. omega arith;
  steady = λ t u le h. refl;
  frugal = λ t u le used h. refl;
}

if-bounded : (b : Bool) (x y : ℕ → Ran) → Bounded x → Bounded y → Bounded (λ t. if b then x t else y t)
if-bounded true x y h k = h
if-bounded false x y h k = k

with_ok-bounded : {A : Type 0} (r : Result A FaultKind) (line : ℕ) (m : Map) (go : A → ℕ → Ran) → ((x : A) → Bounded (go x)) → Bounded (λ t. with_ok r line m (λ x. go x t))
unfolding with_ok
with_ok-bounded (Ok x) line m go bounded = bounded x
with_ok-bounded (Err k) line m go bounded = ended_by-bounded (fault k line) m

with_list-bounded : (r : Listed) (line : ℕ) (go : List Value → Map → ℕ → Ran) → ((vs : List Value) (n : Map) → Bounded (go vs n)) → Bounded (λ t. with_list r line (λ vs n. go vs n t))
unfolding with_list
with_list-bounded (Ok l) line go bounded = bounded l.values l.map
with_list-bounded (Err f) line go bounded = ended_by-bounded (fault f.kind line) f.map

-- ---- behind pieces and turns

more-outcome : (ps : List (List ℕ)) (n : ℕ) (r : Ran) → (more ps n r).outcome ≡ r.outcome
unfolding more
more-outcome ps n r = refl

more-used : (ps : List (List ℕ)) (n : ℕ) (r : Ran) → (more ps n r).used ≡ n + r.used
unfolding more
more-used ps n r = refl

more-unmet : (ps : List (List ℕ)) (n : ℕ) (r : Ran) → met_limit (more ps n r).outcome ≡ false → met_limit r.outcome ≡ false
more-unmet ps n r h = sym (ap met_limit (more-outcome ps n r)) ∙ h

module _ (ps : List (List ℕ)) (n : ℕ) (go : ℕ → Ran) (bounded : Bounded go) where
  more-spares : (t : ℕ) → n ≤ t → (more ps n (go (t - n))).used ≤ t
  more-spares t within = let e = more-used ps n (go (t - n)) in let h = bounded.spares (t - n) in omega arith

  more-steady : (t u : ℕ) → t ≤ u → met_limit (more ps n (go (t - n))).outcome ≡ false → more ps n (go (u - n)) ≡ more ps n (go (t - n))
  more-steady t u le h =
      ap (λ r. more ps n r) (bounded.steady (t - n) (u - n) (omega arith) (more-unmet ps n (go (t - n)) h))

  more-frugal : (t u : ℕ) → t ≤ u → n ≤ t → (more ps n (go (u - n))).used ≤ t → met_limit (more ps n (go (u - n))).outcome ≡ false → more ps n (go (t - n)) ≡ more ps n (go (u - n))
  more-frugal t u le within used h =
      let e = more-used ps n (go (u - n)) in
      ap (λ r. more ps n r) (bounded.frugal (t - n) (u - n) (omega arith) (omega arith) (more-unmet ps n (go (u - n)) h))

less-none : (t : ℕ) → t ≡ t - 0
less-none t = omega arith

piece-bounded : (ps : List (List ℕ)) (go : ℕ → Ran) → Bounded go → Bounded (λ t. more ps 0 (go t))
piece-bounded ps go bounded = record {
  spares = λ t. (let e = more-used ps 0 (go t) in let h = bounded.spares t in omega arith);
  steady = λ t u le h. ap (λ r. more ps 0 r) (bounded.steady t u le (more-unmet ps 0 (go t) h));
  frugal = λ t u le used h. (let e = more-used ps 0 (go u) in ap (λ r. more ps 0 r) (bounded.frugal t u le (omega arith) (more-unmet ps 0 (go u) h)));
}

module _ (line : ℕ) (m : Map) (go : ℕ → Ran) (bounded : Bounded go) where
  turn-spares : (t : ℕ) → (turn line m t go).used ≤ t
  unfolding turn
  turn-spares zero = omega arith
  turn-spares (suc t) = let e = more-used [] 1 (go t) in let h = bounded.spares t in omega arith

  turn-steady : (t u : ℕ) → t ≤ u → met_limit (turn line m t go).outcome ≡ false → turn line m u go ≡ turn line m t go
  unfolding turn
  turn-steady zero u le h = absurd cc
  turn-steady (suc t) zero le h = absurd (omega arith)
  turn-steady (suc t) (suc u) le h = ap (λ r. more [] 1 r) (bounded.steady t u (omega arith) (more-unmet [] 1 (go t) h))

  turn-frugal : (t u : ℕ) → t ≤ u → (turn line m u go).used ≤ t → met_limit (turn line m u go).outcome ≡ false → turn line m t go ≡ turn line m u go
  unfolding turn
  turn-frugal t zero le used h = ap (λ n. turn line m n go) (none_below t le)
    where
      none_below : (t : ℕ) → t ≤ 0 → t ≡ 0
      none_below t le = omega arith
  turn-frugal zero (suc u) le used h = absurd (let e = more-used [] 1 (go u) in omega arith)
  turn-frugal (suc t) (suc u) le used h =
      let e = more-used [] 1 (go u) in
      ap (λ r. more [] 1 r) (bounded.frugal t u (omega arith) (omega arith) (more-unmet [] 1 (go u) h))

  turn-bounded : Bounded (λ t. turn line m t go)
  turn-bounded = record { spares = turn-spares; steady = turn-steady; frugal = turn-frugal }

turn_if-bounded : (b : Bool) (line : ℕ) (m : Map) (go : ℕ → Ran) → Bounded go → Bounded (λ t. turn_if b line m t go)
turn_if-bounded true line m go bounded = turn-bounded line m go bounded
turn_if-bounded false line m go bounded = bounded

-- ---- behind a run

-- the run used no more than what goes on behind it, and met the limit only where this did
abbrev Before : Ran → Ran → Type 0
Before r whole = met_limit whole.outcome ≡ false → (r.used ≤ whole.used) × (met_limit r.outcome ≡ false)

more-before : (r next : Ran) → met_limit r.outcome ≡ false → Before r (more r.pieces r.used next)
more-before r next h e = (let k = more-used r.pieces r.used next in omega arith, h)

module _ (go : Follow) (bounded : BoundedFollow go) where
  goes_on_by-spares : (o : Outcome) (r : Ran) (t : ℕ) → r.used ≤ t → (goes_on_by o r t go).used ≤ t
  goes_on_by-spares normal r t le = more-spares r.pieces r.used (λ k. go r.map k) (bounded r.map) t le
  goes_on_by-spares (jump s) r t le = le
  goes_on_by-spares (stopped line) r t le = le
  goes_on_by-spares (fault k line) r t le = le

  goes_on_by-steady : (o : Outcome) (r : Ran) (t u : ℕ) → t ≤ u → met_limit (goes_on_by o r t go).outcome ≡ false → goes_on_by o r u go ≡ goes_on_by o r t go
  goes_on_by-steady normal r t u le h = more-steady r.pieces r.used (λ k. go r.map k) (bounded r.map) t u le h
  goes_on_by-steady (jump s) r t u le h = refl
  goes_on_by-steady (stopped line) r t u le h = refl
  goes_on_by-steady (fault k line) r t u le h = refl

  goes_on_by-frugal : (o : Outcome) (r : Ran) (t u : ℕ) → t ≤ u → r.used ≤ t → (goes_on_by o r u go).used ≤ t → met_limit (goes_on_by o r u go).outcome ≡ false → goes_on_by o r t go ≡ goes_on_by o r u go
  goes_on_by-frugal normal r t u le within used h =
      more-frugal r.pieces r.used (λ k. go r.map k) (bounded r.map) t u le within used h
  goes_on_by-frugal (jump s) r t u le within used h = refl
  goes_on_by-frugal (stopped line) r t u le within used h = refl
  goes_on_by-frugal (fault k line) r t u le within used h = refl

  goes_on_by-before : (o : Outcome) (r : Ran) (t : ℕ) → r.outcome ≡ o → Before r (goes_on_by o r t go)
  goes_on_by-before normal r t e = more-before r (go r.map (t - r.used)) (ap met_limit e)
  goes_on_by-before (jump s) r t e = λ h. (omega arith, h)
  goes_on_by-before (stopped line) r t e = λ h. (omega arith, h)
  goes_on_by-before (fault k line) r t e = λ h. (omega arith, h)

  goes_on-before : (r : Ran) (t : ℕ) → Before r (goes_on r t go)
  unfolding goes_on
  goes_on-before r t = goes_on_by-before r.outcome r t refl

  goes_on-bounded : (run : ℕ → Ran) → Bounded run → Bounded (λ t. goes_on (run t) t go)
  unfolding goes_on
  goes_on-bounded run first = record {
    spares = λ t. goes_on_by-spares (run t).outcome (run t) t (first.spares t);
    steady = λ t u le h. ap (λ r. goes_on r u go) (first.steady t u le (goes_on-before (run t) t h).1) ∙ goes_on_by-steady (run t).outcome (run t) t u le h;
    frugal = λ t u le used h. (let before = goes_on-before (run u) u h in let within : (run u).used ≤ t = (let k = before.0 in omega arith) in ap (λ r. goes_on r t go) (first.frugal t u le within before.1) ∙ goes_on_by-frugal (run u).outcome (run u) t u le within used h);
  }

module _ (go : Ways) (bounded : BoundedWays go) where
  leads_on_by-spares : (o : Outcome) (r : Ran) (t : ℕ) → r.used ≤ t → (leads_on_by o r t go).used ≤ t
  leads_on_by-spares normal r t le = more-spares r.pieces r.used (λ k. go onward r.map k) (bounded onward r.map) t le
  leads_on_by-spares (jump s) r t le = more-spares r.pieces r.used (λ k. go (at_label s) r.map k) (bounded (at_label s) r.map) t le
  leads_on_by-spares (stopped line) r t le = le
  leads_on_by-spares (fault k line) r t le = le

  leads_on_by-steady : (o : Outcome) (r : Ran) (t u : ℕ) → t ≤ u → met_limit (leads_on_by o r t go).outcome ≡ false → leads_on_by o r u go ≡ leads_on_by o r t go
  leads_on_by-steady normal r t u le h = more-steady r.pieces r.used (λ k. go onward r.map k) (bounded onward r.map) t u le h
  leads_on_by-steady (jump s) r t u le h =
      more-steady r.pieces r.used (λ k. go (at_label s) r.map k) (bounded (at_label s) r.map) t u le h
  leads_on_by-steady (stopped line) r t u le h = refl
  leads_on_by-steady (fault k line) r t u le h = refl

  leads_on_by-frugal : (o : Outcome) (r : Ran) (t u : ℕ) → t ≤ u → r.used ≤ t → (leads_on_by o r u go).used ≤ t → met_limit (leads_on_by o r u go).outcome ≡ false → leads_on_by o r t go ≡ leads_on_by o r u go
  leads_on_by-frugal normal r t u le within used h =
      more-frugal r.pieces r.used (λ k. go onward r.map k) (bounded onward r.map) t u le within used h
  leads_on_by-frugal (jump s) r t u le within used h =
      more-frugal r.pieces r.used (λ k. go (at_label s) r.map k) (bounded (at_label s) r.map) t u le within used h
  leads_on_by-frugal (stopped line) r t u le within used h = refl
  leads_on_by-frugal (fault k line) r t u le within used h = refl

  leads_on_by-before : (o : Outcome) (r : Ran) (t : ℕ) → r.outcome ≡ o → Before r (leads_on_by o r t go)
  leads_on_by-before normal r t e = more-before r (go onward r.map (t - r.used)) (ap met_limit e)
  leads_on_by-before (jump s) r t e = more-before r (go (at_label s) r.map (t - r.used)) (ap met_limit e)
  leads_on_by-before (stopped line) r t e = λ h. (omega arith, h)
  leads_on_by-before (fault k line) r t e = λ h. (omega arith, h)

  leads_on-before : (r : Ran) (t : ℕ) → Before r (leads_on r t go)
  unfolding leads_on
  leads_on-before r t = leads_on_by-before r.outcome r t refl

  leads_on-bounded : (run : ℕ → Ran) → Bounded run → Bounded (λ t. leads_on (run t) t go)
  unfolding leads_on
  leads_on-bounded run first = record {
    spares = λ t. leads_on_by-spares (run t).outcome (run t) t (first.spares t);
    steady = λ t u le h. ap (λ r. leads_on r u go) (first.steady t u le (leads_on-before (run t) t h).1) ∙ leads_on_by-steady (run t).outcome (run t) t u le h;
    frugal = λ t u le used h. (let before = leads_on-before (run u) u h in let within : (run u).used ≤ t = (let k = before.0 in omega arith) in ap (λ r. leads_on r t go) (first.frugal t u le within before.1) ∙ leads_on_by-frugal (run u).outcome (run u) t u le within used h);
  }

-- ---- statements

module _ (program : List ItemTree) where
  output-bounded : (source : FormatTree) (list : ListItemsTree) (line : ℕ) (m : Map) (go : Follow) → BoundedFollow go → Bounded (λ t. output program source list line m t go)
  output-bounded source list line m go h =
      let records : List Value → Result (List ℕ) FaultKind = λ vs. edited (parts_for program source) vs in
      let items = listed (scope_of program) list m list_limit in
      turn-bounded line m (λ u. with_list items line (λ vs n. with_ok (records vs) line n (λ r. more (r ∷ []) 0 (go n u)))) (with_list-bounded items line (λ vs n u. with_ok (records vs) line n (λ r. more (r ∷ []) 0 (go n u))) (λ vs n. with_ok-bounded (records vs) line n (λ r u. more (r ∷ []) 0 (go n u)) (λ r. piece-bounded (r ∷ []) (λ u. go n u) (h n))))

  assigned-bounded : (s : Scope) (target : List ℕ) (es : ExprsTree) (e : ExprTree) (line : ℕ) (m : Map) (go : Follow) → BoundedFollow go → Bounded (λ t. assigned s target es e line m t go)
  assigned-bounded s target es e line m go h =
      let here = subscripts s (dimensions_in (s.arrays target)) es m in
      let right = value s e m in
      turn-bounded line m (λ u. with_ok here line m (λ ss. with_ok right line m (λ v. go (put m target ss (as_integer v)) u))) (with_ok-bounded here line m (λ ss u. with_ok right line m (λ v. go (put m target ss (as_integer v)) u)) (λ ss. with_ok-bounded right line m (λ v u. go (put m target ss (as_integer v)) u) (λ v. h (put m target ss (as_integer v)))))

  unless_defined-bounded : (o : Option Definition) (run passed : ℕ → Ran) → Bounded run → Bounded passed → Bounded (λ t. unless_defined o (run t) (passed t))
  unless_defined-bounded None run passed bounded over = bounded
  unless_defined-bounded (Some d) run passed bounded over = over

  picked-bounded : (s : Scope) (e : ExprTree) (pick : Value → Next) (line : ℕ) (m : Map) (go : Ways) → BoundedWays go → Bounded (λ t. picked_by s e pick line m t go)
  picked-bounded s e pick line m go h =
      turn-bounded line m (λ u. with_ok (value s e m) line m (λ v. go (pick v) m u)) (with_ok-bounded (value s e m) line m (λ v u. go (pick v) m u) (λ v. h (pick v) m))

  simple-bounded : (s : ShapeTree) (line : ℕ) (m : Map) (go : Ways) → BoundedWays go → Bounded (λ t. simple program s line m t go)
  simple-bounded (assignment target es e) line m go h =
      unless_defined-bounded (defined_by (scope_of program).arrays (assignment target es e)) (λ t. assigned (scope_of program) target es e line m t (go onward)) (λ t. go onward m t) (assigned-bounded (scope_of program) target es e line m (go onward) (h onward)) (h onward m)
  simple-bounded (writing control list) line m go h = output-bounded control.source list line m (go onward) (h onward)
  simple-bounded (printing source list) line m go h = output-bounded source list line m (go onward) (h onward)
  simple-bounded continuing line m go h = turn-bounded line m (λ u. go onward m u) (h onward m)
  simple-bounded end_do line m go h = turn-bounded line m (λ u. go onward m u) (h onward m)
  simple-bounded (going label) line m go h = turn-bounded line m (λ u. go (at_label (number_of label)) m u) (h (at_label (number_of label)) m)
  simple-bounded (computed_going labels comma e) line m go h =
      picked-bounded (scope_of program) e (λ v. by_count labels (as_integer v)) line m go h
  simple-bounded (arithmetic_if e a b c) line m go h = picked-bounded (scope_of program) e (λ v. by_sign a b c (as_integer v)) line m go h
  simple-bounded (stopping text) line m go h = turn-bounded line m (λ u. ended_by (stopped line) m) (ended_by-bounded (stopped line) m)
  simple-bounded s line m go h = h onward m

  step-bounded : (s : ShapeTree) (line : ℕ) (m : Map) (go : Ways) → BoundedWays go → Bounded (λ t. step program s line m t go)
  step-bounded (logical_if e s) line m go h =
      let r = value (scope_of program) e m in
      turn-bounded line m (λ u. with_ok r line m (λ v. if as_logical v then simple program s line m u go else go onward m u)) (with_ok-bounded r line m (λ v u. if as_logical v then simple program s line m u go else go onward m u) (λ v. if-bounded (as_logical v) (λ u. simple program s line m u go) (λ u. go onward m u) (simple-bounded s line m go h) (h onward m)))
  step-bounded s line m go h = simple-bounded s line m go h

-- ---- DO statements and block IFs

pub fold_trips-bounded : (f : Meaning) (line : ℕ) (variable : List ℕ) (by : ℤ) (range : Members) → BoundedMeaning f → (is : List ℤ) (m : Map) → Bounded (λ t. fold_trips f line variable by range is m t)
unfolding fold_trips
fold_trips-bounded f line variable by range bounded [] m = ended_by-bounded normal m
fold_trips-bounded f line variable by range bounded (i ∷ is) m =
    goes_on-bounded (λ n u. added line variable by n (λ k. fold_trips f line variable by range is k u)) (λ n. with_ok-bounded (integer (n variable [] +ℤ by)) line n (λ v u. fold_trips f line variable by range is (put n variable [] (as_integer v)) u) (λ v. fold_trips-bounded f line variable by range bounded is (put n variable [] (as_integer v)))) (λ t. f range range m t) (bounded range range m)

module _ (scope : Scope) (f : Meaning) (bounded : BoundedMeaning f) where
  looped-bounded : (s : ShapeTree) (line : ℕ) (range : Members) (m : Map) (go : Ways) → BoundedWays go → Bounded (λ t. looped scope f s line range m t go)
  unfolding looped
  looped-bounded (doing label comma variable limits) line range m go h =
      turn-bounded line m (λ u. with_ok (span_of scope limits m) line m (λ s. leads_on (trips_from f line variable range m u s) u go)) (with_ok-bounded (span_of scope limits m) line m (λ s u. leads_on (trips_from f line variable range m u s) u go) (λ s. leads_on-bounded go h (λ u. trips_from f line variable range m u s) (fold_trips-bounded f line variable s.step range bounded (trips s.first s.last s.step) (put m variable [] s.first))))
  looped-bounded s line range m go h = h onward m

  again-bounded : (again : Follow) (go : Ways) → BoundedFollow again → BoundedWays go → BoundedWays (ways_again again go)
  again-bounded again go further h onward n = further n
  again-bounded again go further h (at_label s) n = h (at_label s) n

  repeated-bounded : (e : ExprTree) (line : ℕ) (range : Members) (again : Follow) → BoundedFollow again → (m : Map) (go : Ways) → BoundedWays go → Bounded (λ t. repeated scope f e line range again m t go)
  unfolding repeated
  repeated-bounded e line range again further m go h =
      let r = value scope e m in
      turn-bounded line m (λ u. with_ok r line m (λ v. if as_logical v then leads_on (f range range m u) u (ways_again again go) else go onward m u)) (with_ok-bounded r line m (λ v u. if as_logical v then leads_on (f range range m u) u (ways_again again go) else go onward m u) (λ v. if-bounded (as_logical v) (λ u. leads_on (f range range m u) u (ways_again again go)) (λ u. go onward m u) (leads_on-bounded (ways_again again go) (again-bounded again go further h) (λ u. f range range m u) (bounded range range m)) (h onward m)))

  loop_by-bounded : (o : Option ExprTree) (x : ItemTree) (range : Members) (again : Follow) → BoundedFollow again → (m : Map) (go : Ways) → BoundedWays go → Bounded (λ t. loop_by o scope f x range again m t go)
  unfolding loop_by
  loop_by-bounded None x range again further m go h = looped-bounded x.shape x.line range m go h
  loop_by-bounded (Some e) x range again further m go h = repeated-bounded e x.line range again further m go h

  arms_from-bounded : (first : Bool) (arms : Arms) (m : Map) (go : Ways) → BoundedWays go → Bounded (λ t. arms_from scope f first arms m t go)
  unfolding arms_from tested
  arms_from-bounded first no_arms m go h = h onward m
  arms_from-bounded first (arm x body arms) m go h =
      let c = holds scope (condition_of x.shape) m in
      turn_if-bounded _ x.line m (λ u. with_ok c x.line m (λ b. if b then leads_on (f body body m u) u go else arms_from scope f false arms m u go)) (with_ok-bounded c x.line m (λ b u. if b then leads_on (f body body m u) u go else arms_from scope f false arms m u go) (λ b. if-bounded b (λ u. leads_on (f body body m u) u go) (λ u. arms_from scope f false arms m u go) (leads_on-bounded go h (λ u. f body body m u) (bounded body body m)) (arms_from-bounded false arms m go h)))

  -- ---- lists

  goes_at-bounded : (all : Members) (rest : Option Members) (s : ℕ) → BoundedFollow (goes_at f all rest s)
  goes_at-bounded all (Some rest) s n = bounded all rest n
  goes_at-bounded all None s n = ended_by-bounded (jump s) n

  ways-bounded : (all : Members) (go : Follow) → BoundedFollow go → BoundedWays (ways_in f all go)
  ways-bounded all go h onward n = h n
  ways-bounded all go h (at_label s) n = goes_at-bounded all (labelled s all) s n

pass_over-bounded : (program : List ItemTree) (f : Meaning) → BoundedMeaning f → BoundedMeaning (pass_over program f)
unfolding pass_over
pass_over-bounded program f bounded all none m = ended_by-bounded normal m
pass_over-bounded program f bounded all (plain x ms) m =
    step-bounded program x.shape x.line m _ (ways-bounded (scope_of program) f bounded all (λ n u. pass_over program f all ms n u) (λ n. pass_over-bounded program f bounded all ms n))
pass_over-bounded program f bounded all (loop x range ms) m =
    loop_by-bounded (scope_of program) f bounded (while_of x.shape) x range (f all (loop x range ms)) (λ n. bounded all (loop x range ms) n) m _ (ways-bounded (scope_of program) f bounded all (λ n u. pass_over program f all ms n u) (λ n. pass_over-bounded program f bounded all ms n))
pass_over-bounded program f bounded all (block arms x ms) m =
    arms_from-bounded (scope_of program) f bounded true arms m _ (ways-bounded (scope_of program) f bounded all (λ n u. pass_over program f all ms n u) (λ n. pass_over-bounded program f bounded all ms n))

fuelled-bounded : (program : List ItemTree) (n : ℕ) → BoundedMeaning (fuelled program n)
unfolding fuelled
fuelled-bounded program zero all rest m = ended_by-bounded normal m
fuelled-bounded program (suc n) all rest m = pass_over-bounded program (fuelled program n) (fuelled-bounded program n) all rest m

module _ (program : List ItemTree) (all rest : Members) (m : Map) where
  exec-spares : (t : ℕ) → (exec program all rest m t).used ≤ t
  unfolding exec
  exec-spares t = (fuelled-bounded program (suc t) all rest m).spares t

  -- both runs with the greater fuel
  exec-steady : (t u : ℕ) → t ≤ u → met_limit (exec program all rest m t).outcome ≡ false → exec program all rest m u ≡ exec program all rest m t
  unfolding exec
  exec-steady t u le h =
      let e = exec-fuelled program (suc u) all rest m t (omega arith) in
      (fuelled-bounded program (suc u) all rest m).steady t u le (ap (λ (r : Ran). met_limit r.outcome) e ∙ h) ∙ e

  exec-frugal : (t u : ℕ) → t ≤ u → (exec program all rest m u).used ≤ t → met_limit (exec program all rest m u).outcome ≡ false → exec program all rest m t ≡ exec program all rest m u
  unfolding exec
  exec-frugal t u le used h =
      sym (exec-fuelled program (suc u) all rest m t (omega arith)) ∙ (fuelled-bounded program (suc u) all rest m).frugal t u le used h

pub exec-bounded : (program : List ItemTree) → BoundedMeaning (exec program)
exec-bounded program all rest m =
    record { spares = exec-spares program all rest m; steady = exec-steady program all rest m; frugal = exec-frugal program all rest m }

-- ---- trips one after another

sub-add : (t a b : ℕ) → t - (a + b) ≡ (t - a) - b
sub-add t a b = omega arith

goes_on_by-more : (o : Outcome) (ps : List (List ℕ)) (n : ℕ) (r : Ran) (t : ℕ) (go : Follow) → goes_on_by o (more ps n r) t go ≡ more ps n (goes_on_by o r (t - n) go)
unfolding more
goes_on_by-more normal ps n r t go =
    ap (λ u. more (ps ++ r.pieces) (n + r.used) (go r.map u)) (sub-add t n r.used) ∙ sym (more-more ps r.pieces n r.used (go r.map ((t - n) - r.used)))
goes_on_by-more (jump s) ps n r t go = refl
goes_on_by-more (stopped line) ps n r t go = refl
goes_on_by-more (fault k line) ps n r t go = refl

goes_on-more : (ps : List (List ℕ)) (n : ℕ) (r : Ran) (t : ℕ) (go : Follow) → goes_on (more ps n r) t go ≡ more ps n (goes_on r (t - n) go)
unfolding goes_on
goes_on-more ps n r t go = ap (λ o. goes_on_by o (more ps n r) t go) (more-outcome ps n r) ∙ goes_on_by-more r.outcome ps n r t go

goes_on_by-goes_on : (o : Outcome) (r : Ran) (t : ℕ) (go on : Follow) → r.outcome ≡ o → goes_on (goes_on_by o r t go) t on ≡ goes_on_by o r t (λ n u. goes_on (go n u) u on)
unfolding goes_on
goes_on_by-goes_on normal r t go on e = goes_on-more r.pieces r.used (go r.map (t - r.used)) t on
goes_on_by-goes_on (jump s) r t go on e = ap (λ o. goes_on_by o r t on) e
goes_on_by-goes_on (stopped line) r t go on e = ap (λ o. goes_on_by o r t on) e
goes_on_by-goes_on (fault k line) r t go on e = ap (λ o. goes_on_by o r t on) e

goes_on-goes_on : (r : Ran) (t : ℕ) (go on : Follow) → goes_on (goes_on r t go) t on ≡ goes_on r t (λ n u. goes_on (go n u) u on)
unfolding goes_on
goes_on-goes_on r t go on = goes_on_by-goes_on r.outcome r t go on refl

with_ok-goes_on : {A : Type 0} (r : Result A FaultKind) (line : ℕ) (m : Map) (t : ℕ) (go : A → Ran) (on : Follow) → goes_on (with_ok r line m go) t on ≡ with_ok r line m (λ x. goes_on (go x) t on)
unfolding with_ok goes_on
with_ok-goes_on (Ok x) line m t go on = refl
with_ok-goes_on (Err k) line m t go on = refl

goes_on-ended : (m : Map) (t : ℕ) (go : Follow) → go m t ≡ goes_on (ended m) t go
unfolding goes_on
goes_on-ended m t go = more-none (go m t) ∙ ap (λ u. more [] 0 (go m u)) (less-none t)

module _ (f : Meaning) (line : ℕ) (variable : List ℕ) (by : ℤ) (range : Members) (js : List ℤ) where
  abbrev then_others : Follow
  then_others n u = fold_trips f line variable by range js n u

  pub fold_trips-append : (is : List ℤ) (m : Map) (t : ℕ) → fold_trips f line variable by range (is ++ js) m t ≡ goes_on (fold_trips f line variable by range is m t) t then_others
  unfolding fold_trips
  fold_trips-append [] m t = goes_on-ended m t then_others
  fold_trips-append (i ∷ is) m t =
      ap (λ go. goes_on (f range range m t) t go) (fun_ext (λ n. fun_ext (λ u. ap (λ go. with_ok (integer (n variable [] +ℤ by)) line n go) (fun_ext (λ v. fold_trips-append is (put n variable [] (as_integer v)) u)) ∙ sym (with_ok-goes_on (integer (n variable [] +ℤ by)) line n u (λ v. fold_trips f line variable by range is (put n variable [] (as_integer v)) u) then_others)))) ∙ sym (goes_on-goes_on (f range range m t) t (λ n u. added line variable by n (λ k. fold_trips f line variable by range is k u)) then_others)

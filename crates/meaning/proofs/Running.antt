-- Laws of execution: it is its own pass, it uses no more turns than it is given, and more turns change nothing in a run
-- that didn't meet the limit.
use Rattle.std.proofs.Common.{◌≡◌, ℕ, zero, suc, ℤ, ◌+◌, ◌-◌, ◌+ℤ◌, ◌<◌, ◌≤◌, Bool, true, false, if◌then◌else◌, Option, Some, None, List, [], ◌∷◌, ◌++◌, Result, Ok, Err, refl, sym, ap, ◌∙◌, arith, append_assoc}
use mathlib.Core.Path.{fun_ext}
use Rattle.meaning.specs.declared.ending.FaultKind.{FaultKind}
use Rattle.meaning.specs.declared.ending.Value.{Value}
use Rattle.meaning.specs.Characters.{number_of}
use Rattle.meaning.specs.Syntax.{ExprTree, ExprsTree, ShapeTree, ListItemsTree, FormatTree, assignment, writing, printing, doing, continuing, going, computed_going, arithmetic_if, logical_if, stopping, end_do, ItemTree}
use Rattle.meaning.specs.Scopes.{scope_of, Definition, defined_by}
use Rattle.meaning.specs.Lists.{Listed, listed, list_limit}
use Rattle.meaning.specs.Trees.{Members, none, plain, loop, block, Arms, no_arms, arm}
use Rattle.meaning.specs.Trips.{span_of, trips}
use Rattle.meaning.specs.Maps.{Map, put}
use Rattle.meaning.specs.Values.{Scope, value, subscripts, dimensions_in, as_integer, as_logical, integer}
use Rattle.meaning.specs.Records.{edited}
use Rattle.meaning.specs.Execution.{Outcome, normal, jump, stopped, fault, Ran, more, turn, with_ok, parts_for, with_list, output, assigned, unless_defined, picked_by, by_count, by_sign, Meaning, Follow, Next, onward, at_label, Ways, goes_on, goes_on_by, leads_on, leads_on_by, simple, step, added, fold_trips, trips_from, looped, while_of, ways_again, repeated, loop_by, condition_of, holds, turn_if, tested, arms_from, labelled, goes_at, ways_in, pass_over, fuelled, exec}

-- ---- pieces and turns in front

add-assoc : (a b c : ℕ) → a + (b + c) ≡ (a + b) + c
add-assoc a b c = omega arith

zero-add : (n : ℕ) → n ≡ 0 + n
zero-add n = omega arith

pub more-more : (p q : List (List ℕ)) (n k : ℕ) (r : Ran) → more p n (more q k r) ≡ more (p ++ q) (n + k) r
unfolding more
more-more p q n k r = λ i. record {
  outcome = r.outcome;
  map = r.map;
  pieces = sym (append_assoc p q r.pieces) i;
  used = add-assoc n k r.used i;
}

pub more-none : (r : Ran) → r ≡ more [] 0 r
unfolding more
more-none r = λ i. record { outcome = r.outcome; map = r.map; pieces = r.pieces; used = zero-add r.used i }

-- ---- what follows is asked only with turns that are left

-- two ways to go on that agree with at most t turns
abbrev pub Same : ℕ → Follow → Follow → Type 0
Same t go on = (n : Map) (u : ℕ) → u ≤ t → go n u ≡ on n u

-- a jump has taken a turn
abbrev pub taken : Next → ℕ
taken onward = 0
taken (at_label s) = 1

abbrev pub SameWays : ℕ → Ways → Ways → Type 0
SameWays t go on = (next : Next) (n : Map) (u : ℕ) → taken next + u ≤ t → go next n u ≡ on next n u

-- two meanings that agree with fewer than k turns
abbrev pub Alike : ℕ → Meaning → Meaning → Type 0
Alike k f g = (all rest : Members) (m : Map) (t : ℕ) → t < k → f all rest m t ≡ g all rest m t

goes_on_by-same : (o : Outcome) (r : Ran) (t : ℕ) (go on : Follow) → Same t go on → goes_on_by o r t go ≡ goes_on_by o r t on
goes_on_by-same normal r t go on same = ap (λ x. more r.pieces r.used x) (same r.map (t - r.used) (omega arith))
goes_on_by-same (jump s) r t go on same = refl
goes_on_by-same (stopped line) r t go on same = refl
goes_on_by-same (fault k line) r t go on same = refl

goes_on-same : (r : Ran) (t : ℕ) (go on : Follow) → Same t go on → goes_on r t go ≡ goes_on r t on
unfolding goes_on
goes_on-same r t go on same = goes_on_by-same r.outcome r t go on same

leads_on_by-same : (o : Outcome) (r : Ran) (t : ℕ) (go on : Ways) → SameWays (suc t) go on → leads_on_by o r t go ≡ leads_on_by o r t on
leads_on_by-same normal r t go on same = ap (λ x. more r.pieces r.used x) (same onward r.map (t - r.used) (omega arith))
leads_on_by-same (jump s) r t go on same = ap (λ x. more r.pieces r.used x) (same (at_label s) r.map (t - r.used) (omega arith))
leads_on_by-same (stopped line) r t go on same = refl
leads_on_by-same (fault k line) r t go on same = refl

leads_on-same : (r : Ran) (t : ℕ) (go on : Ways) → SameWays (suc t) go on → leads_on r t go ≡ leads_on r t on
unfolding leads_on
leads_on-same r t go on same = leads_on_by-same r.outcome r t go on same

with_ok-same : {A : Type 0} (r : Result A FaultKind) (line : ℕ) (m : Map) (go on : A → Ran) → ((x : A) → go x ≡ on x) → with_ok r line m go ≡ with_ok r line m on
with_ok-same r line m go on same = ap (λ f. with_ok r line m f) (fun_ext same)

with_list-same : (r : Listed) (line : ℕ) (go on : List Value → Map → Ran) → ((vs : List Value) (n : Map) → go vs n ≡ on vs n) → with_list r line go ≡ with_list r line on
unfolding with_list
with_list-same (Ok l) line go on same = same l.values l.map
with_list-same (Err f) line go on same = refl

turn-same : (line : ℕ) (m : Map) (t : ℕ) (go on : ℕ → Ran) → ((u : ℕ) → suc u ≤ t → go u ≡ on u) → turn line m t go ≡ turn line m t on
unfolding turn
turn-same line m zero go on same = refl
turn-same line m (suc t) go on same = ap (λ x. more [] 1 x) (same t (omega arith))

if-same : (b : Bool) (x y u v : Ran) → x ≡ u → y ≡ v → (if b then x else y) ≡ (if b then u else v)
if-same true x y u v e f = e
if-same false x y u v e f = f

with_turn : (next : Next) (u t : ℕ) → suc u ≤ t → taken next + u ≤ t
with_turn onward u t lt = omega arith
with_turn (at_label s) u t lt = omega arith

fewer : (t u : ℕ) (go on : Ways) → u ≤ t → SameWays t go on → SameWays u go on
fewer t u go on le same next n w h = same next n w (omega arith)

module _ (program : List ItemTree) where
  output-same : (source : FormatTree) (list : ListItemsTree) (line : ℕ) (m : Map) (t : ℕ) (go on : Follow) → Same t go on → output program source list line m t go ≡ output program source list line m t on
  output-same source list line m t go on same =
      let records : List Value → Result (List ℕ) FaultKind = λ vs. edited (parts_for program source) vs in
      let items = listed (scope_of program) list m list_limit in
      turn-same line m t (λ u. with_list items line (λ vs n. with_ok (records vs) line n (λ r. more (r ∷ []) 0 (go n u)))) (λ u. with_list items line (λ vs n. with_ok (records vs) line n (λ r. more (r ∷ []) 0 (on n u)))) (λ u lt. with_list-same items line (λ vs n. with_ok (records vs) line n (λ r. more (r ∷ []) 0 (go n u))) (λ vs n. with_ok (records vs) line n (λ r. more (r ∷ []) 0 (on n u))) (λ vs n. ap (λ x. with_ok (records vs) line n (λ r. more (r ∷ []) 0 x)) (same n u (omega arith))))

  assigned-same : (s : Scope) (target : List ℕ) (es : ExprsTree) (e : ExprTree) (line : ℕ) (m : Map) (t : ℕ) (go on : Follow) → Same t go on → assigned s target es e line m t go ≡ assigned s target es e line m t on
  assigned-same s target es e line m t go on same =
      let here = subscripts s (dimensions_in (s.arrays target)) es m in
      let right = value s e m in
      turn-same line m t (λ u. with_ok here line m (λ ss. with_ok right line m (λ v. go (put m target ss (as_integer v)) u))) (λ u. with_ok here line m (λ ss. with_ok right line m (λ v. on (put m target ss (as_integer v)) u))) (λ u lt. with_ok-same here line m (λ ss. with_ok right line m (λ v. go (put m target ss (as_integer v)) u)) (λ ss. with_ok right line m (λ v. on (put m target ss (as_integer v)) u)) (λ ss. with_ok-same right line m (λ v. go (put m target ss (as_integer v)) u) (λ v. on (put m target ss (as_integer v)) u) (λ v. same (put m target ss (as_integer v)) u (omega arith))))

  unless_defined-same : (o : Option Definition) (r passed s skipped : Ran) → r ≡ s → passed ≡ skipped → unless_defined o r passed ≡ unless_defined o s skipped
  unless_defined-same None r passed s skipped e over = e
  unless_defined-same (Some d) r passed s skipped e over = over

  -- a value, and a way that it picks
  picked-same : (s : Scope) (e : ExprTree) (pick : Value → Next) (line : ℕ) (m : Map) (t : ℕ) (go on : Ways) → SameWays t go on → picked_by s e pick line m t go ≡ picked_by s e pick line m t on
  picked-same s e pick line m t go on same =
      let r = value s e m in
      turn-same line m t (λ u. with_ok r line m (λ v. go (pick v) m u)) (λ u. with_ok r line m (λ v. on (pick v) m u)) (λ u lt. with_ok-same r line m (λ v. go (pick v) m u) (λ v. on (pick v) m u) (λ v. same (pick v) m u (with_turn (pick v) u t lt)))

  simple-same : (s : ShapeTree) (line : ℕ) (m : Map) (t : ℕ) (go on : Ways) → SameWays t go on → simple program s line m t go ≡ simple program s line m t on
  simple-same (assignment target es e) line m t go on same =
      unless_defined-same (defined_by (scope_of program).arrays (assignment target es e)) (assigned (scope_of program) target es e line m t (go onward)) (go onward m t) (assigned (scope_of program) target es e line m t (on onward)) (on onward m t) (assigned-same (scope_of program) target es e line m t (go onward) (on onward) (λ n u le. same onward n u (omega arith))) (same onward m t (omega arith))
  simple-same (writing control list) line m t go on same = output-same control.source list line m t (go onward) (on onward) (λ n u le. same onward n u (omega arith))
  simple-same (printing source list) line m t go on same = output-same source list line m t (go onward) (on onward) (λ n u le. same onward n u (omega arith))
  simple-same continuing line m t go on same = turn-same line m t (λ u. go onward m u) (λ u. on onward m u) (λ u lt. same onward m u (with_turn onward u t lt))
  simple-same end_do line m t go on same = turn-same line m t (λ u. go onward m u) (λ u. on onward m u) (λ u lt. same onward m u (with_turn onward u t lt))
  simple-same (going label) line m t go on same = turn-same line m t (λ u. go _ m u) (λ u. on _ m u) (λ u lt. same (at_label (number_of label)) m u (with_turn (at_label (number_of label)) u t lt))
  simple-same (computed_going labels comma e) line m t go on same = picked-same (scope_of program) e (λ v. by_count labels (as_integer v)) line m t go on same
  simple-same (arithmetic_if e a b c) line m t go on same = picked-same (scope_of program) e (λ v. by_sign a b c (as_integer v)) line m t go on same
  simple-same (stopping text) line m t go on same = refl
  simple-same s line m t go on same = same onward m t (omega arith)

  step-same : (s : ShapeTree) (line : ℕ) (m : Map) (t : ℕ) (go on : Ways) → SameWays t go on → step program s line m t go ≡ step program s line m t on
  step-same (logical_if e s) line m t go on same =
      let r = value (scope_of program) e m in
      turn-same line m t (λ u. with_ok r line m (λ v. if as_logical v then simple program s line m u go else go onward m u)) (λ u. with_ok r line m (λ v. if as_logical v then simple program s line m u on else on onward m u)) (λ u lt. with_ok-same r line m (λ v. if as_logical v then simple program s line m u go else go onward m u) (λ v. if as_logical v then simple program s line m u on else on onward m u) (λ v. if-same (as_logical v) _ _ _ _ (simple-same s line m u go on (fewer t u go on (omega arith) same)) (same onward m u (omega arith))))
  step-same s line m t go on same = simple-same s line m t go on same

fold_trips-alike : (k : ℕ) (f g : Meaning) (line : ℕ) (variable : List ℕ) (by : ℤ) (range : Members) → Alike k f g → (is : List ℤ) (m : Map) (t : ℕ) → t < k → fold_trips f line variable by range is m t ≡ fold_trips g line variable by range is m t
unfolding fold_trips
fold_trips-alike k f g line variable by range alike [] m t lt = refl
fold_trips-alike k f g line variable by range alike (i ∷ is) m t lt =
    let go : Follow = λ n u. added line variable by n (λ x. fold_trips f line variable by range is x u) in
    let on : Follow = λ n u. added line variable by n (λ x. fold_trips g line variable by range is x u) in
    ap (λ r. goes_on r t go) (alike range range m t lt) ∙ goes_on-same (g range range m t) t go on (λ n u le. with_ok-same (integer (n variable [] +ℤ by)) line n (λ v. fold_trips f line variable by range is (put n variable [] (as_integer v)) u) (λ v. fold_trips g line variable by range is (put n variable [] (as_integer v)) u) (λ v. fold_trips-alike k f g line variable by range alike is (put n variable [] (as_integer v)) u (omega arith)))

looped-alike : (scope : Scope) (k : ℕ) (f g : Meaning) → Alike k f g → (s : ShapeTree) (line : ℕ) (range : Members) (m : Map) (t : ℕ) (go on : Ways) → t < suc k → SameWays t go on → looped scope f s line range m t go ≡ looped scope g s line range m t on
unfolding looped
looped-alike scope k f g alike (doing label comma variable limits) line range m t go on lt same =
    turn-same line m t (λ u. with_ok (span_of scope limits m) line m (λ s. leads_on (trips_from f line variable range m u s) u go)) (λ u. with_ok (span_of scope limits m) line m (λ s. leads_on (trips_from g line variable range m u s) u on)) (λ u le. with_ok-same (span_of scope limits m) line m (λ s. leads_on (trips_from f line variable range m u s) u go) (λ s. leads_on (trips_from g line variable range m u s) u on) (λ s. ap (λ r. leads_on r u go) (fold_trips-alike k f g line variable s.step range alike (trips s.first s.last s.step) (put m variable [] s.first) u (omega arith)) ∙ leads_on-same (trips_from g line variable range m u s) u go on (fewer t (suc u) go on le same)))
looped-alike scope k f g alike s line range m t go on lt same = same onward m t (omega arith)

-- the range of a DO WHILE statement, and this again with fewer turns
leads_on-again : (k : ℕ) (r : Ran) (t : ℕ) (again further : Follow) (go on : Ways) → t < k → ((n : Map) (u : ℕ) → u < k → again n u ≡ further n u) → SameWays (suc t) go on → leads_on r t (ways_again again go) ≡ leads_on r t (ways_again further on)
unfolding leads_on
leads_on-again k r t again further go on lt repeats same = by r.outcome
  where
    by : (o : Outcome) → leads_on_by o r t (ways_again again go) ≡ leads_on_by o r t (ways_again further on)
    by normal = ap (λ x. more r.pieces r.used x) (repeats r.map (t - r.used) (omega arith))
    by (jump s) = ap (λ x. more r.pieces r.used x) (same (at_label s) r.map (t - r.used) (omega arith))
    by (stopped line) = refl
    by (fault kind line) = refl

repeated-alike : (scope : Scope) (k : ℕ) (f g : Meaning) → Alike k f g → (e : ExprTree) (line : ℕ) (range : Members) (again further : Follow) (m : Map) (t : ℕ) (go on : Ways) → t < suc k → ((n : Map) (u : ℕ) → u < k → again n u ≡ further n u) → SameWays t go on → repeated scope f e line range again m t go ≡ repeated scope g e line range further m t on
unfolding repeated
repeated-alike scope k f g alike e line range again further m t go on lt repeats same =
    let r = value scope e m in
    turn-same line m t (λ u. with_ok r line m (λ v. if as_logical v then leads_on (f range range m u) u (ways_again again go) else go onward m u)) (λ u. with_ok r line m (λ v. if as_logical v then leads_on (g range range m u) u (ways_again further on) else on onward m u)) (λ u le. with_ok-same r line m (λ v. if as_logical v then leads_on (f range range m u) u (ways_again again go) else go onward m u) (λ v. if as_logical v then leads_on (g range range m u) u (ways_again further on) else on onward m u) (λ v. if-same (as_logical v) _ _ _ _ (ap (λ x. leads_on x u (ways_again again go)) (alike range range m u (omega arith)) ∙ leads_on-again k (g range range m u) u again further go on (omega arith) repeats (fewer t (suc u) go on le same)) (same onward m u (omega arith))))

loop_by-alike : (o : Option ExprTree) (scope : Scope) (k : ℕ) (f g : Meaning) → Alike k f g → (x : ItemTree) (range : Members) (again further : Follow) (m : Map) (t : ℕ) (go on : Ways) → t < suc k → ((n : Map) (u : ℕ) → u < k → again n u ≡ further n u) → SameWays t go on → loop_by o scope f x range again m t go ≡ loop_by o scope g x range further m t on
unfolding loop_by
loop_by-alike None scope k f g alike x range again further m t go on lt repeats same = looped-alike scope k f g alike x.shape x.line range m t go on lt same
loop_by-alike (Some e) scope k f g alike x range again further m t go on lt repeats same =
    repeated-alike scope k f g alike e x.line range again further m t go on lt repeats same

turn_if-same : (b : Bool) (line : ℕ) (m : Map) (t : ℕ) (go on : ℕ → Ran) → ((u : ℕ) → u ≤ t → go u ≡ on u) → turn_if b line m t go ≡ turn_if b line m t on
turn_if-same true line m t go on same = turn-same line m t go on (λ u lt. same u (omega arith))
turn_if-same false line m t go on same = same t (omega arith)

tested-same : (scope : Scope) (first : Bool) (x : ItemTree) (m : Map) (t : ℕ) (go on : Bool → ℕ → Ran) → ((b : Bool) (u : ℕ) → u ≤ t → go b u ≡ on b u) → tested scope first x m t go ≡ tested scope first x m t on
unfolding tested
tested-same scope first x m t go on same =
    let c = holds scope (condition_of x.shape) m in
    turn_if-same _ x.line m t (λ u. with_ok c x.line m (λ b. go b u)) (λ u. with_ok c x.line m (λ b. on b u)) (λ u le. with_ok-same c x.line m (λ b. go b u) (λ b. on b u) (λ b. same b u le))

-- the first arm takes a turn
tested_first-same : (scope : Scope) (x : ItemTree) (m : Map) (t : ℕ) (go on : Bool → ℕ → Ran) → ((b : Bool) (u : ℕ) → suc u ≤ t → go b u ≡ on b u) → tested scope true x m t go ≡ tested scope true x m t on
unfolding tested
tested_first-same scope x m t go on same =
    let c = holds scope (condition_of x.shape) m in
    turn-same x.line m t (λ u. with_ok c x.line m (λ b. go b u)) (λ u. with_ok c x.line m (λ b. on b u)) (λ u lt. with_ok-same c x.line m (λ b. go b u) (λ b. on b u) (λ b. same b u lt))

module _ (scope : Scope) (k : ℕ) (f g : Meaning) (alike : Alike k f g) where
  body-alike : (body : Members) (m : Map) (t : ℕ) (go on : Ways) → t < k → SameWays (suc t) go on → leads_on (f body body m t) t go ≡ leads_on (g body body m t) t on
  body-alike body m t go on lt same = ap (λ r. leads_on r t go) (alike body body m t lt) ∙ leads_on-same (g body body m t) t go on same

  further-alike : (arms : Arms) (m : Map) (t : ℕ) (go on : Ways) → t < k → SameWays (suc t) go on → arms_from scope f false arms m t go ≡ arms_from scope g false arms m t on
  unfolding arms_from
  further-alike no_arms m t go on lt same = same onward m t (omega arith)
  further-alike (arm x body arms) m t go on lt same =
      tested-same scope false x m t (λ b u. if b then leads_on (f body body m u) u go else arms_from scope f false arms m u go) (λ b u. if b then leads_on (g body body m u) u on else arms_from scope g false arms m u on) (λ b u le. if-same b _ _ _ _ (body-alike body m u go on (omega arith) (fewer (suc t) (suc u) go on (omega arith) same)) (further-alike arms m u go on (omega arith) (fewer (suc t) (suc u) go on (omega arith) same)))

  arms-alike : (arms : Arms) (m : Map) (t : ℕ) (go on : Ways) → t < suc k → SameWays t go on → arms_from scope f true arms m t go ≡ arms_from scope g true arms m t on
  unfolding arms_from
  arms-alike no_arms m t go on lt same = same onward m t (omega arith)
  arms-alike (arm x body arms) m t go on lt same =
      tested_first-same scope x m t (λ b u. if b then leads_on (f body body m u) u go else arms_from scope f false arms m u go) (λ b u. if b then leads_on (g body body m u) u on else arms_from scope g false arms m u on) (λ b u le. if-same b _ _ _ _ (body-alike body m u go on (omega arith) (fewer t (suc u) go on le same)) (further-alike arms m u go on (omega arith) (fewer t (suc u) go on le same)))

goes_at-alike : (k : ℕ) (f g : Meaning) → Alike k f g → (all : Members) (rest : Option Members) (s : ℕ) (n : Map) (u : ℕ) → u < k → goes_at f all rest s n u ≡ goes_at g all rest s n u
goes_at-alike k f g alike all (Some rest) s n u lt = alike all rest n u lt
goes_at-alike k f g alike all None s n u lt = refl

ways-alike : (k : ℕ) (f g : Meaning) → Alike k f g → (all : Members) (go on : Follow) (t : ℕ) → t < suc k → Same t go on → SameWays t (ways_in f all go) (ways_in g all on)
ways-alike k f g alike all go on t lt same onward n u le = same n u (omega arith)
ways-alike k f g alike all go on t lt same (at_label s) n u le = goes_at-alike k f g alike all (labelled s all) s n u (omega arith)

pass_over-alike : (program : List ItemTree) (k : ℕ) (f g : Meaning) → Alike k f g → (all rest : Members) (m : Map) (t : ℕ) → t < suc k → pass_over program f all rest m t ≡ pass_over program g all rest m t
unfolding pass_over
pass_over-alike program k f g alike all none m t lt = refl
pass_over-alike program k f g alike all (plain x ms) m t lt =
    step-same program x.shape x.line m t _ _ (ways-alike k f g alike all (λ n u. pass_over program f all ms n u) (λ n u. pass_over program g all ms n u) t lt (λ n u le. pass_over-alike program k f g alike all ms n u (omega arith)))
pass_over-alike program k f g alike all (loop x range ms) m t lt =
    loop_by-alike (while_of x.shape) (scope_of program) k f g alike x range (f all (loop x range ms)) (g all (loop x range ms)) m t _ _ lt (λ n u less. alike all (loop x range ms) n u less) (ways-alike k f g alike all (λ n u. pass_over program f all ms n u) (λ n u. pass_over program g all ms n u) t lt (λ n u le. pass_over-alike program k f g alike all ms n u (omega arith)))
pass_over-alike program k f g alike all (block arms x ms) m t lt =
    arms-alike (scope_of program) k f g alike arms m t _ _ lt (ways-alike k f g alike all (λ n u. pass_over program f all ms n u) (λ n u. pass_over program g all ms n u) t lt (λ n u le. pass_over-alike program k f g alike all ms n u (omega arith)))

-- ---- fuel

module _ (program : List ItemTree) where
  one_more : (n : ℕ) → Alike n (fuelled program n) (fuelled program (suc n))
  unfolding fuelled
  one_more zero all rest m t lt = absurd (omega arith)
  one_more (suc n) all rest m t lt = pass_over-alike program n (fuelled program n) (fuelled program (suc n)) (one_more n) all rest m t lt

  -- fuel beyond the turns changes nothing
  enough : (d n : ℕ) (all rest : Members) (m : Map) (t : ℕ) → t < n → fuelled program n all rest m t ≡ fuelled program (d + n) all rest m t
  enough zero n all rest m t lt = ap (λ k. fuelled program k all rest m t) (zero-add n)
  enough (suc d) n all rest m t lt =
      enough d n all rest m t lt ∙ one_more (d + n) all rest m t (omega arith) ∙ ap (λ k. fuelled program k all rest m t) (suc-add d n)
    where
      suc-add : (a b : ℕ) → suc (a + b) ≡ suc a + b
      suc-add a b = omega arith

  pub exec-fuelled : (n : ℕ) → Alike n (fuelled program n) (exec program)
  unfolding exec
  exec-fuelled n all rest m t lt =
      ap (λ k. fuelled program k all rest m t) (split n t lt) ∙ sym (enough (n - suc t) (suc t) all rest m t (omega arith))
    where
      split : (n t : ℕ) → t < n → n ≡ (n - suc t) + suc t
      split n t lt = omega arith

  -- executing a list is one pass over it
  pub exec_is : (all rest : Members) (m : Map) (t : ℕ) → exec program all rest m t ≡ pass_over program (exec program) all rest m t
  unfolding exec fuelled
  exec_is all rest m t =
      pass_over-alike program t (fuelled program t) (exec program) (exec-fuelled t) all rest m t (omega arith)

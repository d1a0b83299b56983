-- A list of statements leaves each variable that none of them sets.
use Rattle.std.proofs.Common.{◌≡◌, ℕ, zero, suc, ℤ, ◌-◌, ◌+ℤ◌, ◌&&◌, ◌||◌, Bool, true, false, if◌then◌else◌, nat_lt, Option, Some, None, List, [], ◌∷◌, ◌++◌, length, Result, Ok, Err, refl, sym, ap, ◌∙◌, subst}
use Rattle.std.proofs.Math.Bool.{and-false}
use Rattle.std.proofs.lemmas.Bool.{true≢false}
use Rattle.std.proofs.lemmas.List.Folds.{list_any-append}
use Rattle.std.proofs.lemmas.Slice.Eq.{bytes_eq-Decides}
use Rattle.std.specs.Cmp.Lexicographic.{pointwise}
use Rattle.std.specs.List.{list_any}
use Rattle.std.specs.Ordering.{int_eq}
use Rattle.std.specs.Str.{bytes_eq}
use Rattle.meaning.specs.declared.ending.FaultKind.{FaultKind}
use Rattle.meaning.specs.declared.ending.FaultKind.TheVariants.{F8}
use Rattle.meaning.specs.declared.ending.Value.{Value}
use Rattle.meaning.specs.Characters.{number_of}
use Rattle.meaning.specs.Syntax.{ExprTree, name, ExprsTree, no_exprs, exprs, ShapeTree, ListItemsTree, no_items, more_items, value_item, loop_item, FormatTree, assignment, writing, printing, doing, continuing, going, computed_going, arithmetic_if, logical_if, stopping, end_do, ItemTree}
use Rattle.meaning.specs.Arrays.{Dimension, elements}
use Rattle.meaning.specs.Surroundings.{loop_variables}
use Rattle.meaning.specs.Uses.{is_one_of}
use Rattle.meaning.specs.LoopRules.{set_by, variables_set}
use Rattle.meaning.specs.LabelRules.{has_label}
use Rattle.meaning.specs.Scopes.{scope_of, Definition, defined_by}
use Rattle.meaning.specs.Lists.{Listed, faulted, with_value, behind, followed, one_item, element_values, one_value, named_value, item_value, stepped, trips_listed, loop_listed, listed, list_limit}
use Rattle.meaning.specs.Trees.{Members, none, plain, loop, block, Arms, no_arms, arm, flat, flat_arms}
use Rattle.meaning.specs.Trips.{span_of, trips}
use Rattle.meaning.specs.Maps.{Map, put}
use Rattle.meaning.specs.Values.{Scope, value, subscripts, dimensions_in, as_integer, as_logical, integer, and_then, in_first, others}
use Rattle.meaning.specs.Records.{edited}
use Rattle.meaning.specs.LoopLaws.{sets}
use Rattle.meaning.specs.Execution.{Outcome, normal, jump, stopped, fault, Ran, more, ended_by, turn, with_ok, parts_for, with_list, output, assigned, unless_defined, picked_by, by_count, by_sign, Meaning, Follow, Next, onward, at_label, Ways, goes_on, goes_on_by, leads_on, leads_on_by, simple, step, added, fold_trips, trips_from, looped, while_of, ways_again, repeated, loop_by, condition_of, holds, turn_if, tested, arms_from, heads, labelled, goes_at, ways_in, pass_over, fuelled, exec}

-- ---- tests

pub or-parts : (a b : Bool) → (a || b) ≡ false → (a ≡ false) × (b ≡ false)
or-parts true b h = absurd (true≢false h)
or-parts false b h = (refl, h)

pub bytes_eq-swapped : (x y : List ℕ) → bytes_eq x y ≡ false → bytes_eq y x ≡ false
bytes_eq-swapped x y h = by (bytes_eq y x) refl
  where
    by : (b : Bool) → bytes_eq y x ≡ b → bytes_eq y x ≡ false
    by false e = e
    by true e = absurd (true≢false (sym ((bytes_eq-Decides x y).1 (sym ((bytes_eq-Decides y x).0 e))) ∙ h))

-- none of the two lists passes
pub any-parts : {A : Type 0} (p : A → Bool) (xs ys : List A) → list_any p (xs ++ ys) ≡ false → (list_any p xs ≡ false) × (list_any p ys ≡ false)
any-parts p xs ys h = or-parts (list_any p xs) (list_any p ys) (sym (list_any-append p xs ys) ∙ h)

-- ---- the map at a variable

module _ (v : List ℕ) where
  put_other : (m : Map) (n : List ℕ) (ss : List ℤ) (x : ℤ) → bytes_eq n v ≡ false → put m n ss x v [] ≡ m v []
  unfolding put
  put_other m n ss x e = ap (λ b. if b && pointwise int_eq ss [] then x else m v []) e

  put_element : (m : Map) (n : List ℕ) (s : ℤ) (ss : List ℤ) (x : ℤ) → put m n (s ∷ ss) x v [] ≡ m v []
  unfolding put
  put_element m n s ss x = ap (λ b. if b then x else m v []) (and-false (bytes_eq n v))

  -- the first of several names that aren't the variable
  other_first : (n : List ℕ) (ns : List (List ℕ)) → is_one_of (n ∷ ns) v ≡ false → bytes_eq n v ≡ false
  other_first n ns h = bytes_eq-swapped v n (or-parts (bytes_eq v n) (is_one_of ns v) h).0

  module _ (a : ℤ) where
    abbrev pub Has : Map → Type 0
    Has m = m v [] ≡ a

    -- ---- lists of items

    -- the variable has its value behind them, and behind a fault
    abbrev ListedKeeps : Listed → Type 0
    ListedKeeps (Ok l) = Has l.map
    ListedKeeps (Err f) = Has f.map

    with_value-keeps : {A : Type 0} (r : Result A FaultKind) (m : Map) (go : A → Listed) → Has m → ((x : A) → r ≡ Ok x → ListedKeeps (go x)) → ListedKeeps (with_value r m go)
    unfolding with_value
    with_value-keeps (Ok x) m go h keeps = keeps x refl
    with_value-keeps (Err k) m go h keeps = h

    behind-keeps : (vs : List Value) (r : Listed) → ListedKeeps r → ListedKeeps (behind vs r)
    unfolding behind
    behind-keeps vs (Ok l) h = h
    behind-keeps vs (Err f) h = h

    followed-keeps : (r : Listed) (go : Map → ℕ → Listed) → ListedKeeps r → ((m : Map) (left : ℕ) → Has m → ListedKeeps (go m left)) → ListedKeeps (followed r go)
    unfolding followed
    followed-keeps (Ok l) go h keeps = behind-keeps l.values (go l.map l.left) (keeps l.map l.left h)
    followed-keeps (Err f) go h keeps = h

    one_item-keeps : (left : ℕ) (m : Map) (go : ℕ → Listed) → Has m → ((n : ℕ) → ListedKeeps (go n)) → ListedKeeps (one_item left m go)
    one_item-keeps zero m go h keeps = h
    one_item-keeps (suc n) m go h keeps = keeps n

    if-keeps : (b : Bool) (x y : Listed) → ListedKeeps x → ListedKeeps y → ListedKeeps (if b then x else y)
    if-keeps true x y h k = h
    if-keeps false x y h k = k

    module _ (s : Scope) where
      one_value-keeps : (e : ExprTree) (m : Map) (left : ℕ) → Has m → ListedKeeps (one_value s e m left)
      one_value-keeps e m left h =
          one_item-keeps left m (λ n. with_value (value s e m) m (λ x. Ok (record { values = x ∷ []; map = m; left = n }))) h (λ n. with_value-keeps (value s e m) m (λ x. Ok (record { values = x ∷ []; map = m; left = n })) h (λ x is. h))

      named_value-keeps : (n : List ℕ) (o : Option (List Dimension)) (m : Map) (left : ℕ) → Has m → ListedKeeps (named_value s n o m left)
      named_value-keeps n (Some ds) m left h =
          let found = element_values s n (elements ds) m in
          let go : List Value → Listed = λ vs. Ok (record { values = vs; map = m; left = left - length (elements ds) }) in
          if-keeps (nat_lt left (length (elements ds))) (faulted F8 m) (with_value found m go) h (with_value-keeps found m go h (λ vs is. h))
      named_value-keeps n None m left h = one_value-keeps (name n) m left h

      item_value-keeps : (e : ExprTree) (m : Map) (left : ℕ) → Has m → ListedKeeps (item_value s e m left)
      item_value-keeps (name n) m left h = named_value-keeps n (s.arrays n) m left h
      item_value-keeps e m left h = one_value-keeps e m left h

      trips_listed-keeps : (items : Map → ℕ → Listed) → ((m : Map) (left : ℕ) → Has m → ListedKeeps (items m left)) → (n : List ℕ) → bytes_eq n v ≡ false → (by : ℤ) (is : List ℤ) (m : Map) (left : ℕ) → Has m → ListedKeeps (trips_listed items n by is m left)
      unfolding trips_listed
      trips_listed-keeps items keeps n other by [] m left h = h
      trips_listed-keeps items keeps n other by (i ∷ is) m left h =
          followed-keeps (items m left) (λ k rest. stepped n by k (λ j. trips_listed items n by is j rest)) (keeps m left h) (λ k rest hk. with_value-keeps (integer (k n [] +ℤ by)) k (λ x. trips_listed items n by is (put k n [] (as_integer x)) rest) hk (λ x is2. trips_listed-keeps items keeps n other by is (put k n [] (as_integer x)) rest (put_other k n [] (as_integer x) other ∙ hk)))

      listed-keeps : (list : ListItemsTree) → is_one_of (loop_variables list) v ≡ false → (m : Map) (left : ℕ) → Has m → ListedKeeps (listed s list m left)
      unfolding listed
      listed-keeps no_items unset m left h = h
      listed-keeps (more_items (value_item e) xs) unset m left h =
          followed-keeps (item_value s e m left) (listed s xs) (item_value-keeps e m left h) (λ n rest hn. listed-keeps xs unset n rest hn)
      listed-keeps (more_items (loop_item ys variable limits) xs) unset m left h =
          let other = other_first variable (loop_variables ys ++ loop_variables xs) unset in
          let parts = any-parts (bytes_eq v) (loop_variables ys) (loop_variables xs) (or-parts (bytes_eq v variable) (is_one_of (loop_variables ys ++ loop_variables xs) v) unset).1 in
          let one : ℕ → Listed = λ n. with_value (span_of s limits m) m (λ span. loop_listed (listed s ys) variable m n span) in
          followed-keeps (one_item left m one) (listed s xs) (one_item-keeps left m one h (λ n. with_value-keeps (span_of s limits m) m (λ span. loop_listed (listed s ys) variable m n span) h (λ span is. trips_listed-keeps (listed s ys) (λ k rest hk. listed-keeps ys parts.0 k rest hk) variable other span.step (trips span.first span.last span.step) (put m variable [] span.first) n (put_other m variable [] span.first other ∙ h)))) (λ n rest hn. listed-keeps xs parts.1 n rest hn)

    -- ---- what follows

    abbrev pub Keeps : Follow → Type 0
    Keeps go = (n : Map) (u : ℕ) → Has n → Has (go n u).map

    abbrev pub WaysKeep : Ways → Type 0
    WaysKeep go = (next : Next) → Keeps (go next)

    -- no statement of the list and of what is left of it sets the variable
    abbrev pub Unset : Members → Type 0
    Unset ms = list_any (sets v) (flat ms) ≡ false

    abbrev pub KeepsAll : Meaning → Type 0
    KeepsAll f = (all rest : Members) → Unset all → Unset rest → (m : Map) (t : ℕ) → Has m → Has (f all rest m t).map

    more-keeps : (ps : List (List ℕ)) (n : ℕ) (r : Ran) → Has r.map → Has (more ps n r).map
    unfolding more
    more-keeps ps n r h = h

    goes_on_by-keeps : (o : Outcome) (r : Ran) (t : ℕ) (go : Follow) → Has r.map → Keeps go → Has (goes_on_by o r t go).map
    goes_on_by-keeps normal r t go h keeps = more-keeps r.pieces r.used (go r.map (t - r.used)) (keeps r.map (t - r.used) h)
    goes_on_by-keeps (jump s) r t go h keeps = h
    goes_on_by-keeps (stopped line) r t go h keeps = h
    goes_on_by-keeps (fault k line) r t go h keeps = h

    goes_on-keeps : (r : Ran) (t : ℕ) (go : Follow) → Has r.map → Keeps go → Has (goes_on r t go).map
    unfolding goes_on
    goes_on-keeps r t go h keeps = goes_on_by-keeps r.outcome r t go h keeps

    leads_on_by-keeps : (o : Outcome) (r : Ran) (t : ℕ) (go : Ways) → Has r.map → WaysKeep go → Has (leads_on_by o r t go).map
    leads_on_by-keeps normal r t go h keeps =
        more-keeps r.pieces r.used (go onward r.map (t - r.used)) (keeps onward r.map (t - r.used) h)
    leads_on_by-keeps (jump s) r t go h keeps =
        more-keeps r.pieces r.used (go (at_label s) r.map (t - r.used)) (keeps (at_label s) r.map (t - r.used) h)
    leads_on_by-keeps (stopped line) r t go h keeps = h
    leads_on_by-keeps (fault k line) r t go h keeps = h

    leads_on-keeps : (r : Ran) (t : ℕ) (go : Ways) → Has r.map → WaysKeep go → Has (leads_on r t go).map
    unfolding leads_on
    leads_on-keeps r t go h keeps = leads_on_by-keeps r.outcome r t go h keeps

    with_ok-keeps : {A : Type 0} (r : Result A FaultKind) (line : ℕ) (m : Map) (go : A → Ran) → Has m → ((y : A) → r ≡ Ok y → Has (go y).map) → Has (with_ok r line m go).map
    unfolding with_ok
    with_ok-keeps (Ok y) line m go h keeps = keeps y refl
    with_ok-keeps (Err k) line m go h keeps = h

    with_list-keeps : (r : Listed) (line : ℕ) (go : List Value → Map → Ran) → ListedKeeps r → ((vs : List Value) (n : Map) → Has n → Has (go vs n).map) → Has (with_list r line go).map
    unfolding with_list
    with_list-keeps (Ok l) line go h keeps = keeps l.values l.map h
    with_list-keeps (Err f) line go h keeps = h

    turn-keeps : (line : ℕ) (m : Map) (t : ℕ) (go : ℕ → Ran) → Has m → ((u : ℕ) → Has (go u).map) → Has (turn line m t go).map
    unfolding turn
    turn-keeps line m zero go h keeps = h
    turn-keeps line m (suc t) go h keeps = more-keeps [] 1 (go t) (keeps t)

    turn_if-keeps : (b : Bool) (line : ℕ) (m : Map) (t : ℕ) (go : ℕ → Ran) → Has m → ((u : ℕ) → Has (go u).map) → Has (turn_if b line m t go).map
    turn_if-keeps true line m t go h keeps = turn-keeps line m t go h keeps
    turn_if-keeps false line m t go h keeps = keeps t

    either-keeps : (b : Bool) (x y : Ran) → Has x.map → Has y.map → Has (if b then x else y).map
    either-keeps true x y h k = h
    either-keeps false x y h k = k

    -- ---- statements

    -- subscripts of an element
    some_subscripts : (s : Scope) (ds : List Dimension) (e : ExprTree) (es : ExprsTree) (m : Map) (ss : List ℤ) → subscripts s ds (exprs e es) m ≡ Ok ss → (n : List ℕ) (k : Map) (y : ℤ) → put k n ss y v [] ≡ k v []
    unfolding subscripts and_then
    some_subscripts s ds e es m (i ∷ is) found n k y = put_element k n i is y
    some_subscripts s ds e es m [] found n k y = absurd (none_first (value s e m) found)
      where
        none_third : (q : Result ℤ FaultKind) (p : Result (List ℤ) FaultKind) → and_then q (λ i. and_then p (λ is. Ok (i ∷ is))) ≡ Ok [] → ⊥
        none_third (Ok i) (Ok is) h = absurd cc
        none_third (Ok i) (Err k) h = absurd cc
        none_third (Err k) p h = absurd cc

        none_first : (r : Result Value FaultKind) → and_then r (λ x. and_then (in_first ds (as_integer x)) (λ i. and_then (subscripts s (others ds) es m) (λ is. Ok (i ∷ is)))) ≡ Ok [] → ⊥
        none_first (Ok x) h = none_third (in_first ds (as_integer x)) (subscripts s (others ds) es m) h
        none_first (Err k) h = absurd cc

    -- the place that gets the value isn't the variable
    put_elsewhere : (s : Scope) (target : List ℕ) (es : ExprsTree) (m : Map) → is_one_of (set_by target es) v ≡ false → (ss : List ℤ) → subscripts s (dimensions_in (s.arrays target)) es m ≡ Ok ss → (y : ℤ) → put m target ss y v [] ≡ m v []
    put_elsewhere s target no_exprs m unset ss found y = put_other m target ss y (other_first target [] unset)
    put_elsewhere s target (exprs e es) m unset ss found y =
        some_subscripts s (dimensions_in (s.arrays target)) e es m ss found target m y

    assigned-keeps : (s : Scope) (target : List ℕ) (es : ExprsTree) (e : ExprTree) (line : ℕ) (m : Map) (t : ℕ) (go : Follow) → is_one_of (set_by target es) v ≡ false → Keeps go → Has m → Has (assigned s target es e line m t go).map
    assigned-keeps s target es e line m t go unset keeps h =
        let here = subscripts s (dimensions_in (s.arrays target)) es m in
        let right = value s e m in
        turn-keeps line m t (λ u. with_ok here line m (λ ss. with_ok right line m (λ x. go (put m target ss (as_integer x)) u))) h (λ u. with_ok-keeps here line m (λ ss. with_ok right line m (λ x. go (put m target ss (as_integer x)) u)) h (λ ss is. with_ok-keeps right line m (λ x. go (put m target ss (as_integer x)) u) h (λ x is2. keeps (put m target ss (as_integer x)) u (put_elsewhere s target es m unset ss is (as_integer x) ∙ h))))

    unless_defined-keeps : (o : Option Definition) (r passed : Ran) → Has r.map → Has passed.map → Has (unless_defined o r passed).map
    unless_defined-keeps None r passed h k = h
    unless_defined-keeps (Some d) r passed h k = k

    picked-keeps : (s : Scope) (e : ExprTree) (pick : Value → Next) (line : ℕ) (m : Map) (t : ℕ) (go : Ways) → WaysKeep go → Has m → Has (picked_by s e pick line m t go).map
    picked-keeps s e pick line m t go keeps h =
        turn-keeps line m t (λ u. with_ok (value s e m) line m (λ x. go (pick x) m u)) h (λ u. with_ok-keeps (value s e m) line m (λ x. go (pick x) m u) h (λ x is. keeps (pick x) m u h))

    module _ (program : List ItemTree) where
      output-keeps : (source : FormatTree) (list : ListItemsTree) (line : ℕ) (m : Map) (t : ℕ) (go : Follow) → is_one_of (loop_variables list) v ≡ false → Keeps go → Has m → Has (output program source list line m t go).map
      output-keeps source list line m t go unset keeps h =
          let records : List Value → Result (List ℕ) FaultKind = λ vs. edited (parts_for program source) vs in
          let items = listed (scope_of program) list m list_limit in
          turn-keeps line m t (λ u. with_list items line (λ vs n. with_ok (records vs) line n (λ r. more (r ∷ []) 0 (go n u)))) h (λ u. with_list-keeps items line (λ vs n. with_ok (records vs) line n (λ r. more (r ∷ []) 0 (go n u))) (listed-keeps (scope_of program) list unset m list_limit h) (λ vs n hn. with_ok-keeps (records vs) line n (λ r. more (r ∷ []) 0 (go n u)) hn (λ r is. more-keeps (r ∷ []) 0 (go n u) (keeps n u hn))))

      simple-keeps : (s : ShapeTree) (line : ℕ) (m : Map) (t : ℕ) (go : Ways) → is_one_of (variables_set s) v ≡ false → WaysKeep go → Has m → Has (simple program s line m t go).map
      simple-keeps (assignment target es e) line m t go unset keeps h =
          unless_defined-keeps (defined_by (scope_of program).arrays (assignment target es e)) (assigned (scope_of program) target es e line m t (go onward)) (go onward m t) (assigned-keeps (scope_of program) target es e line m t (go onward) unset (keeps onward) h) (keeps onward m t h)
      simple-keeps (writing control list) line m t go unset keeps h =
          output-keeps control.source list line m t (go onward) unset (keeps onward) h
      simple-keeps (printing source list) line m t go unset keeps h =
          output-keeps source list line m t (go onward) unset (keeps onward) h
      simple-keeps continuing line m t go unset keeps h = turn-keeps line m t (λ u. go onward m u) h (λ u. keeps onward m u h)
      simple-keeps end_do line m t go unset keeps h = turn-keeps line m t (λ u. go onward m u) h (λ u. keeps onward m u h)
      simple-keeps (going label) line m t go unset keeps h =
          turn-keeps line m t (λ u. go (at_label (number_of label)) m u) h (λ u. keeps (at_label (number_of label)) m u h)
      simple-keeps (computed_going labels comma e) line m t go unset keeps h =
          picked-keeps (scope_of program) e (λ x. by_count labels (as_integer x)) line m t go keeps h
      simple-keeps (arithmetic_if e b c d) line m t go unset keeps h =
          picked-keeps (scope_of program) e (λ x. by_sign b c d (as_integer x)) line m t go keeps h
      simple-keeps (stopping text) line m t go unset keeps h = turn-keeps line m t (λ u. ended_by (stopped line) m) h (λ u. h)
      simple-keeps s line m t go unset keeps h = keeps onward m t h

      step-keeps : (s : ShapeTree) (line : ℕ) (m : Map) (t : ℕ) (go : Ways) → is_one_of (variables_set s) v ≡ false → WaysKeep go → Has m → Has (step program s line m t go).map
      step-keeps (logical_if e s) line m t go unset keeps h =
          let r = value (scope_of program) e m in
          turn-keeps line m t (λ u. with_ok r line m (λ x. if as_logical x then simple program s line m u go else go onward m u)) h (λ u. with_ok-keeps r line m (λ x. if as_logical x then simple program s line m u go else go onward m u) h (λ x is. either-keeps (as_logical x) (simple program s line m u go) (go onward m u) (simple-keeps s line m u go unset keeps h) (keeps onward m u h)))
      step-keeps s line m t go unset keeps h = simple-keeps s line m t go unset keeps h

    -- ---- DO statements and block IFs

    -- trips of another DO statement
    fold_trips-keeps : (f : Meaning) → KeepsAll f → (line : ℕ) (variable : List ℕ) → bytes_eq variable v ≡ false → (by : ℤ) (range : Members) → Unset range → (is : List ℤ) (m : Map) (t : ℕ) → Has m → Has (fold_trips f line variable by range is m t).map
    unfolding fold_trips
    fold_trips-keeps f keeps line variable other by range unset [] m t h = h
    fold_trips-keeps f keeps line variable other by range unset (i ∷ is) m t h =
        goes_on-keeps (f range range m t) t (λ n u. added line variable by n (λ k. fold_trips f line variable by range is k u)) (keeps range range unset unset m t h) (λ n u hn. with_ok-keeps (integer (n variable [] +ℤ by)) line n (λ y. fold_trips f line variable by range is (put n variable [] (as_integer y)) u) hn (λ y is2. fold_trips-keeps f keeps line variable other by range unset is (put n variable [] (as_integer y)) u (put_other n variable [] (as_integer y) other ∙ hn)))

    module _ (scope : Scope) (f : Meaning) (all_kept : KeepsAll f) where
      looped-keeps : (s : ShapeTree) (line : ℕ) (range : Members) (m : Map) (t : ℕ) (go : Ways) → is_one_of (variables_set s) v ≡ false → Unset range → WaysKeep go → Has m → Has (looped scope f s line range m t go).map
      unfolding looped
      looped-keeps (doing label comma variable limits) line range m t go unset inside keeps h =
          let other = other_first variable [] unset in
          turn-keeps line m t (λ u. with_ok (span_of scope limits m) line m (λ s. leads_on (trips_from f line variable range m u s) u go)) h (λ u. with_ok-keeps (span_of scope limits m) line m (λ s. leads_on (trips_from f line variable range m u s) u go) h (λ s is. leads_on-keeps (trips_from f line variable range m u s) u go (fold_trips-keeps f all_kept line variable other s.step range inside (trips s.first s.last s.step) (put m variable [] s.first) u (put_other m variable [] s.first other ∙ h)) keeps))
      looped-keeps s line range m t go unset inside keeps h = keeps onward m t h

      again-keep : (again : Follow) (go : Ways) → Keeps again → WaysKeep go → WaysKeep (ways_again again go)
      again-keep again go further keeps onward n u h = further n u h
      again-keep again go further keeps (at_label s) n u h = keeps (at_label s) n u h

      repeated-keeps : (e : ExprTree) (line : ℕ) (range : Members) (again : Follow) → Keeps again → (m : Map) (t : ℕ) (go : Ways) → Unset range → WaysKeep go → Has m → Has (repeated scope f e line range again m t go).map
      unfolding repeated
      repeated-keeps e line range again further m t go inside keeps h =
          let r = value scope e m in
          turn-keeps line m t (λ u. with_ok r line m (λ x. if as_logical x then leads_on (f range range m u) u (ways_again again go) else go onward m u)) h (λ u. with_ok-keeps r line m (λ x. if as_logical x then leads_on (f range range m u) u (ways_again again go) else go onward m u) h (λ x is. either-keeps (as_logical x) (leads_on (f range range m u) u (ways_again again go)) (go onward m u) (leads_on-keeps (f range range m u) u (ways_again again go) (all_kept range range inside inside m u h) (again-keep again go further keeps)) (keeps onward m u h)))

      loop_by-keeps : (o : Option ExprTree) (x : ItemTree) (range : Members) (again : Follow) → Keeps again → (m : Map) (t : ℕ) (go : Ways) → is_one_of (variables_set x.shape) v ≡ false → Unset range → WaysKeep go → Has m → Has (loop_by o scope f x range again m t go).map
      unfolding loop_by
      loop_by-keeps None x range again further m t go unset inside keeps h = looped-keeps x.shape x.line range m t go unset inside keeps h
      loop_by-keeps (Some e) x range again further m t go unset inside keeps h =
          repeated-keeps e x.line range again further m t go inside keeps h

      arms_from-keeps : (first : Bool) (arms : Arms) (m : Map) (t : ℕ) (go : Ways) → list_any (sets v) (flat_arms arms) ≡ false → WaysKeep go → Has m → Has (arms_from scope f first arms m t go).map
      unfolding arms_from tested
      arms_from-keeps first no_arms m t go unset keeps h = keeps onward m t h
      arms_from-keeps first (arm x body arms) m t go unset keeps h =
          let c = holds scope (condition_of x.shape) m in
          let parts = any-parts (sets v) (flat body) (flat_arms arms) (or-parts (sets v x) (list_any (sets v) (flat body ++ flat_arms arms)) unset).1 in
          turn_if-keeps _ x.line m t (λ u. with_ok c x.line m (λ b. if b then leads_on (f body body m u) u go else arms_from scope f false arms m u go)) h (λ u. with_ok-keeps c x.line m (λ b. if b then leads_on (f body body m u) u go else arms_from scope f false arms m u go) h (λ b is. either-keeps b (leads_on (f body body m u) u go) (arms_from scope f false arms m u go) (leads_on-keeps (f body body m u) u go (all_kept body body parts.0 parts.0 m u h) keeps) (arms_from-keeps false arms m u go parts.1 keeps h)))

      -- ---- lists

      goes_at-keeps : (all : Members) → Unset all → (o : Option Members) → ((rest : Members) → o ≡ Some rest → Unset rest) → (s : ℕ) → Keeps (goes_at f all o s)
      goes_at-keeps all unset (Some rest) inside s n u h = all_kept all rest unset (inside rest refl) n u h
      goes_at-keeps all unset None inside s n u h = h

    either-unset : (b : Bool) (ms : Members) (o : Option Members) (rest : Members) → Unset ms → (o ≡ Some rest → Unset rest) → (if b then Some ms else o) ≡ Some rest → Unset rest
    either-unset true ms o rest unset other e = let same : ms ≡ rest = cc in subst Unset same unset
    either-unset false ms o rest unset other e = other e

    -- what is left of a list from a label on
    labelled-unset : (s : ℕ) (ms : Members) → Unset ms → (rest : Members) → labelled s ms ≡ Some rest → Unset rest
    unfolding labelled
    labelled-unset s none unset rest e = absurd cc
    labelled-unset s (plain x ms) unset rest e =
        let parts = or-parts (sets v x) (list_any (sets v) (flat ms)) unset in
        either-unset (has_label s x) (plain x ms) (labelled s ms) rest unset (λ k. labelled-unset s ms parts.1 rest k) e
    labelled-unset s (loop x range ms) unset rest e =
        let parts = or-parts (sets v x) (list_any (sets v) (flat range ++ flat ms)) unset in
        let inner = any-parts (sets v) (flat range) (flat ms) parts.1 in
        either-unset (has_label s x) (loop x range ms) (labelled s ms) rest unset (λ k. labelled-unset s ms inner.1 rest k) e
    labelled-unset s (block arms x ms) unset rest e =
        let parts = any-parts (sets v) (flat_arms arms) (x ∷ flat ms) unset in
        let further = or-parts (sets v x) (list_any (sets v) (flat ms)) parts.1 in
        either-unset (heads s arms) (block arms x ms) (if has_label s x then Some ms else labelled s ms) rest unset (λ k. either-unset (has_label s x) ms (labelled s ms) rest further.1 (λ q. labelled-unset s ms further.1 rest q) k) e

    ways-keep : (scope : Scope) (f : Meaning) → KeepsAll f → (all : Members) → Unset all → (go : Follow) → Keeps go → WaysKeep (ways_in f all go)
    ways-keep scope f all_kept all unset go keeps onward n u h = keeps n u h
    ways-keep scope f all_kept all unset go keeps (at_label s) n u h =
        goes_at-keeps scope f all_kept all unset (labelled s all) (λ rest e. labelled-unset s all unset rest e) s n u h

    pass_over-keeps : (program : List ItemTree) (f : Meaning) → KeepsAll f → KeepsAll (pass_over program f)
    unfolding pass_over
    pass_over-keeps program f keeps all none unset inside m t h = h
    pass_over-keeps program f keeps all (plain x ms) unset inside m t h =
        let parts = or-parts (sets v x) (list_any (sets v) (flat ms)) inside in
        step-keeps program x.shape x.line m t _ parts.0 (ways-keep (scope_of program) f keeps all unset (λ n u. pass_over program f all ms n u) (λ n u hn. pass_over-keeps program f keeps all ms unset parts.1 n u hn)) h
    pass_over-keeps program f keeps all (loop x range ms) unset inside m t h =
        let parts = or-parts (sets v x) (list_any (sets v) (flat range ++ flat ms)) inside in
        let inner = any-parts (sets v) (flat range) (flat ms) parts.1 in
        loop_by-keeps (scope_of program) f keeps (while_of x.shape) x range (f all (loop x range ms)) (λ n u hn. keeps all (loop x range ms) unset inside n u hn) m t _ parts.0 inner.0 (ways-keep (scope_of program) f keeps all unset (λ n u. pass_over program f all ms n u) (λ n u hn. pass_over-keeps program f keeps all ms unset inner.1 n u hn)) h
    pass_over-keeps program f keeps all (block arms x ms) unset inside m t h =
        let parts = any-parts (sets v) (flat_arms arms) (x ∷ flat ms) inside in
        let further = or-parts (sets v x) (list_any (sets v) (flat ms)) parts.1 in
        arms_from-keeps (scope_of program) f keeps true arms m t _ parts.0 (ways-keep (scope_of program) f keeps all unset (λ n u. pass_over program f all ms n u) (λ n u hn. pass_over-keeps program f keeps all ms unset further.1 n u hn)) h

    fuelled-keeps : (program : List ItemTree) (n : ℕ) → KeepsAll (fuelled program n)
    unfolding fuelled
    fuelled-keeps program zero all rest unset inside m t h = h
    fuelled-keeps program (suc n) all rest unset inside m t h =
        pass_over-keeps program (fuelled program n) (fuelled-keeps program n) all rest unset inside m t h

    pub exec-keeps : (program : List ItemTree) → KeepsAll (exec program)
    unfolding exec
    exec-keeps program all rest unset inside m t h = fuelled-keeps program (suc t) all rest unset inside m t h

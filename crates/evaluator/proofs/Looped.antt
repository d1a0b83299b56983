-- Lists of statements, the trips of a DO statement, and the arms of a block IF.
use Rattle.std.proofs.Common.{◌≡◌, append_assoc, Bool, true, false, Result, Ok, ℕ, ℤ, pos, zero, suc, ◌+◌, ◌<◌, ◌≤◌, List, [], ◌∷◌, ◌++◌, length, get_or, drop, if◌then◌else◌, Option, Some, None, Err, refl, sym, ap, ◌∙◌, arith, subst}
use Rattle.std.specs.Prelude.{IsTrue, not}
use Rattle.std.specs.List.{AllByRecursion}
use mathlib.Core.Path.{fun_ext}
use Rattle.std.proofs.lemmas.Bool.{false≢true}
use Rattle.std.proofs.lemmas.List.{append-nil, drop_more, drop_all, length-map}
use Rattle.std.proofs.lemmas.List.FromFn.{length-range_with_len}
use Rattle.meaning.specs.declared.syntax.Arm.{Arm}
use Rattle.meaning.specs.declared.syntax.Member.{Member, Plain, Loop, Loop', Block}
use Rattle.meaning.specs.declared.syntax.Block.{Block', out-Block, items_shown-the_row-Arm-1}
use Rattle.meaning.specs.declared.syntax.Loop.{Loop as LoopOf, out-Loop}
use Rattle.meaning.specs.declared.ending.FaultKind.{FaultKind}
use Rattle.meaning.specs.declared.ending.FaultKind.TheVariants.{F4}
use Rattle.meaning.specs.declared.ending.Outcome.{Outcome}
use Rattle.meaning.specs.declared.ending.Outcome.TheVariants as outcomes
use Rattle.meaning.specs.Syntax.{ExprTree, ItemTree, ShapeTree, LimitsTree, doing, shape_tree}
use Rattle.meaning.specs.Trees.{Members, none, flat, flat_arms, row_arms, item_tree, member_before, row_members, members_tree, arms_tree}
use Rattle.meaning.specs.Trips.{Span, span_of, trips}
use Rattle.meaning.specs.Scopes.{scope_of}
use Rattle.meaning.specs.Values.{Scope, Valued, value, as_logical}
use Rattle.meaning.specs.Maps.{Map, put}
use Rattle.meaning.specs.Stores.{Cells, World, Reads, Does}
use Rattle.meaning.specs.Execution.{Ran, Meaning, Follow, Ways, onward, at_label, ended, ended_by, jump, more, with_ok, goes_on, leads_on, added, fold_trips, trips_from, looped, truth_of, while_of, ways_again, repeated, loop_by, tested, arms_from, labelled, goes_at, ways_in, pass_over, exec, turn}
use Rattle.meaning.proofs.Running.{exec_is, more-more}
use Rattle.meaning.proofs.Stores.{does_then}
use Rattle.meaning.proofs.Ranges.{range_is, row_arms-items, member_before-block, left_arms}
use Rattle.meaning.specs.declared.syntax.Tree.{Tree}
use Rattle.program.specs.declared.action.Repeat.{Repeat}
use Rattle.program.specs.Acts.{Repeats}
use Rattle.program.specs.Asked.{is_doing}
use Rattle.program.specs.Codes.{IsCell}
use Rattle.evaluator.specs.Quiet.{variable_of}
use Rattle.evaluator.specs.Member.{member_does}
use Rattle.evaluator.specs.Over.{condition_tested, loop_as, values_by, trips_as, repeated_as, while_as}
use Rattle.evaluator.specs.Passed.{PassesBy, passed_behind}
use Rattle.evaluator.specs.Statements.{IsEnd, Leaves, Passes, Moves, Reaches, Comes, Picks, Adds, GoesAgain}
use Rattle.evaluator.proofs.Composed.{add_turns, leaves_behind, reaches_end, reaches_more, leaves_on, leaves_along, ends_there, moves_behind, comes_then, reads_and_does}
use Rattle.evaluator.proofs.Executed.{added_goes, added_fails, fault_at, one_less, turn_none, turn_fails, turn_goes}

-- ---- what holds of each statement

pub split-all : {A : Type 0} (P : A → Type 0) (xs ys : List A) → AllByRecursion P (xs ++ ys) → AllByRecursion P xs × AllByRecursion P ys
split-all P [] ys h = (tt, h)
split-all P (x ∷ xs) ys h = let r = split-all P xs ys h.1 in ((h.0, r.0), r.1)

pub flat-before : (x : Member) (ms : Members) → flat (member_before x ms) ≡ flat (member_before x none) ++ flat ms
flat-before (Plain x) ms = refl
flat-before (Loop' head shape range) ms =
    ap (λ xs. item_tree head ∷ (xs ++ flat ms)) (sym (append-nil (flat (row_members range))))
flat-before (Block (Block' shape arms end)) ms = sym (append_assoc (flat_arms (row_arms arms)) (item_tree end ∷ []) (flat ms))

module _ (P : ItemTree → Type 0) where
  pub known_at : (ms : List Member) (i : ℕ) (x : Member) → i < length ms → x ≡ get_or ms i x → AllByRecursion P (flat (members_tree ms)) → AllByRecursion P (flat (member_before x none))
  known_at [] i x lt is h = absurd (omega arith)
  known_at (y ∷ ys) zero x lt is h =
      subst (λ z. AllByRecursion P (flat (member_before z none))) (sym is) (split-all P (flat (member_before y none)) (flat (members_tree ys)) (subst (λ xs. AllByRecursion P xs) (flat-before y (members_tree ys)) h)).0
  known_at (y ∷ ys) (suc i) x lt is h =
      known_at ys i x (omega arith) is (split-all P (flat (member_before y none)) (flat (members_tree ys)) (subst (λ xs. AllByRecursion P xs) (flat-before y (members_tree ys)) h)).1

  -- of a DO statement, and of those in its range
  pub head_known : (x : Member) (l : LoopOf) → x ≡ Loop l → AllByRecursion P (flat (member_before x none)) → P (item_tree (out-Loop l).head)
  head_known x l is h = (subst (λ y. AllByRecursion P (flat (member_before y none))) is h).0

  pub range_known : (x : Member) (l : LoopOf) → x ≡ Loop l → AllByRecursion P (flat (member_before x none)) → AllByRecursion P (flat (members_tree (out-Loop l).range.items))
  range_known x l is h =
      subst (λ ms. AllByRecursion P (flat ms)) (range_is l) (split-all P _ [] (subst (λ y. AllByRecursion P (flat (member_before y none))) is h).1).0

  -- of the arms of a block IF, of the first statement of each, and of its list
  pub arms_known : (x : Member) (b : _) → x ≡ Block b → AllByRecursion P (flat (member_before x none)) → AllByRecursion P (flat_arms (arms_tree (out-Block b).arms.items))
  arms_known x b is h =
      (split-all P (flat_arms (arms_tree (out-Block b).arms.items)) (item_tree (out-Block b).end ∷ []) (subst (λ ms. AllByRecursion P (flat ms)) (ap (λ y. member_before y none) is ∙ member_before-block b none) h)).0

  pub arm_known : (arms : List Arm) (i : ℕ) (a : Arm) → i < length arms → a ≡ get_or arms i a → AllByRecursion P (flat_arms (arms_tree arms)) → P (item_tree a.head)
  arm_known [] i a lt is h = absurd (omega arith)
  arm_known (b ∷ bs) zero a lt is h = subst (λ z. P (item_tree z.head)) (sym is) h.0
  arm_known (b ∷ bs) (suc i) a lt is h =
      arm_known bs i a (omega arith) is (split-all P (flat (members_tree b.body.items)) (flat_arms (arms_tree bs)) h.1).1

  pub body_known : (arms : List Arm) (i : ℕ) (a : Arm) → i < length arms → a ≡ get_or arms i a → AllByRecursion P (flat_arms (arms_tree arms)) → AllByRecursion P (flat (members_tree a.body.items))
  body_known [] i a lt is h = absurd (omega arith)
  body_known (b ∷ bs) zero a lt is h =
      subst (λ z. AllByRecursion P (flat (members_tree z.body.items))) (sym is) (split-all P (flat (members_tree b.body.items)) (flat_arms (arms_tree bs)) h.1).0
  body_known (b ∷ bs) (suc i) a lt is h =
      body_known bs i a (omega arith) is (split-all P (flat (members_tree b.body.items)) (flat_arms (arms_tree bs)) h.1).1

-- ---- lists

module _ (program : List ItemTree) where
  pub loop_does : (rec : Meaning) (l : LoopOf) (again : Follow) (m : Map) (t : ℕ) (go : Ways) → member_does program rec (Loop l) again m t go ≡ loop_by (while_of (shape_tree (out-Loop l).head.form.shape.value)) (scope_of program) rec (item_tree (out-Loop l).head) (members_tree (out-Loop l).range.items) again m t go
  loop_does rec l again m t go =
      ap (λ range. loop_by (while_of (shape_tree (out-Loop l).head.form.shape.value)) (scope_of program) rec (item_tree (out-Loop l).head) range again m t go) (range_is l)

  pub block_does : (rec : Meaning) (b : _) (again : Follow) (m : Map) (t : ℕ) (go : Ways) → member_does program rec (Block b) again m t go ≡ arms_from (scope_of program) rec true (arms_tree (out-Block b).arms.items) m t go
  unfolding out-Block Rattle.meaning.specs.declared.syntax.Member.TheBlock.shown-the_row-Arm-1 denote.Hole.Carrier.out denote.Hole.Carrier.shown
  block_does rec (Block' shape arms end) again m t go =
      ap (λ xs. arms_from (scope_of program) rec true xs m t go) (row_arms-items _ arms ∙ ap arms_tree (sym (items_shown-the_row-Arm-1 shape arms)))

  head-does : (rec : Meaning) (all : Members) (x : Member) (ms : Members) (m : Map) (t : ℕ) → pass_over program rec all (member_before x ms) m t ≡ member_does program rec x (rec all (member_before x ms)) m t (ways_in rec all (λ n u. pass_over program rec all ms n u))
  unfolding pass_over
  head-does rec all (Plain x) ms m t = refl
  head-does rec all (Loop' head shape range) ms m t = refl
  head-does rec all (Block (Block' shape arms end)) ms m t = refl

  module _ (ms : List Member) where
    abbrev all : Members
    all = members_tree ms

    -- what the members from a place on do
    abbrev pub from_place : ℕ → Map → ℕ → Ran
    from_place i m t = exec program all (members_tree (drop i ms)) m t

    -- what follows the member at a place
    abbrev pub behind_place : ℕ → Ways
    behind_place i = ways_in (exec program) all (λ n u. from_place (i + 1) n u)

    pub at_place : (i : ℕ) (x : Member) (m : Map) (t : ℕ) → i < length ms → x ≡ get_or ms i x → from_place i m t ≡ member_does program (exec program) x (from_place i) m t (behind_place i)
    at_place i x m t lt is =
        let rest = members_tree (drop (i + 1) ms) in
        let left = drop_more ms i x lt ∙ ap (λ y. y ∷ drop (i + 1) ms) (sym is) in
        ap (λ xs. exec program all (members_tree xs) m t) left ∙ exec_is program all (member_before x rest) m t ∙ head-does (exec program) all x rest m t ∙ ap (λ go. member_does program (exec program) x (exec program all (member_before x rest)) m t (ways_in (exec program) all go)) (fun_ext (λ n. fun_ext (λ u. sym (exec_is program all rest n u)))) ∙ ap (λ xs. member_does program (exec program) x (exec program all (members_tree xs)) m t (behind_place i)) (sym left)

    pub at_end_of : (i : ℕ) (m : Map) (t : ℕ) → length ms ≤ i → from_place i m t ≡ ended m
    unfolding pass_over
    at_end_of i m t le = ap (λ xs. exec program all (members_tree xs) m t) (drop_all i ms le) ∙ exec_is program all none m t

    module _ (whole : Ran) (given i t : ℕ) (m : Map) (s : Reaches whole (from_place i m t) given t) where
      pub last_member : length ms ≤ i → Leaves whole given m t outcomes.Normal
      last_member le = reaches_end whole _ given t s m (at_end_of i m t le)

      module _ (x : Member) (new : Map) (left : ℕ) (lt : i < length ms) (is : x ≡ get_or ms i x) where
        abbrev steps : Ways → Ran
        steps go = member_does program (exec program) x (from_place i) m t go

        pub member_goes : Passes steps t onward new left → Reaches whole (from_place (i + 1) new left) given left
        member_goes g =
            reaches_more whole _ given t s (from_place (i + 1) new left) g.used left (at_place i x m t lt is ∙ g.is (behind_place i)) g.turns

        -- it is executed again
        pub member_again : GoesAgain steps t (from_place i) new left → Reaches whole (from_place i new left) given left
        member_again g =
            reaches_more whole _ given t s (from_place i new left) g.used left (at_place i x m t lt is ∙ g.is (behind_place i)) g.turns

        -- a jump inside the list, and out of it
        pub member_jumps : (label j : ℕ) → Some (members_tree (drop j ms)) ≡ labelled label all → Passes steps t (at_label label) new left → Reaches whole (from_place j new left) given left
        member_jumps label j found g =
            reaches_more whole _ given t s (from_place j new left) g.used left (at_place i x m t lt is ∙ g.is (behind_place i) ∙ ap (λ o. more [] g.used (goes_at (exec program) all o label new left)) (sym found)) g.turns

        pub member_leaves : (label : ℕ) → None ≡ labelled label all → Passes steps t (at_label label) new left → Leaves whole given new left (outcomes.Left label)
        member_leaves label found g =
            let r = reaches_more whole _ given t s (ended_by (jump label) new) g.used left (at_place i x m t lt is ∙ g.is (behind_place i) ∙ ap (λ o. more [] g.used (goes_at (exec program) all o label new left)) (sym found)) g.turns in
            leaves_behind whole (ended_by (jump label) new) given left r new left (outcomes.Left label) (record { outcome = refl; after = refl; nothing = refl; turns = omega arith })

        pub member_ends : (o : Outcome) → ((go : Ways) → Leaves (steps go) t new left o) → Leaves whole given new left o
        member_ends o h =
            leaves_behind whole _ given t s new left o (subst (λ r. Leaves r t new left o) (sym (at_place i x m t lt is)) (h (behind_place i)))

-- ---- trips

module _ (rec : Meaning) (line : ℕ) (variable : List ℕ) (first by : ℤ) (count : ℕ) (range : Members) where
  -- the trips from a place on
  abbrev pub trips_left : ℕ → Map → ℕ → Ran
  trips_left i m t = fold_trips rec line variable by range (drop i (values_by first by count)) m t

  -- what follows the range at a place
  abbrev pub behind_range : ℕ → Follow
  behind_range i n u = added line variable by n (λ k. trips_left (i + 1) k u)

  length-trips : length (values_by first by count) ≡ count
  length-trips = length-map _ _ ∙ length-range_with_len 0 count

  pub at_trip : (i : ℕ) (m : Map) (t : ℕ) → i < count → trips_left i m t ≡ goes_on (rec range range m t) t (behind_range i)
  unfolding fold_trips
  at_trip i m t lt =
      ap (λ xs. fold_trips rec line variable by range xs m t) (drop_more (values_by first by count) i (pos 0) (let e = length-trips in omega arith))

  pub at_last_trip : (i : ℕ) (m : Map) (t : ℕ) → count ≤ i → trips_left i m t ≡ ended m
  unfolding fold_trips
  at_last_trip i m t le =
      ap (λ xs. fold_trips rec line variable by range xs m t) (drop_all i (values_by first by count) (let e = length-trips in omega arith))

  module _ (whole : Ran) (given i t : ℕ) (m : Map) (s : Reaches whole (trips_left i m t) given t) where
    pub last_trip : count ≤ i → Leaves whole given m t outcomes.Normal
    last_trip le = reaches_end whole _ given t s m (at_last_trip i m t le)

    module _ (new : Map) (left : ℕ) (lt : i < count) where
      range_goes : Leaves (rec range range m t) t new left outcomes.Normal → Reaches whole (behind_range i new left) given left
      range_goes x =
          reaches_more whole _ given t s (behind_range i new left) (rec range range m t).used left (at_trip i m t lt ∙ leaves_along (rec range range m t) t new left x (behind_range i)) x.turns

      pub trip_goes : (k : Map) → Leaves (rec range range m t) t new left outcomes.Normal → Adds variable by new k (Ok tt) → Reaches whole (trips_left (i + 1) k left) given left
      trip_goes k x adds =
          subst (λ r. Reaches whole r given left) (added_goes line variable by new k adds (λ n. trips_left (i + 1) n left)) (range_goes x)

      pub trip_ends : (o : Outcome) → IsEnd o → Leaves (rec range range m t) t new left o → Leaves whole given new left o
      trip_ends o end x =
          leaves_behind whole _ given t s new left o (subst (λ r. Leaves r t new left o) (sym (at_trip i m t lt ∙ ends_there (rec range range m t) t new left o end x (behind_range i))) x)

      pub sum_faults : (k : Map) (kind : FaultKind) → Leaves (rec range range m t) t new left outcomes.Normal → Adds variable by new k (Err kind) → Leaves whole given k left (fault_at kind line)
      sum_faults k kind x adds =
          leaves_behind whole _ given left (range_goes x) k left (fault_at kind line) (subst (λ r. Leaves r left k left (fault_at kind line)) (sym (added_fails line variable by new kind adds.0 (λ n. trips_left (i + 1) n left))) (record { outcome = refl; after = sym adds.1; nothing = refl; turns = omega arith }))

-- ---- DO statements

module _ (scope : Scope) (rec : Meaning) (label : Option (List ℕ)) (comma : Bool) (variable : List ℕ) (limits : LimitsTree) (line : ℕ) (range : Members) (m : Map) (t : ℕ) where
  abbrev does : Ways → Ran
  does go = looped scope rec (doing label comma variable limits) line range m t go

  pub do_unmoved : (u : ℕ) → t ≡ 0 → u ≡ 0 → Moves does t m u (fault_at F4 line)
  unfolding looped
  do_unmoved u out left go =
      turn_none line m t u (λ n. with_ok (span_of scope limits m) line m (λ s. leads_on (trips_from rec line variable range m n s) n go)) out left

  module _ (u : ℕ) (taken : t ≡ suc u) where
    pub do_faults : (k : FaultKind) → span_of scope limits m ≡ Err k → Moves does t m u (fault_at k line)
    unfolding looped
    do_faults k h go =
        turn_fails line m t u (span_of scope limits m) k (λ s n. leads_on (trips_from rec line variable range m n s) n go) taken h

    pub do_is : (s : Span) → span_of scope limits m ≡ Ok s → (go : Ways) → does go ≡ more [] 1 (leads_on (trips_from rec line variable range m u s) u go)
    unfolding looped
    do_is s h go = turn_goes line m t u (span_of scope limits m) s (λ y n. leads_on (trips_from rec line variable range m n y) n go) taken h

    pub do_moves : (s : Span) (first new : Map) (left : ℕ) (o : Outcome) → span_of scope limits m ≡ Ok s → first ≡ put m variable [] s.first → Leaves (fold_trips rec line variable s.step range (trips s.first s.last s.step) first u) u new left o → Moves does t new left o
    do_moves s first new left o h e x =
        moves_behind does (λ go. leads_on (trips_from rec line variable range m u s) u go) t u new left o (record { used = 1; is = do_is s h; turns = one_less t u taken }) (leaves_on (trips_from rec line variable range m u s) u new left o (subst (λ n. Leaves (fold_trips rec line variable s.step range (trips s.first s.last s.step) n u) u new left o) e x))

-- what is kept of a DO statement: its variable's cell, and what it says
module _ (t : Tree) (r : Repeat) (s : ShapeTree) (d : Repeats t r s) where
  pub counted_cell : IsCell t (variable_of s) r.variable
  counted_cell = subst (λ x. IsCell t (variable_of x) r.variable) (sym d.is) d.counted

  pub says : s ≡ doing d.label d.comma (variable_of s) d.limits
  says = d.is ∙ ap (λ v. doing d.label d.comma v d.limits) (sym (ap variable_of d.is))

-- what is no DO statement is passed over
pub unless_do : (s : ShapeTree) (scope : Scope) (rec : Meaning) (line : ℕ) (range : Members) (m : Map) (t : ℕ) → IsTrue (not (is_doing s)) → (go : Ways) → looped scope rec s line range m t go ≡ go onward m t
unfolding looped
unless_do (doing label comma variable limits) scope rec line range m t h go = absurd (false≢true h)
unless_do s scope rec line range m t h go = refl

-- ---- DO WHILE statements

-- a value's truth, and what follows it
truth-with : (r : Valued) (line : ℕ) (m : Map) (go : Bool → Ran) → with_ok r line m (λ v. go (as_logical v)) ≡ with_ok (truth_of r) line m go
unfolding with_ok
truth-with (Ok v) line m go = refl
truth-with (Err k) line m go = refl

module _ (scope : Scope) (rec : Meaning) (e : ExprTree) (line : ℕ) (range : Members) (again : Follow) (m : Map) (t : ℕ) where
  abbrev whiles : Ways → Ran
  whiles go = repeated scope rec e line range again m t go

  abbrev while_test : (Bool → ℕ → Ran) → Ran
  while_test go = condition_tested scope e line m t go

  -- what follows its test
  abbrev behind_test : Ways → Bool → ℕ → Ran
  behind_test go b u = if b then leads_on (rec range range m u) u (ways_again again go) else go onward m u

  while-tests : (go : Ways) → whiles go ≡ while_test (behind_test go)
  unfolding repeated
  while-tests go = λ i. turn line m t (λ u. truth-with (value scope e m) line m (λ b. behind_test go b u) i)

  module _ (u : ℕ) where
    -- false: execution goes on behind it
    pub while_ends : Picks while_test t false u → Passes whiles t onward m u
    while_ends x = record { used = x.used; is = λ go. while-tests go ∙ x.is (behind_test go); turns = x.turns }

    pub while_faults : (f : _) → ((go : Bool → ℕ → Ran) → Leaves (while_test go) t m u (outcomes.Fault f)) → Moves whiles t m u (outcomes.Fault f)
    while_faults f h go =
        subst (λ r. Leaves r t m u (outcomes.Fault f)) (sym (while-tests go)) (h (behind_test go))

    module _ (x : Picks while_test t true u) (new : Map) (left : ℕ) where
      pub while_comes : (go : Ways) → whiles go ≡ more [] x.used (leads_on (rec range range m u) u (ways_again again go))
      while_comes go = while-tests go ∙ x.is (behind_test go)

      -- true, and the range ended normally
      while-again : Passes (λ go. leads_on (rec range range m u) u go) u onward new left → GoesAgain whiles t again new left
      unfolding more
      while-again p =
          record {
            used = x.used + p.used;
            is = λ go. while_comes go ∙ ap (λ r. more [] x.used r) (p.is (ways_again again go)) ∙ more-more [] [] x.used p.used (again new left);
            turns = add_turns x.used p.used left u t x.turns p.turns;
          }

      -- true, and the range ended otherwise
      while-leaves : (o : Outcome) → Moves (λ go. leads_on (rec range range m u) u (ways_again again go)) u new left o → Moves whiles t new left o
      while-leaves o y =
          moves_behind whiles (λ go. leads_on (rec range range m u) u (ways_again again go)) t u new left o (record { used = x.used; is = while_comes; turns = x.turns }) y

      while-passes : (o : Outcome) → Moves (λ go. leads_on (rec range range m u) u go) u new left o → PassesBy whiles t again new left (passed_behind o)
      while-passes outcomes.Normal p = while-again p
      while-passes (outcomes.Left s) p =
          while-leaves (outcomes.Left s) (record { used = p.used; is = λ go. p.is (ways_again again go); turns = p.turns })
      while-passes (outcomes.Stopped l) p = while-leaves (outcomes.Stopped l) (λ go. p (ways_again again go))
      while-passes (outcomes.Fault f) p = while-leaves (outcomes.Fault f) (λ go. p (ways_again again go))

      pub while_passes : (o : Outcome) → Leaves (rec range range m u) u new left o → PassesBy whiles t again new left (passed_behind o)
      while_passes o y = while-passes o (leaves_on (rec range range m u) u new left o y)

module _ (all : List ItemTree) (l : LoopOf) where
  pub while_is : (e : ExprTree) → while_of (shape_tree (out-Loop l).head.form.shape.value) ≡ Some e → (again : Follow) (m : Map) (t : ℕ) (go : Ways) → while_as all l again m t go ≡ repeated (scope_of all) (exec all) e (out-Loop l).head.line (members_tree (out-Loop l).range.items) again m t go
  unfolding loop_by
  while_is e is again m t go =
      ap (λ o. loop_by o (scope_of all) (exec all) (item_tree (out-Loop l).head) (members_tree (out-Loop l).range.items) again m t go) is

  -- a DO statement is none
  pub while_none : while_of (shape_tree (out-Loop l).head.form.shape.value) ≡ None → (again : Follow) (m : Map) (t : ℕ) (go : Ways) → while_as all l again m t go ≡ loop_as all (shape_tree (out-Loop l).head.form.shape.value) l m t go
  unfolding loop_by
  while_none is again m t go =
      ap (λ o. loop_by o (scope_of all) (exec all) (item_tree (out-Loop l).head) (members_tree (out-Loop l).range.items) again m t go) is

-- a range by itself, when the variable has its first value
pub repeated_runs : (all : List ItemTree) (l : LoopOf) (first by : ℤ) (count : ℕ) (m n : Map) (t : ℕ) (r : Ran) → n ≡ put m (variable_of (shape_tree (out-Loop l).head.form.shape.value)) [] first → trips_as all l (variable_of (shape_tree (out-Loop l).head.form.shape.value)) first by count n t ≡ r → repeated_as all l first by count m t ≡ r
repeated_runs all l first by count m n t r set runs =
    let variable = variable_of (shape_tree (out-Loop l).head.form.shape.value) in
    ap (λ y. trips_as all l variable first by count y t) (sym set) ∙ runs

-- ---- over any store

module _ (at : Cells → Map) (scope : Scope) (rec : Meaning) (label : Option (List ℕ)) (comma : Bool) (variable : List ℕ) (limits : LimitsTree) (line : ℕ) (range : Members) (t u : ℕ) (taken : t ≡ suc u) where
  -- limits, the first value of the variable, and the trips
  pub do_does : (w0 w1 w2 w3 : World) (s : Span) (first : ℤ) (left : ℕ) (o : Outcome) → first ≡ s.first → Reads w0 w1 (λ m. span_of scope limits (at m) ≡ Ok s) → Does w1 w2 (λ m n. at n ≡ put (at m) variable [] first) → Does w2 w3 (λ m n. Leaves (fold_trips rec line variable s.step range (trips s.first s.last s.step) (at m) u) u (at n) left o) → Does w0 w3 (λ m n. Moves (λ go. looped scope rec (doing label comma variable limits) line range (at m) t go) t (at n) left o)
  do_does w0 w1 w2 w3 s first left o is reads set trips_do =
      let Trips : Cells → Cells → Type 0 = λ m k. (n : Map) × ((n ≡ put (at m) variable [] first) × Leaves (fold_trips rec line variable s.step range (trips s.first s.last s.step) n u) u (at k) left o) in
      reads_and_does w0 w1 w3 (λ m. span_of scope limits (at m) ≡ Ok s) Trips (λ m n. Moves (λ go. looped scope rec (doing label comma variable limits) line range (at m) t go) t (at n) left o) reads (does_then w1 w2 w3 (λ m n. at n ≡ put (at m) variable [] first) (λ m n. Leaves (fold_trips rec line variable s.step range (trips s.first s.last s.step) (at m) u) u (at n) left o) Trips set trips_do (λ m n k e x. (at n, (e, x)))) (λ m k h y. do_moves scope rec label comma variable limits line range (at m) t u taken s y.0 (at k) left o h (y.1.0 ∙ ap (put (at m) variable []) is) y.1.1)

module _ (at : Cells → Map) (rec : Meaning) (line : ℕ) (variable : List ℕ) (first by : ℤ) (count : ℕ) (range : Members) (whole : Cells → Ran) (given i t : ℕ) (lt : i < count) (w0 w w1 : World) (so_far : Does w0 w (λ m n. Reaches (whole m) (trips_left rec line variable first by count range i (at n) t) given t)) (left : ℕ) where
  -- a range that doesn't end normally
  pub range_ends : (o : Outcome) → IsEnd o → Does w w1 (λ m n. Leaves (rec range range (at m) t) t (at n) left o) → Does w0 w1 (λ m n. Leaves (whole m) given (at n) left o)
  range_ends o end range_does =
      does_then w0 w w1 (λ m n. Reaches (whole m) (trips_left rec line variable first by count range i (at n) t) given t) (λ m n. Leaves (rec range range (at m) t) t (at n) left o) (λ m n. Leaves (whole m) given (at n) left o) so_far range_does (λ m n k h x. trip_ends rec line variable first by count range (whole m) given i t (at n) h (at k) left lt o end x)

  module _ (w2 : World) (range_does : Does w w1 (λ m n. Leaves (rec range range (at m) t) t (at n) left outcomes.Normal)) where
    -- a range, and an addition to the variable
    abbrev Both : Result (Unit {0}) FaultKind → Cells → Cells → Type 0
    Both r m k = (n : Map) × (Leaves (rec range range (at m) t) t n left outcomes.Normal × Adds variable by n (at k) r)

    both : (r : Result (Unit {0}) FaultKind) → Does w1 w2 (λ m n. Adds variable by (at m) (at n) r) → Does w w2 (Both r)
    both r adds =
        does_then w w1 w2 (λ m n. Leaves (rec range range (at m) t) t (at n) left outcomes.Normal) (λ m n. Adds variable by (at m) (at n) r) (Both r) range_does adds (λ m n k x y. (at n, (x, y)))

    pub trip_does : Does w1 w2 (λ m n. Adds variable by (at m) (at n) (Ok tt)) → Does w0 w2 (λ m n. Reaches (whole m) (trips_left rec line variable first by count range (i + 1) (at n) left) given left)
    trip_does adds =
        does_then w0 w w2 (λ m n. Reaches (whole m) (trips_left rec line variable first by count range i (at n) t) given t) (Both (Ok tt)) (λ m n. Reaches (whole m) (trips_left rec line variable first by count range (i + 1) (at n) left) given left) so_far (both (Ok tt) adds) (λ m n k h x. trip_goes rec line variable first by count range (whole m) given i t (at n) h x.0 left lt (at k) x.1.0 x.1.1)

    pub addition_faults : (kind : FaultKind) → Does w1 w2 (λ m n. Adds variable by (at m) (at n) (Err kind)) → Does w0 w2 (λ m n. Leaves (whole m) given (at n) left (fault_at kind line))
    addition_faults kind adds =
        does_then w0 w w2 (λ m n. Reaches (whole m) (trips_left rec line variable first by count range i (at n) t) given t) (Both (Err kind)) (λ m n. Leaves (whole m) given (at n) left (fault_at kind line)) so_far (both (Err kind) adds) (λ m n k h x. sum_faults rec line variable first by count range (whole m) given i t (at n) h x.0 left lt (at k) kind x.1.0 x.1.1)

-- ---- arms

module _ (scope : Scope) (rec : Meaning) (arms : List Arm) where
  -- what the arms from a place on do
  abbrev pub arms_left : Bool → ℕ → Map → ℕ → Ways → Ran
  arms_left first i m t go = arms_from scope rec first (arms_tree (drop i arms)) m t go

  pub at_arm : (first : Bool) (i : ℕ) (a : Arm) (m : Map) (t : ℕ) (go : Ways) → i < length arms → a ≡ get_or arms i a → arms_left first i m t go ≡ tested scope first (item_tree a.head) m t (λ b u. if b then leads_on (rec (members_tree a.body.items) (members_tree a.body.items) m u) u go else arms_left false (i + 1) m u go)
  unfolding arms_from
  at_arm first i a m t go lt is = left_arms (λ xs. arms_from scope rec first xs m t go) arms i a lt is

  pub last_arm : (first : Bool) (i : ℕ) (m : Map) (t : ℕ) (go : Ways) → length arms ≤ i → arms_left first i m t go ≡ go onward m t
  unfolding arms_from
  last_arm first i m t go le = ap (λ xs. arms_from scope rec first (arms_tree xs) m t go) (drop_all i arms le)

  module _ (whole : Ways → Ran) (given : ℕ) (first : Bool) (i t : ℕ) (m : Map) (s : Comes whole (λ go. arms_left first i m t go) given t) where
    pub no_arm_left : length arms ≤ i → Passes whole given onward m t
    no_arm_left le = record { used = s.used; is = λ go. s.is go ∙ ap (λ r. more [] s.used r) (last_arm first i m t go le); turns = s.turns }

    module _ (a : Arm) (u : ℕ) (lt : i < length arms) (is : a ≡ get_or arms i a) where
      abbrev test : (Bool → ℕ → Ran) → Ran
      test go = tested scope first (item_tree a.head) m t go

      pub after_test : (b : Bool) → Picks test t b u → Comes (λ go. arms_left first i m t go) (λ go. if b then leads_on (rec (members_tree a.body.items) (members_tree a.body.items) m u) u go else arms_left false (i + 1) m u go) t u
      after_test b x = record { used = x.used; is = λ go. at_arm first i a m t go lt is ∙ x.is _; turns = x.turns }

      pub next_arm : Picks test t false u → Comes whole (λ go. arms_left false (i + 1) m u go) given u
      next_arm x = comes_then whole (λ go. arms_left first i m t go) (λ go. arms_left false (i + 1) m u go) given t u s (after_test false x)

      pub arm_runs : Picks test t true u → (new : Map) (left : ℕ) (o : Outcome) → Leaves (rec (members_tree a.body.items) (members_tree a.body.items) m u) u new left o → Moves whole given new left o
      arm_runs x new left o y =
          moves_behind whole (λ go. leads_on (rec (members_tree a.body.items) (members_tree a.body.items) m u) u go) given u new left o (comes_then whole (λ go. arms_left first i m t go) (λ go. leads_on (rec (members_tree a.body.items) (members_tree a.body.items) m u) u go) given t u s (after_test true x)) (leaves_on (rec (members_tree a.body.items) (members_tree a.body.items) m u) u new left o y)

      pub test_ends : (f : _) → ((go : Bool → ℕ → Ran) → Leaves (test go) t m u (outcomes.Fault f)) → Moves whole given m u (outcomes.Fault f)
      test_ends f h =
          moves_behind whole (λ go. arms_left first i m t go) given t m u (outcomes.Fault f) s (λ go. subst (λ r. Leaves r t m u (outcomes.Fault f)) (sym (at_arm first i a m t go lt is)) (h _))

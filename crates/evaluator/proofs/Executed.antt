-- One statement that takes a turn.
use Rattle.std.proofs.Common.{◌≡◌, ◌⊎◌, inl, inr, ℕ, ℤ, suc, ◌+◌, ◌+ℤ◌, ◌||◌, Bool, true, false, if◌then◌else◌, List, [], Option, Some, None, Result, Ok, Err, refl, sym, ap, ◌∙◌, subst, arith}
use Rattle.std.specs.Prelude.{not, IsSome, IsTrue, is_some}
use Rattle.std.proofs.lemmas.Bool.{false≢true}
use Rattle.meaning.specs.declared.ending.Fault.{Fault}
use Rattle.meaning.specs.declared.ending.FaultKind.{FaultKind}
use Rattle.meaning.specs.declared.ending.FaultKind.TheVariants.{F4}
use Rattle.meaning.specs.declared.ending.Value.{Value}
use Rattle.meaning.specs.declared.ending.Outcome.{Outcome}
use Rattle.meaning.specs.declared.ending.Outcome.TheVariants as outcomes
use Rattle.meaning.specs.declared.syntax.Tree.{Tree}
use Rattle.meaning.specs.Characters.{number_of}
use Rattle.meaning.specs.Scopes.{Definition, defined_by, scope_of}
use Rattle.meaning.specs.Syntax.{ExprTree, ExprsTree, FormatTree, ListItemsTree, ShapeTree, StopTree, ItemTree, assignment, writing, printing, doing, continuing, going, computed_going, arithmetic_if, logical_if, block_if, else_if, stopping, doing_while, end_do}
use Rattle.meaning.specs.Maps.{Map, put}
use Rattle.meaning.specs.Values.{Scope, value, as_integer, as_logical, integer}
use Rattle.meaning.specs.Execution.{Ran, more, Ways, onward, at_label, turn, with_ok, failed, added, assigned, unless_defined, simple, step, condition_of, truth_of, holds, turn_if, tested}
use Rattle.meaning.proofs.Running.{more-none}
use Rattle.label_targets.specs.Quiet.{is_writing, output_in, writes}
use Rattle.storage.specs.Checked.{items_in}
use Rattle.postfix.specs.declared.code.Code.{Code}
use Rattle.program.specs.declared.action.ListCodes.{ListCodes}
use Rattle.program.specs.declared.action.Repeat.{Repeat}
use Rattle.program.specs.Acts.{is_idle, Conditional, Defines, Repeats}
use Rattle.program.specs.Acts as acts
use Rattle.program.specs.Asked.{is_logical_if}
use Rattle.program.specs.Items.{AreItemsOf}
use Rattle.evaluator.specs.Over.{condition_tested}
use Rattle.evaluator.specs.Statements.{Sums, Leaves, Passes, Moves, Tests}

abbrev pub fault_at : FaultKind → ℕ → Outcome
fault_at k line = outcomes.Fault (record { kind = k; line = line })

pub one_less : (t u : ℕ) → t ≡ suc u → 1 + u ≡ t
one_less t u e = omega arith

module _ (line : ℕ) (m : Map) where
  -- no turn is left
  pub turn_none : (t u : ℕ) (does : ℕ → Ran) → t ≡ 0 → u ≡ 0 → Leaves (turn line m t does) t m u (fault_at F4 line)
  unfolding turn
  turn_none t u does e f =
      subst (λ n. Leaves (turn line m n does) t m u (fault_at F4 line)) (sym e) (record { outcome = refl; after = refl; nothing = refl; turns = omega arith })

  -- a turn is taken
  pub turn_some : (t u : ℕ) (does : ℕ → Ran) → t ≡ suc u → turn line m t does ≡ more [] 1 (does u)
  unfolding turn
  turn_some t u does e = ap (λ n. turn line m n does) e

  pub turn_goes : {A : Type 0} (t u : ℕ) (r : Result A FaultKind) (x : A) (does : A → ℕ → Ran) → t ≡ suc u → r ≡ Ok x → turn line m t (λ n. with_ok r line m (λ y. does y n)) ≡ more [] 1 (does x u)
  unfolding with_ok
  turn_goes t u r x does e h =
      turn_some t u (λ n. with_ok r line m (λ y. does y n)) e ∙ ap (λ s. more [] 1 (with_ok s line m (λ y. does y u))) h

  failed-behind : (t u : ℕ) (k : FaultKind) → t ≡ suc u → Leaves (more [] 1 (failed k line m)) t m u (fault_at k line)
  unfolding more
  failed-behind t u k e = record { outcome = refl; after = refl; nothing = refl; turns = omega arith }

  pub turn_fails : {A : Type 0} (t u : ℕ) (r : Result A FaultKind) (k : FaultKind) (does : A → ℕ → Ran) → t ≡ suc u → r ≡ Err k → Leaves (turn line m t (λ n. with_ok r line m (λ y. does y n))) t m u (fault_at k line)
  unfolding with_ok
  turn_fails t u r k does e h =
      subst (λ s. Leaves s t m u (fault_at k line)) (sym (turn_some t u (λ n. with_ok r line m (λ y. does y n)) e ∙ ap (λ s. more [] 1 (with_ok s line m (λ y. does y u))) h)) (failed-behind t u k e)

-- ---- an addition to a DO variable

pub added_goes : (line : ℕ) (n : List ℕ) (by : ℤ) (m new : Map) → Sums n by m new → (go : Map → Ran) → added line n by m go ≡ go new
unfolding with_ok
added_goes line n by m new s go =
    ap (λ r. with_ok r line m (λ v. go (put m n [] (as_integer v)))) s.is ∙ ap go (sym s.after)

pub added_fails : (line : ℕ) (n : List ℕ) (by : ℤ) (m : Map) (k : FaultKind) → integer (m n [] +ℤ by) ≡ Err k → (go : Map → Ran) → added line n by m go ≡ failed k line m
unfolding with_ok
added_fails line n by m k is go = ap (λ r. with_ok r line m (λ v. go (put m n [] (as_integer v)))) is

-- ---- other statements

-- a statement that isn't executable
pub passes_over : (m : Map) (t : ℕ) → Passes (λ go. go onward m t) t onward m t
passes_over m t = record { used = 0; is = λ go. more-none (go onward m t); turns = omega arith }

-- a statement function's statement
passed_by : (d : Option Definition) (r passed : Ran) → IsSome d → unless_defined d r passed ≡ passed
passed_by None r passed h = absurd (false≢true h)
passed_by (Some d) r passed h = refl

defines : (all : List ItemTree) (n : List ℕ) (es : ExprsTree) (e : ExprTree) (line : ℕ) → IsSome (defined_by (scope_of all).arrays (assignment n es e)) → (m : Map) (t : ℕ) → Passes (λ go. simple all (assignment n es e) line m t go) t onward m t
defines all n es e line some m t =
    record {
      used = 0;
      is = λ go. passed_by (defined_by (scope_of all).arrays (assignment n es e)) (assigned (scope_of all) n es e line m t (go onward)) (go onward m t) some ∙ more-none (go onward m t);
      turns = omega arith;
    }

module _ (all : List ItemTree) (line : ℕ) (m : Map) (t u : ℕ) (taken : t ≡ suc u) where
  pub continues : Passes (λ go. simple all continuing line m t go) t onward m u
  continues = record { used = 1; is = λ go. turn_some line m t u (λ k. go onward m k) taken; turns = one_less t u taken }

  pub goes_to : (label : List ℕ) (s : ℕ) → s ≡ number_of label → Passes (λ go. simple all (going label) line m t go) t (at_label s) m u
  goes_to label s is =
      record { used = 1; is = λ go. turn_some line m t u (λ k. go (at_label (number_of label)) m k) taken ∙ ap (λ n. more [] 1 (go (at_label n) m u)) (sym is); turns = one_less t u taken }

  pub stops : (text : StopTree) → Moves (λ go. simple all (stopping text) line m t go) t m u (outcomes.Stopped line)
  unfolding more
  stops text go =
      subst (λ r. Leaves r t m u (outcomes.Stopped line)) (sym (turn_some line m t u _ taken)) (record { outcome = refl; after = refl; nothing = refl; turns = omega arith })

-- a statement that is written as its shape
pub simple_as : (all : List ItemTree) (line : ℕ) (old new : Map) (t u : ℕ) (o : Outcome) (s shape : ShapeTree) → shape ≡ s → Moves (λ go. simple all s line old t go) t new u o → Moves (λ go. simple all shape line old t go) t new u o
simple_as all line old new t u o s shape e h = subst (λ x. Moves (λ go. simple all x line old t go) t new u o) (sym e) h

-- CONTINUE and END DO take a turn and nothing else
pub continuing_as : (all : List ItemTree) (line : ℕ) (m : Map) (t u : ℕ) (o : Outcome) (shape : ShapeTree) → (shape ≡ continuing) ⊎ (shape ≡ end_do) → Moves (λ go. simple all continuing line m t go) t m u o → Moves (λ go. simple all shape line m t go) t m u o
continuing_as all line m t u o shape (inl is) h = simple_as all line m m t u o continuing shape is h
continuing_as all line m t u o shape (inr is) h = simple_as all line m m t u o end_do shape is h

-- a statement that is passed over: it isn't executable, or it is ELSE, END IF or END
idles : (all : List ItemTree) (line : ℕ) (s : ShapeTree) → IsTrue (is_idle s) → (m : Map) (t : ℕ) → Passes (λ go. simple all s line m t go) t onward m t
idles all line (assignment n es e) h m t = absurd (false≢true h)
idles all line (writing control list) h m t = absurd (false≢true h)
idles all line (printing source list) h m t = absurd (false≢true h)
idles all line continuing h m t = absurd (false≢true h)
idles all line end_do h m t = absurd (false≢true h)
idles all line (going label) h m t = absurd (false≢true h)
idles all line (computed_going labels comma e) h m t = absurd (false≢true h)
idles all line (arithmetic_if e x y z) h m t = absurd (false≢true h)
idles all line (stopping text) h m t = absurd (false≢true h)
idles all line s h m t = passes_over m t

module _ (p : Tree) (line : ℕ) (s : ShapeTree) (m : Map) (t : ℕ) where
  abbrev IsPassed : Type 0
  IsPassed = Passes (λ go. simple (items_in p) s line m t go) t onward m t

  passes_as : (shape : ShapeTree) → s ≡ shape → Passes (λ go. simple (items_in p) shape line m t go) t onward m t → IsPassed
  passes_as shape is h = simple_as (items_in p) line m m t t outcomes.Normal shape s is h

  pub pass_passes : IsTrue (is_idle s) ⊎ Defines p s → IsPassed
  pass_passes (inl idle) = idles (items_in p) line s idle m t
  pass_passes (inr d) =
      passes_as (assignment d.name d.dummies d.body) d.is (defines (items_in p) d.name d.dummies d.body line d.defined m t)

  -- what writes nothing is no WRITE or PRINT statement
  pub output_passes : (list : ListCodes) → AreItemsOf p (output_in s) list → IsTrue (not (writes s)) → IsPassed
  output_passes list = by (output_in s)
    where
      by : (o : Option (FormatTree × ListItemsTree)) → AreItemsOf p o list → IsTrue (not (is_some o)) → IsPassed
      by None are quiet = absurd are
      by (Some output) are quiet = absurd (false≢true quiet)

  -- logical IFs, the statements that head arms, and DO statements do nothing by themselves
  pub if_passes : (c : Code) (under : ShapeTree → Type 0) → Conditional p c under s → IsPassed
  if_passes c under x = passes_as (logical_if x.condition x.statement) x.is (passes_over m t)

  pub test_passes : (c : Code) → acts.Tests p c s → IsPassed
  test_passes c x = by x.is
    where
      by : (s ≡ block_if x.condition) ⊎ (s ≡ else_if x.condition) → IsPassed
      by (inl is) = passes_as (block_if x.condition) is (passes_over m t)
      by (inr is) = passes_as (else_if x.condition) is (passes_over m t)

  pub while_passes_over : (c : Code) → acts.Whiles p c s → IsPassed
  while_passes_over c x = passes_as (doing_while x.label x.comma x.condition) x.is (passes_over m t)

  pub repeat_passes : (r : Repeat) → Repeats p r s → IsPassed
  repeat_passes r x = passes_as (doing x.label x.comma x.variable x.limits) x.is (passes_over m t)

-- ---- a logical IF

module _ (all : List ItemTree) (e : ExprTree) (s : ShapeTree) (line : ℕ) (m : Map) (t : ℕ) where
  abbrev pick : Ways → Value → ℕ → Ran
  pick go v u = if as_logical v then simple all s line m u go else go onward m u

  abbrev whole : Ways → Ran
  whole go = step all (logical_if e s) line m t go

  pub if_unexecuted : (u : ℕ) → t ≡ 0 → u ≡ 0 → Moves whole t m u (fault_at F4 line)
  if_unexecuted u none left go = turn_none line m t u (λ k. with_ok (value (scope_of all) e m) line m (λ v. pick go v k)) none left

  module _ (u : ℕ) (taken : t ≡ suc u) where
    pub if_fails : (k : FaultKind) → value (scope_of all) e m ≡ Err k → Moves whole t m u (fault_at k line)
    if_fails k h go = turn_fails line m t u (value (scope_of all) e m) k (λ v n. pick go v n) taken h

    module _ (v : Value) (is : value (scope_of all) e m ≡ Ok v) where
      picked : (b : Bool) → b ≡ as_logical v → (go : Ways) → whole go ≡ more [] 1 (if b then simple all s line m u go else go onward m u)
      picked b h go =
          turn_goes line m t u (value (scope_of all) e m) v (λ x n. pick go x n) taken is ∙ ap (λ x. more [] 1 (if x then simple all s line m u go else go onward m u)) (sym h)

      pub if_false : false ≡ as_logical v → Passes whole t onward m u
      if_false h = record { used = 1; is = picked false h; turns = one_less t u taken }

-- what is no logical IF
pub unless_logical : (all : List ItemTree) (s : ShapeTree) (line : ℕ) (m : Map) (t : ℕ) → IsTrue (not (is_logical_if s)) → (go : Ways) → step all s line m t go ≡ simple all s line m t go
unless_logical all (logical_if e s) line m t h go = absurd (false≢true h)
unless_logical all s line m t h go = refl

-- one that is no logical IF writes where it writes by itself
pub quiet_alone : (s : ShapeTree) → IsTrue (not (is_logical_if s)) → IsTrue (not (is_writing s)) → IsTrue (not (writes s))
quiet_alone (logical_if e s) alone quiet = absurd (false≢true alone)
quiet_alone s alone quiet = quiet

-- a statement by its shape
pub step_as : (all : List ItemTree) (line : ℕ) (old new : Map) (t u : ℕ) (o : Outcome) (s shape : ShapeTree) → shape ≡ s → Moves (λ go. step all s line old t go) t new u o → Moves (λ go. step all shape line old t go) t new u o
step_as all line old new t u o s shape e h = subst (λ x. Moves (λ go. step all x line old t go) t new u o) (sym e) h

-- ---- the test of an arm

-- the condition that is tested
pub tested_condition : (p : Tree) (c : Code) (s : ShapeTree) (x : acts.Tests p c s) → condition_of s ≡ Some x.condition
tested_condition p c s x = by x.is
  where
    by : (s ≡ block_if x.condition) ⊎ (s ≡ else_if x.condition) → condition_of s ≡ Some x.condition
    by (inl is) = ap condition_of is
    by (inr is) = ap condition_of is

module _ (scope : Scope) (e : ExprTree) (line : ℕ) (m : Map) (t : ℕ) where
  abbrev condition : (Bool → ℕ → Ran) → Ran
  condition go = condition_tested scope e line m t go

  pub test_unexecuted : (u : ℕ) → t ≡ 0 → u ≡ 0 → Tests condition t m u (Err (record { kind = F4; line = line }))
  test_unexecuted u none left go = turn_none line m t u (λ n. with_ok (truth_of (value scope e m)) line m (λ b. go b n)) none left

  module _ (u : ℕ) (taken : t ≡ suc u) where
    pub test_fails : (k : FaultKind) → value scope e m ≡ Err k → Tests condition t m u (Err (record { kind = k; line = line }))
    test_fails k h go =
        turn_fails line m t u (truth_of (value scope e m)) k (λ b n. go b n) taken (ap truth_of h)

    pub test_tells : (v : Value) (b : Bool) → value scope e m ≡ Ok v → b ≡ as_logical v → Tests condition t m u (Ok b)
    test_tells v b h same =
        record {
          used = 1;
          is = λ go. turn_goes line m t u (truth_of (value scope e m)) (as_logical v) (λ b n. go b n) taken (ap truth_of h) ∙ ap (λ b. more [] 1 (go b u)) (sym same);
          turns = one_less t u taken;
        }

module _ (scope : Scope) (first : Bool) (x : ItemTree) (m : Map) (t : ℕ) where
  abbrev does : (Bool → ℕ → Ran) → Ran
  does go = tested scope first x m t go

  or-some : (e : ExprTree) (c : Option ExprTree) → c ≡ Some e → first || is_some c ≡ true
  or-some e c is = ap (λ o. first || is_some o) is ∙ or-true first
    where
      or-true : (b : Bool) → b || true ≡ true
      or-true true = refl
      or-true false = refl

  module _ (e : ExprTree) (is : condition_of x.shape ≡ Some e) where
    pub tests-if : (go : Bool → ℕ → Ran) → does go ≡ condition scope e x.line m t go
    unfolding tested
    tests-if go =
        ap (λ b. turn_if b x.line m t (λ u. with_ok (holds scope (condition_of x.shape) m) x.line m (λ b. go b u))) (or-some e (condition_of x.shape) is) ∙ ap (λ c. turn x.line m t (λ u. with_ok (holds scope c m) x.line m (λ b. go b u))) is

    pub tests_as : (u : ℕ) (r : Result Bool Fault) → Tests (condition scope e x.line m t) t m u r → Tests does t m u r
    tests_as u (Ok b) h = record { used = h.used; is = λ go. tests-if go ∙ h.is go; turns = h.turns }
    tests_as u (Err f) h =
        λ go. subst (λ r. Leaves r t m u (outcomes.Fault f)) (sym (tests-if go)) (h go)

  module _ (is : condition_of x.shape ≡ None) where
    pub tests-else : (b : Bool) → first ≡ b → (go : Bool → ℕ → Ran) → does go ≡ turn_if (b || false) x.line m t (λ u. go true u)
    unfolding tested with_ok
    tests-else b f go =
        ap (λ c. turn_if (first || is_some c) x.line m t (λ u. with_ok (holds scope c m) x.line m (λ b. go b u))) is ∙ ap (λ b. turn_if (b || false) x.line m t (λ u. go true u)) f

    pub else_unexecuted : first ≡ true → (u : ℕ) → t ≡ 0 → u ≡ 0 → Tests does t m u (Err (record { kind = F4; line = x.line }))
    else_unexecuted f u none left go =
        subst (λ r. Leaves r t m u (fault_at F4 x.line)) (sym (tests-else true f go)) (turn_none x.line m t u _ none left)

    pub else_first : first ≡ true → (u : ℕ) → t ≡ suc u → Tests does t m u (Ok true)
    else_first f u taken =
        record { used = 1; is = λ go. tests-else true f go ∙ turn_some x.line m t u (λ n. go true n) taken; turns = one_less t u taken }

    pub else_further : first ≡ false → Tests does t m t (Ok true)
    else_further f =
        record { used = 0; is = λ go. tests-else false f go ∙ more-none (go true t); turns = omega arith }

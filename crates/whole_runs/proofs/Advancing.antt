-- The trips of a DO statement, some of them and then the rest; what is known of one without output; and the value of a variable (ANSI
-- X3.9-1978, 11.10).
use Rattle.std.proofs.Common.{◌≡◌, ℕ, ◌+◌, ◌-◌, ◌≤◌, ℤ, Bool, ◌++◌, List, [], length, Option, Some, refl, sym, ap, ◌∙◌, subst, arith}
use Rattle.std.specs.Prelude.{IsTrue}
use Rattle.std.specs.List.{AllByRecursion}
use Rattle.std.proofs.lemmas.List.{length-map, length-append}
use Rattle.std.proofs.lemmas.List.FromFn.{length-range_with_len}
use Rattle.meaning.specs.declared.ending.Outcome.{Outcome}
use Rattle.meaning.specs.declared.ending.Outcome.TheVariants as outcomes
use Rattle.meaning.specs.declared.ending.Run.{Run}
use Rattle.meaning.specs.declared.syntax.Loop.{Loop, out-Loop}
use Rattle.meaning.specs.declared.syntax.Tree.{Tree}
use Rattle.meaning.specs.Execution.{Ran, Meaning, goes_on, fold_trips}
use Rattle.meaning.specs.LoopLaws.{NeverSets}
use Rattle.meaning.specs.Maps.{Map, map_by, value_at}
use Rattle.meaning.specs.Stores.{known}
use Rattle.meaning.specs.Surroundings.{counted_by}
use Rattle.meaning.specs.Syntax.{LimitsTree, ShapeTree, doing, shape_tree}
use Rattle.meaning.specs.Trees.{Members, flat, item_tree, members_tree}
use Rattle.meaning.proofs.Advancing.{fold_trips-number}
use Rattle.meaning.proofs.Limits.{fold_trips-append}
use Rattle.label_targets.specs.Kept.{IsKept}
use Rattle.label_targets.specs.Quiet.{WritesNothing}
use Rattle.array_store.specs.Whole.{world_of}
use Rattle.storage.specs.Checked.{numbers_in}
use Rattle.storage.specs.Starts.{map_of}
use Rattle.program.specs.declared.action.Repeat.{Repeat}
use Rattle.program.specs.Acts.{Repeats}
use Rattle.program.specs.Asked.{is_doing}
use Rattle.program.specs.Programs.{IsStatement}
use Rattle.evaluator.specs.Known.{AreStatements}
use Rattle.evaluator.specs.Over.{values_by}
use Rattle.evaluator.specs.Quiet.{variable_of}
use Rattle.evaluator.specs.Statements.{IsEnd, Leaves, ran_by}
use Rattle.evaluator.specs.Unset.{LeavesItsVariable}
use Rattle.evaluator.proofs.Composed.{reaches_end, reaches_none}
use Rattle.whole_runs.specs.Trips.{IsQuietLoop}

-- ---- trips

pub length-values : (first step : ℤ) (n : ℕ) → length (values_by first step n) ≡ n
length-values first step n = length-map _ _ ∙ length-range_with_len 0 n

module _ (rec : Meaning) (line : ℕ) (variable : List ℕ) (by : ℤ) (range : Members) where
  abbrev pub several : ℤ → ℕ → Map → ℕ → Ran
  several first n m t = fold_trips rec line variable by range (values_by first by n) m t

  -- only their number counts
  pub several_same : (first next : ℤ) (n : ℕ) (m : Map) (t : ℕ) → several first n m t ≡ several next n m t
  several_same first next n m t =
      fold_trips-number rec line variable by range (values_by first by n) (values_by next by n) (length-values first by n ∙ sym (length-values next by n)) m t

  -- some, and then the rest
  pub several_split : (first next : ℤ) (n k : ℕ) (m : Map) (t : ℕ) → several first (n + k) m t ≡ goes_on (several first n m t) t (λ a u. several next k a u)
  several_split first next n k m t =
      fold_trips-number rec line variable by range (values_by first by (n + k)) (values_by first by n ++ values_by next by k) (let a = length-values first by (n + k) in let b = length-values first by n in let e = length-values next by k in let f = length-append (values_by first by n) (values_by next by k) in omega arith) m t
      ∙ fold_trips-append rec line variable by range (values_by next by k) (values_by first by n) m t

  -- none
  pub several_none : (first : ℤ) (m : Map) (t : ℕ) → Leaves (several first 0 m t) t m t outcomes.Normal
  unfolding fold_trips
  several_none first m t = reaches_end (several first 0 m t) _ t t (reaches_none _ t) m refl

-- a run with the turns that it used
pub leaves_of_run : (r : Ran) (given : ℕ) (m : Map) (run : Run) → r ≡ ran_by run m → run.turns_used ≤ given → Leaves r given m (given - run.turns_used) run.outcome
leaves_of_run r given m run is le =
    record {
      outcome = ap (λ (x : Ran). x.outcome) is;
      after = ap (λ (x : Ran). x.map) is;
      nothing = ap (λ (x : Ran). x.pieces) is;
      turns = (let e = ap (λ (x : Ran). x.used) is in omega arith);
    }

-- what isn't normal ends
pub is_end : (o : Outcome) → (o ≡ outcomes.Normal → ⊥) → IsEnd o
is_end outcomes.Normal h = h refl
is_end (outcomes.Left s) h = tt
is_end (outcomes.Stopped line) h = tt
is_end (outcomes.Fault f) h = tt

-- ---- a DO statement

is_one : (s : ShapeTree) (label : Option (List ℕ)) (comma : Bool) (variable : List ℕ) (limits : LimitsTree) → s ≡ doing label comma variable limits → IsTrue (is_doing s)
is_one s label comma variable limits is = subst (λ x. IsTrue (is_doing x)) (sym is) refl

its_variable : (s : ShapeTree) (range : Members) (label : Option (List ℕ)) (comma : Bool) (variable : List ℕ) (limits : LimitsTree) → s ≡ doing label comma variable limits → AllByRecursion (λ v. NeverSets v range) (counted_by s) → NeverSets (variable_of s) range
its_variable s range label comma variable limits is =
    subst (λ x. AllByRecursion (λ v. NeverSets v range) (counted_by x) → NeverSets (variable_of x) range) (sym is) (λ h. h.0)

pub quiet_loop : (t : Tree) (l : Loop) (r : Repeat) → Repeats t r (shape_tree (out-Loop l).head.form.shape.value) → IsStatement t (item_tree (out-Loop l).head) → AreStatements t (flat (members_tree (out-Loop l).range.items)) → IsKept t (members_tree (out-Loop l).range.items) → WritesNothing (members_tree (out-Loop l).range.items) → LeavesItsVariable l → IsQuietLoop t l
quiet_loop t l r d head named kept quiet leaves =
    let s = shape_tree (out-Loop l).head.form.shape.value in
    let range = members_tree (out-Loop l).range.items in
    record {
      doing = is_one s d.label d.comma d.variable d.limits d.is;
      head = head;
      named = named;
      kept = kept;
      quiet = quiet;
      unset = its_variable s range d.label d.comma d.variable d.limits d.is leaves;
    }

-- ---- a variable

pub variable_there : (t : Tree) (n : List ℕ) (c : ℕ) (values : List ℤ) (x : ℤ) → numbers_in t n [] ≡ Some c → x ≡ known (world_of values) c → map_of t values n [] ≡ x
unfolding map_by
variable_there t n c values x is has = ap (λ o. value_at (known (world_of values)) o) is ∙ sym has

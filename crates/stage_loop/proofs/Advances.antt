-- The trips of a DO statement, some of them and then the rest.
use Rattle.std.proofs.Common.{◌≡◌, ℕ, ◌+◌, ◌-◌, ◌≤◌, ℤ, pos, ◌+ℤ◌, ◌*ℤ◌, FitsSigned, List, [], length, sym, ap, ◌∙◌, subst, arith, rules}
use Rattle.std.specs.Int.{w32}
use Rattle.meaning.specs.declared.ending.Outcome.{Outcome}
use Rattle.meaning.specs.declared.ending.Outcome.TheVariants as outcomes
use Rattle.meaning.specs.declared.syntax.Loop.{Loop, out-Loop}
use Rattle.meaning.specs.Execution.{Ran, exec, goes_on}
use Rattle.meaning.specs.LoopLaws.{NeverSets}
use Rattle.meaning.specs.Maps.{Map}
use Rattle.meaning.specs.Syntax.{ItemTree}
use Rattle.meaning.proofs.Advancing.{fold_trips-goes_on, put_again}
use Rattle.evaluator.specs.Over.{repeated_as, trips_as, values_by}
use Rattle.evaluator.specs.Statements.{IsEnd, Leaves, Spends}
use Rattle.evaluator.proofs.Composed.{ends_there, leaves_along, leaves_behind, reaches_more, reaches_none}
use Rattle.block_stage.specs.Jobs.{range_in, variable_in}
use Rattle.whole_runs.proofs.Advancing.{length-values, several_none, several_split}
use Rattle.stage_loop.specs.Loops.{AreIntegers}

-- ---- values of the variable

further : (value step : ℤ) (n k : ℕ) → (value +ℤ pos n *ℤ step) +ℤ pos k *ℤ step ≡ value +ℤ pos (n + k) *ℤ step
further value step n k = search rules

-- those behind some first ones are INTEGER too
pub integers_further : (value next step : ℤ) (n k : ℕ) → AreIntegers value step k → next ≡ value +ℤ pos n *ℤ step → AreIntegers next step (k - n)
integers_further value next step n k fits is j lt =
    subst (λ z. FitsSigned w32 z) (sym (ap (λ a. a +ℤ pos j *ℤ step) is ∙ further value step n j)) (fits (n + j) (omega arith))

-- ---- trips

module _ (all : List ItemTree) (l : Loop) (step : ℤ) where
  abbrev pub on : ℤ → ℕ → Map → ℕ → Ran
  on value n m t = trips_as all l (variable_in l) value step n m t

  -- a value that is there is put in again
  pub repeated_on : (value : ℤ) (n : ℕ) (m : Map) (t : ℕ) → m (variable_in l) [] ≡ value → repeated_as all l value step n m t ≡ on value n m t
  repeated_on value n m t has = ap (λ k. on value n k t) (put_again m (variable_in l) [] value has)

  both : (value next : ℤ) (n k : ℕ) (m : Map) (t : ℕ) → on value (n + k) m t ≡ goes_on (on value n m t) t (λ a u. on next k a u)
  both value next n k m t = several_split (exec all) (out-Loop l).head.line (variable_in l) step (range_in l) value next n k m t

  there : (n k : ℕ) → n ≤ k → k ≡ n + (k - n)
  there n k le = omega arith

  -- none
  pub trips_none : (value : ℤ) (m : Map) (t : ℕ) → Leaves (on value 0 m t) t m t outcomes.Normal
  trips_none value m t = several_none (exec all) (out-Loop l).head.line (variable_in l) step (range_in l) value m t

  -- some that end normally, and then more
  pub trips_then : (value next : ℤ) (n k : ℕ) (m mid new : Map) (t u left : ℕ) (o : Outcome) → Leaves (on value n m t) t mid u outcomes.Normal → Leaves (on next k mid u) u new left o → Leaves (on value (n + k) m t) t new left o
  trips_then value next n k m mid new t u left o x y =
      let whole = on value (n + k) m t in
      let along = both value next n k m t ∙ leaves_along (on value n m t) t mid u x (λ a b. on next k a b) in
      leaves_behind whole _ t u (reaches_more whole _ t t (reaches_none whole t) (on next k mid u) (on value n m t).used u along x.turns) new left o y

  -- some of which the last ends otherwise
  pub trips_end : (value : ℤ) (n k : ℕ) → n ≤ k → (m new : Map) (t left : ℕ) (o : Outcome) → IsEnd o → Leaves (on value n m t) t new left o → Leaves (on value k m t) t new left o
  trips_end value n k le m new t left o end x =
      subst (λ r. Leaves r t new left o) (sym (ap (λ j. on value j m t) (there n k le) ∙ both value value n (k - n) m t ∙ ends_there (on value n m t) t new left o end x (λ a u. on value (k - n) a u))) x

  -- the variable has the value of the next trip
  pub next_value : NeverSets (variable_in l) (range_in l) → (value : ℤ) (n : ℕ) (m new : Map) (t left : ℕ) → m (variable_in l) [] ≡ value → Leaves (on value n m t) t new left outcomes.Normal → new (variable_in l) [] ≡ value +ℤ pos n *ℤ step
  next_value never value n m new t left has x =
      sym (ap (λ (k : Map). k (variable_in l) []) x.after)
      ∙ fold_trips-goes_on all (out-Loop l).head.line (variable_in l) step (range_in l) never (values_by value step n) m t x.outcome
      ∙ (λ i. has i +ℤ pos (length-values value step n i) *ℤ step)

pub leaves_less : (r : Ran) (given : ℕ) (new : Map) (left : ℕ) (o : Outcome) → Leaves r given new left o → left ≤ given
leaves_less r given new left o x = let e = x.turns in omega arith

-- the turns that are left, by those that were used
pub left_by_used : (o : Outcome) (t left : ℕ) → Spends o t left → left ≡ t - (t - left)
left_by_used outcomes.Normal t left le = omega arith
left_by_used (outcomes.Left s) t left lt = omega arith
left_by_used (outcomes.Stopped line) t left le = omega arith
left_by_used (outcomes.Fault f) t left le = omega arith

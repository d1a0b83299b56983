-- Laws of DO variables and of the trips of a DO (ANSI X3.9-1978, 11.10), for those who build on
-- execution.
use Rattle.std.specs.Prelude.{◌≡◌, ℕ, ℤ, pos, ◌+ℤ◌, ◌*ℤ◌, Bool, false, List, [], length, Ok}
use Rattle.std.specs.List.{list_any, AllByRecursion}
use Rattle.meaning.specs.Syntax.{ItemTree}
use Rattle.meaning.specs.Trees.{Members, none, plain, loop, block, Arms, no_arms, arm, flat, Nested}
use Rattle.meaning.specs.Surroundings.{counted_by}
use Rattle.meaning.specs.Uses.{is_one_of}
use Rattle.meaning.specs.LoopRules.{variables_set}
use Rattle.meaning.specs.Rules.{checked}
use Rattle.meaning.specs.Maps.{Map, put}
use Rattle.meaning.specs.Execution.{normal, Meaning, fold_trips, exec}

-- ---- variables that are left alone

-- a statement sets a variable: by an assignment, or as the variable of a DO or of an implied DO
abbrev pub sets : List ℕ → ItemTree → Bool
sets v x = is_one_of (variables_set x.shape) v

-- no statement of a list sets the variable, however deep it stands
pub record NeverSets (v : List ℕ) (ms : Members) : Type 0 where
  pub unset : list_any (sets v) (flat ms) ≡ false

abbrev mutual
  -- no range of a DO statement among the members, however deep this stands, sets the variable of
  -- that DO statement
  pub LeaveVariables : Members → Type 0
  LeaveVariables none = Unit {0}
  LeaveVariables (plain x ms) = LeaveVariables ms
  LeaveVariables (loop x range ms) =
      AllByRecursion (λ v. NeverSets v range) (counted_by x.shape) × LeaveVariables range
      × LeaveVariables ms
  LeaveVariables (block arms x ms) = ArmsLeaveVariables arms × LeaveVariables ms

  pub ArmsLeaveVariables : Arms → Type 0
  ArmsLeaveVariables no_arms = Unit {0}
  ArmsLeaveVariables (arm x body arms) = LeaveVariables body × ArmsLeaveVariables arms

-- in a program unit that breaks no rule ranges leave the variables of their DO statements (11.10.5)
abbrev pub RangesLeaveVariables : Type 0
RangesLeaveVariables = (t u : Nested) → checked t ≡ Ok u → LeaveVariables t.body

-- a list leaves each variable that it never sets
abbrev pub VariableIsLeft : Type 0
VariableIsLeft =
    (program : List ItemTree) (v : List ℕ) (all rest : Members) → NeverSets v all →
    NeverSets v rest → (m : Map) (t : ℕ) → (exec program all rest m t).map v [] ≡ m v []

-- ---- trips

-- behind trips that end normally the DO variable, which the range never sets, has the value of the
-- trip that would come next
abbrev pub VariableGoesOn : Type 0
VariableGoesOn =
    (program : List ItemTree) (line : ℕ) (v : List ℕ) (by : ℤ) (range : Members) →
    NeverSets v range → (is : List ℤ) (m : Map) (t : ℕ) →
    (fold_trips (exec program) line v by range is m t).outcome ≡ normal →
    (fold_trips (exec program) line v by range is m t).map v []
    ≡ m v [] +ℤ pos (length is) *ℤ by

-- as many trips do the same: the DO variable counts by itself
abbrev pub TheirNumberCounts : Type 0
TheirNumberCounts =
    (rec : Meaning) (line : ℕ) (v : List ℕ) (by : ℤ) (range : Members) (is js : List ℤ) → length is
    ≡ length js → (m : Map) (t : ℕ) → fold_trips rec line v by range is m t
    ≡ fold_trips rec line v by range js m t

-- a value that is there is put in again
abbrev pub PutAgain : Type 0
PutAgain = (m : Map) (n : List ℕ) (ss : List ℤ) (x : ℤ) → m n ss ≡ x → put m n ss x ≡ m

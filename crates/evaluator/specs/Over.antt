-- What is done between two states of a store, whatever values it stands on.
use Rattle.std.specs.Prelude.{◌≡◌, ℕ, ℤ, pos, ◌+ℤ◌, ◌*ℤ◌, Bool, true, List, [], map, Option, Some}
use Rattle.std.specs.Prelude.{None, Result, Ok, Err}
use Rattle.std.specs.Global.{Vec}
use Rattle.std.specs.List.{range_with_len}
use Rattle.meaning.specs.declared.ending.Fault.{Fault}
use Rattle.meaning.specs.declared.ending.FaultKind.{FaultKind}
use Rattle.meaning.specs.declared.ending.FaultKind.TheVariants.{F2}
use Rattle.meaning.specs.declared.ending.Outcome.{Outcome}
use Rattle.meaning.specs.declared.ending.Outcome.TheVariants as outcomes
use Rattle.meaning.specs.declared.ending.Run.{Run}
use Rattle.meaning.specs.declared.ending.Value.{Value}
use Rattle.meaning.specs.declared.syntax.Loop.{Loop, out-Loop}
use Rattle.meaning.specs.declared.syntax.Tree.{Tree}
use Rattle.meaning.specs.Execution.{Ran, Follow, Ways, exec, fold_trips, looped, while_of, loop_by}
use Rattle.meaning.specs.Execution.{arms_from, tested, turn, with_ok, truth_of}
use Rattle.meaning.specs.Lists.{listed, list_limit}
use Rattle.meaning.specs.Maps.{Map, put}
use Rattle.meaning.specs.Scopes.{scope_of}
use Rattle.meaning.specs.Stores.{Cells, World, Does}
use Rattle.meaning.specs.Syntax.{ExprTree, ItemTree, LimitsTree, ListItemsTree, ShapeTree}
use Rattle.meaning.specs.Syntax.{shape_tree}
use Rattle.meaning.specs.Trees.{Members, Arms, item_tree, members_tree}
use Rattle.meaning.specs.Trips.{span_of}
use Rattle.meaning.specs.Values.{Scope, value}
use Rattle.storage.specs.Checked.{items_in}
use Rattle.storage.specs.Starts.{map_of}
use Rattle.program.specs.Codes.{IsCell}
use Rattle.values.specs.Programs.{map_at, scope_in}
use Rattle.evaluator.specs.declared.assignment.Addition.{Addition}
use Rattle.evaluator.specs.declared.assignment.Risen.{Risen}
use Rattle.evaluator.specs.declared.assignment.Risen.TheVariants as risens
use Rattle.evaluator.specs.declared.limits.Span.{Span}
use Rattle.evaluator.specs.declared.passed.Passed.{Passed}
use Rattle.evaluator.specs.Limited.{SpanIs}
use Rattle.evaluator.specs.Listing.{ListIs}
use Rattle.evaluator.specs.Passed.{PassesBy}
use Rattle.evaluator.specs.Quiet.{variable_of}
use Rattle.evaluator.specs.Statements.{Adds, Leaves, Moves, Tests, ran_by}

-- ---- the parts of a statement

-- the variable has the value, and all else what it had
abbrev pub SetsOver : Tree → World → World → List ℕ → ℤ → Type 0
SetsOver t u v n x = Does u v (λ m k. map_at t k ≡ put (map_at t m) n [] x)

abbrev pub AddsOver : Tree → World → World → List ℕ → ℤ → Result (Unit {0}) FaultKind → Type 0
AddsOver t u v n by r = Does u v (λ m k. Adds n by (map_at t m) (map_at t k) r)

-- an addition behind a trip, where there is one; its fault has the line
abbrev pub AddsBehind : Tree → World → World → Option Addition → Result (Unit {0}) Fault → Type 0
AddsBehind t u v None (Ok x) = v ≡ u
AddsBehind t u v None (Err f) = ⊥
AddsBehind t u v (Some a) (Ok x) =
    (n : List ℕ) → IsCell t n a.variable → AddsOver t u v n a.by (Ok x)
AddsBehind t u v (Some a) (Err f) =
    (f.line ≡ a.line) × ((n : List ℕ) → IsCell t n a.variable → AddsOver t u v n a.by (Err f.kind))

-- the same, by what came of it; where the store refused the write, anything may have
abbrev pub IsRisen : Tree → World → World → Option Addition → Risen → Type 0
IsRisen t u v a risens.Added = AddsBehind t u v a (Ok tt)
IsRisen t u v None risens.Outside = ⊥
IsRisen t u v (Some a) risens.Outside =
    (n : List ℕ) → IsCell t n a.variable → AddsOver t u v n a.by (Err F2)
IsRisen t u v a risens.Refused = Unit {0}

abbrev pub IsOutside : Option Addition → Outcome → Type 0
IsOutside None o = Unit {0}
IsOutside (Some a) o = o ≡ outcomes.Fault (record { kind = F2; line = a.line })

-- the values of limits, or their fault
abbrev pub IsSpanAt : Tree → LimitsTree → Result Span FaultKind → Cells → Type 0
IsSpanAt t l r m = SpanIs r (span_of (scope_in t) l (map_at t m))

-- the values of a list and the map behind them, or their fault and the map that it leaves
abbrev pub ListsOver : Tree → World → World → ListItemsTree → Result (Vec Value) FaultKind → Type 0
ListsOver t u v list r =
    Does u v (λ m k. ListIs r (map_at t k) (listed (scope_in t) list (map_at t m) list_limit))

-- ---- DO statements, block IFs and lists

-- a DO statement with its range
abbrev pub loop_as : List ItemTree → ShapeTree → Loop → Map → ℕ → Ways → Ran
loop_as all s l m t go =
    looped (scope_of all) (exec all) s (out-Loop l).head.line
    (members_tree (out-Loop l).range.items) m t go

-- a DO or DO WHILE statement with its range
abbrev pub while_as : List ItemTree → Loop → Follow → Map → ℕ → Ways → Ran
while_as all l again m t go =
    loop_by (while_of (shape_tree (out-Loop l).head.form.shape.value)) (scope_of all) (exec all)
    (item_tree (out-Loop l).head) (members_tree (out-Loop l).range.items) again m t go

-- the values of a DO variable from the first one on, so many
abbrev pub values_by : ℤ → ℤ → ℕ → List ℤ
values_by first step count = map (λ k. first +ℤ pos k *ℤ step) (range_with_len 0 count)

-- its range, executed so often
abbrev pub trips_as : List ItemTree → Loop → List ℕ → ℤ → ℤ → ℕ → Map → ℕ → Ran
trips_as all l variable first step count m t =
    fold_trips (exec all) (out-Loop l).head.line variable step
    (members_tree (out-Loop l).range.items) (values_by first step count) m t

-- the same, when its variable has its first value
abbrev pub repeated_as : List ItemTree → Loop → ℤ → ℤ → ℕ → Map → ℕ → Ran
repeated_as all l first step count m t =
    let variable = variable_of (shape_tree (out-Loop l).head.form.shape.value) in
    trips_as all l variable first step count (put m variable [] first) t

-- the arms of a block IF
abbrev pub arms_as : List ItemTree → Arms → Map → ℕ → Ways → Ran
arms_as all arms m t go = arms_from (scope_of all) (exec all) true arms m t go

-- a list by itself
abbrev pub list_as : List ItemTree → Members → Map → ℕ → Ran
list_as all ms m t = exec all ms ms m t

-- ---- what writes nothing, from turns that are given

-- a statement, before whatever follows it
abbrev pub MovesAt : Tree → (Map → ℕ → Ways → Ran) → ℕ → ℕ → Outcome → Cells → Cells → Type 0
MovesAt t does given left o m n = Moves (λ go. does (map_at t m) given go) given (map_at t n) left o

abbrev pub MovesOver : Tree → World → World → (Map → ℕ → Ways → Ran) → ℕ → ℕ → Outcome → Type 0
MovesOver t u v does given left o = Does u v (MovesAt t does given left o)

-- a member of a list, which goes on or ends, or is executed again, whatever that does
abbrev pub PassesAt : Tree → (Follow → Map → ℕ → Ways → Ran) → ℕ → ℕ → Passed → Cells → Cells →
    Type 0
PassesAt t does given left p m n =
    (again : Follow) →
    PassesBy (λ go. does again (map_at t m) given go) given again (map_at t n) left p

abbrev pub PassesOver : Tree → World → World → (Follow → Map → ℕ → Ways → Ran) → ℕ → ℕ → Passed →
    Type 0
PassesOver t u v does given left p = Does u v (PassesAt t does given left p)

-- one that changes no value
abbrev pub StaysAt : Tree → (Map → ℕ → Ways → Ran) → ℕ → ℕ → Outcome → Cells → Type 0
StaysAt t does given left o m = MovesAt t does given left o m m

-- a run by itself
abbrev pub LeavesAt : Tree → (Map → ℕ → Ran) → ℕ → ℕ → Outcome → Cells → Cells → Type 0
LeavesAt t does given left o m n = Leaves (does (map_at t m) given) given (map_at t n) left o

abbrev pub LeavesOver : Tree → World → World → (Map → ℕ → Ran) → ℕ → ℕ → Outcome → Type 0
LeavesOver t u v does given left o = Does u v (LeavesAt t does given left o)

-- a list so often, with an addition to a DO variable behind each time, whatever it was at first; or
-- once
abbrev pub RepeatsOver : Tree → World → World → Members → Option Addition → ℕ → ℕ → ℕ → Outcome →
    Type 0
RepeatsOver t u v ms None count given left o =
    count ≡ 1 → LeavesOver t u v (list_as (items_in t) ms) given left o
RepeatsOver t u v ms (Some a) count given left o =
    (n : List ℕ) → IsCell t n a.variable → (first : ℤ) →
    LeavesOver t u
    v (λ m k. fold_trips (exec (items_in t)) a.line n a.by ms (values_by first a.by count) m k)
    given left o

-- the same with the turns that it used
abbrev pub RunsOver : Tree → World → World → (Map → ℕ → Ran) → ℕ → Run → Type 0
RunsOver t u v does given r = Does u v (λ m n. does (map_at t m) given ≡ ran_by r (map_at t n))

-- the test of a condition, which takes a turn
abbrev pub condition_tested : Scope → ExprTree → ℕ → Map → ℕ → (Bool → ℕ → Ran) → Ran
condition_tested scope e line m t go =
    turn line m t (λ u. with_ok (truth_of (value scope e m)) line m (λ b. go b u))

abbrev pub ConditionAt : Tree → ExprTree → ℕ → ℕ → ℕ → Result Bool Fault → Cells → Type 0
ConditionAt t e line given left r m =
    Tests (λ go. condition_tested (scope_in t) e line (map_at t m) given go) given (map_at t m) left
    r

-- the test of an arm
abbrev pub TestsAt : Tree → Bool → ItemTree → ℕ → ℕ → Result Bool Fault → Cells → Type 0
TestsAt t first x given left r m =
    Tests (λ go. tested (scope_in t) first x (map_at t m) given go) given (map_at t m) left r

-- ---- the same over the values of a whole store

abbrev pub MovesIn : Tree → List ℤ → List ℤ → (Map → ℕ → Ways → Ran) → ℕ → ℕ → Outcome → Type 0
MovesIn t old new does given left o =
    Moves (λ go. does (map_of t old) given go) given (map_of t new) left o

abbrev pub ConditionIn : Tree → List ℤ → ExprTree → ℕ → ℕ → ℕ → Result Bool Fault → Type 0
ConditionIn t values e line given left r =
    Tests (λ go. condition_tested (scope_in t) e line (map_of t values) given go) given
    (map_of t values) left r

abbrev pub TestsIn : Tree → List ℤ → Bool → ItemTree → ℕ → ℕ → Result Bool Fault → Type 0
TestsIn t values first x given left r =
    Tests (λ go. tested (scope_in t) first x (map_of t values) given go) given (map_of t values)
    left r

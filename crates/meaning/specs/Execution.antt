-- What the statements of a program do, one executed after another (ANSI X3.9-1978, chapters 10 to
-- 12).
use Rattle.std.specs.Prelude.{unwrap_or, ℕ, zero, suc, ◌+◌, ◌-◌, ℤ, pos, negsuc, ◌+ℤ◌, Bool, true}
use Rattle.std.specs.Prelude.{false, ◌||◌, if◌then◌else◌, List, [], ◌∷◌, ◌++◌, Option, Some, None}
use Rattle.std.specs.Prelude.{is_some, Result, Ok, Err}
use Rattle.meaning.specs.declared.ending.FaultKind.{FaultKind}
use Rattle.meaning.specs.declared.ending.FaultKind.TheVariants.{F4}
use Rattle.meaning.specs.declared.ending.Value.{Value}
use Rattle.meaning.specs.Characters.{number_of}
use Rattle.meaning.specs.Syntax.{ExprTree, ExprsTree, ShapeTree, assignment, writing, printing}
use Rattle.meaning.specs.Syntax.{format, doing, continuing, going, computed_going, arithmetic_if}
use Rattle.meaning.specs.Syntax.{logical_if, block_if, else_if, stopping, doing_while, end_do}
use Rattle.meaning.specs.Syntax.{ItemTree, ListItemsTree, FormatTree, format_label, format_constant}
use Rattle.meaning.specs.Trees.{Members, none, plain, loop, block, Arms, no_arms, arm}
use Rattle.meaning.specs.Trips.{Span, span_of, trips}
use Rattle.meaning.specs.Formats.{Parts, no_parts, descriptors_of, format_in, undoubled}
use Rattle.meaning.specs.Records.{edited}
use Rattle.meaning.specs.LabelRules.{has_label}
use Rattle.meaning.specs.Scopes.{scope_of, Definition, defined_by}
use Rattle.meaning.specs.Lists.{Listed, listed, list_limit}
use Rattle.meaning.specs.Maps.{Map, put}
use Rattle.meaning.specs.Values.{Scope, Valued, value, subscripts, dimensions_in, as_integer}
use Rattle.meaning.specs.Values.{as_logical, integer}

-- how a list of statements, or one of them, ends: normally; by a transfer of control to a label
-- (11.1 to 11.4); by the STOP statement at a line (11.12); or by a fault at a line (own)
pub data Outcome : Type 0 where
  normal : Outcome
  jump : ℕ → Outcome
  stopped : ℕ → Outcome
  fault : FaultKind → ℕ → Outcome

-- how it ended, the map that it left, the pieces that it wrote and the turns that it used
pub record Ran : Type 0 where
  pub outcome : Outcome
  pub map : Map
  pub pieces : List (List ℕ)
  pub used : ℕ

-- pieces and turns in front of a run
unfoldable pub more : List (List ℕ) → ℕ → Ran → Ran
more pieces n r =
    record { outcome = r.outcome; map = r.map; pieces = pieces ++ r.pieces; used = n + r.used }

-- a run that does nothing and ends so
abbrev pub ended_by : Outcome → Map → Ran
ended_by o m = record { outcome = o; map = m; pieces = []; used = 0 }

abbrev pub ended : Map → Ran
ended m = ended_by normal m

abbrev pub failed : FaultKind → ℕ → Map → Ran
failed k line m = ended_by (fault k line) m

-- ---- what follows

-- what follows, from a map and the turns that are left
abbrev pub Follow : Type 0
Follow = Map → ℕ → Ran

-- where execution goes on: behind the statement, or at a label
pub data Next : Type 0 where
  onward : Next
  at_label : ℕ → Next

-- what follows at each of these
abbrev pub Ways : Type 0
Ways = Next → Follow

-- what the members of a list do: all of the list, what is left of it, the map and the turns that
-- are left
abbrev pub Meaning : Type 0
Meaning = Members → Members → Map → ℕ → Ran

-- an executable statement takes a turn; where none is left it isn't executed (own)
unfoldable pub turn : ℕ → Map → ℕ → (ℕ → Ran) → Ran
turn line m zero go = failed F4 line m
turn line m (suc t) go = more [] 1 (go t)

-- goes on with a value, or faults at the line
unfoldable pub with_ok : {A : Type 0} → Result A FaultKind → ℕ → Map → (A → Ran) → Ran
with_ok (Ok x) line m go = go x
with_ok (Err k) line m go = failed k line m

-- goes on behind a normal end, with the map that it left and the turns that it left of t
abbrev pub goes_on_by : Outcome → Ran → ℕ → Follow → Ran
goes_on_by normal r t go = more r.pieces r.used (go r.map (t - r.used))
goes_on_by (jump s) r t go = r
goes_on_by (stopped line) r t go = r
goes_on_by (fault k line) r t go = r

unfoldable pub goes_on : Ran → ℕ → Follow → Ran
goes_on r t go = goes_on_by r.outcome r t go

-- goes on behind a normal end, and behind a transfer at its label
abbrev pub leads_on_by : Outcome → Ran → ℕ → Ways → Ran
leads_on_by normal r t go = more r.pieces r.used (go onward r.map (t - r.used))
leads_on_by (jump s) r t go = more r.pieces r.used (go (at_label s) r.map (t - r.used))
leads_on_by (stopped line) r t go = r
leads_on_by (fault k line) r t go = r

unfoldable pub leads_on : Ran → ℕ → Ways → Ran
leads_on r t go = leads_on_by r.outcome r t go

-- ---- formats

-- the descriptors of a FORMAT statement with the label; the rules leave one
abbrev pub descriptors_if : Bool → ShapeTree → Option Parts
descriptors_if true (format text) = descriptors_of text
descriptors_if true s = None
descriptors_if false s = None

abbrev pub or_else : Option Parts → Option Parts → Option Parts
or_else None o = o
or_else (Some ps) o = Some ps

unfoldable pub format_found : List ItemTree → ℕ → Option Parts
format_found [] label = None
format_found (m ∷ ms) label =
    or_else (descriptors_if (has_label label m) m.shape) (format_found ms label)

abbrev pub format_at : List ItemTree → ℕ → Parts
format_at members label = unwrap_or (format_found members label) no_parts

-- the format of a WRITE or PRINT statement; the rules leave one
abbrev pub parts_for : List ItemTree → FormatTree → Parts
parts_for program (format_label label) = format_at program (number_of label)
parts_for program (format_constant text) = unwrap_or (format_in (undoubled text)) no_parts

-- ---- one statement, and then what follows it

-- goes on with the values of a list and the map behind them, or faults at the line with the map
-- that its fault left
unfoldable pub with_list : Listed → ℕ → (List Value → Map → Ran) → Ran
with_list (Ok l) line go = go l.values l.map
with_list (Err f) line go = failed f.kind line f.map

-- the values of the whole list, then their records, then one piece (12.8 and 12.9.4.2). A fault
-- writes nothing of the statement, and variables of implied DOs keep what they were given before it
-- (own)
abbrev pub output : List ItemTree → FormatTree → ListItemsTree → ℕ → Map → ℕ → Follow → Ran
output program source list line m t go =
    turn line m
    t (λ u. with_list (listed (scope_of program) list m list_limit)
    line (λ vs n. with_ok (edited (parts_for program source) vs) line
    n (λ records. more (records ∷ []) 0 (go n u))))

-- the subscripts on the left, then the value, then the place has it (10.1, own)
abbrev pub assigned : Scope → List ℕ → ExprsTree → ExprTree → ℕ → Map → ℕ → Follow → Ran
assigned s target es e line m t go =
    turn line m
    t (λ u. with_ok (subscripts s (dimensions_in (s.arrays target)) es m) line
    m (λ ss. with_ok (value s e m) line m (λ v. go (put m target ss (as_integer v)) u)))

-- a statement function's statement isn't executable
abbrev pub unless_defined : Option Definition → Ran → Ran → Ran
unless_defined None r passed = r
unless_defined (Some d) r passed = passed

-- a value, and execution goes on where it says
abbrev pub picked_by : Scope → ExprTree → (Value → Next) → ℕ → Map → ℕ → Ways → Ran
picked_by s e pick line m t go =
    turn line m t (λ u. with_ok (value s e m) line m (λ v. go (pick v) m u))

-- the label in the n-th place, counted from 0; where there is none, the next statement
abbrev pub nth_label : List (List ℕ) → ℕ → Next
nth_label [] n = onward
nth_label (s ∷ ss) zero = at_label (number_of s)
nth_label (s ∷ ss) (suc n) = nth_label ss n

-- computed GO TO: the first label at 1, and so on; the next statement where the value is less than
-- 1 or more than there are labels (11.2)
abbrev pub by_count : List (List ℕ) → ℤ → Next
by_count labels (pos zero) = onward
by_count labels (pos (suc n)) = nth_label labels n
by_count labels (negsuc n) = onward

-- arithmetic IF: by a value that is negative, zero or positive (11.4)
abbrev pub by_sign : List ℕ → List ℕ → List ℕ → ℤ → Next
by_sign negative naught positive (negsuc n) = at_label (number_of negative)
by_sign negative naught positive (pos zero) = at_label (number_of naught)
by_sign negative naught positive (pos (suc n)) = at_label (number_of positive)

-- a statement that is no logical IF; what isn't executable is passed over
abbrev pub simple : List ItemTree → ShapeTree → ℕ → Map → ℕ → Ways → Ran
simple program (assignment target es e) line m t go =
    unless_defined (defined_by (scope_of program).arrays (assignment target es e))
    (assigned (scope_of program) target es e line m t (go onward)) (go onward m t)
simple program (writing control list) line m t go =
    output program control.source list line m t (go onward)
simple program (printing source list) line m t go = output program source list line m t (go onward)
simple program continuing line m t go = turn line m t (λ u. go onward m u)
simple program end_do line m t go = turn line m t (λ u. go onward m u)
simple program (going label) line m t go = turn line m t (λ u. go (at_label (number_of label)) m u)
simple program (computed_going labels comma e) line m t go =
    picked_by (scope_of program) e (λ v. by_count labels (as_integer v)) line m t go
simple program (arithmetic_if e negative naught positive) line m t go =
    picked_by (scope_of program) e (λ v. by_sign negative naught positive (as_integer v)) line m t
    go
simple program (stopping text) line m t go = turn line m t (λ u. ended_by (stopped line) m)
simple program s line m t go = go onward m t

-- a logical IF takes a turn, and the statement under it, which is executed where the condition is
-- true, another (11.5)
abbrev pub step : List ItemTree → ShapeTree → ℕ → Map → ℕ → Ways → Ran
step program (logical_if e s) line m t go =
    turn line m
    t (λ u. with_ok (value (scope_of program) e m) line
    m (λ v. if as_logical v then simple program s line m u go else go onward m u))
step program s line m t go = simple program s line m t go

-- ---- a DO and its range (11.10.4 to 11.10.7)

-- the addition to the DO variable; the variable stays where the sum is outside INTEGER (own)
abbrev pub added : ℕ → List ℕ → ℤ → Map → (Map → Ran) → Ran
added line variable by m go =
    with_ok (integer (m variable [] +ℤ by)) line m (λ v. go (put m variable [] (as_integer v)))

-- the range, executed once for each trip that is left; an end of it that isn't normal is that of
-- the trips
unfoldable pub fold_trips : Meaning → ℕ → List ℕ → ℤ → Members → List ℤ → Map → ℕ → Ran
fold_trips rec line variable by range [] m t = ended m
fold_trips rec line variable by range (i ∷ is) m t =
    goes_on (rec range range m t)
    t (λ n u. added line variable by n (λ k. fold_trips rec line variable by range is k u))

-- the variable gets its first value, and the range is executed for each trip
abbrev pub trips_from : Meaning → ℕ → List ℕ → Members → Map → ℕ → Span → Ran
trips_from rec line variable range m t s =
    fold_trips rec line variable s.step range (trips s.first s.last s.step)
    (put m variable [] s.first) t

unfoldable pub looped : Scope → Meaning → ShapeTree → ℕ → Members → Map → ℕ → Ways → Ran
looped scope rec (doing label comma variable limits) line range m t go =
    turn line m
    t (λ u. with_ok (span_of scope limits m) line
    m (λ s. leads_on (trips_from rec line variable range m u s) u go))
looped scope rec s line range m t go = go onward m t

-- ---- a DO WHILE and its range (own)

-- the condition of a DO WHILE statement
abbrev pub while_of : ShapeTree → Option ExprTree
while_of (doing_while label comma e) = Some e
while_of s = None

-- behind the range the DO WHILE statement is executed again; a transfer out of the range goes on at
-- its label
abbrev pub ways_again : Follow → Ways → Ways
ways_again again go onward m t = again m t
ways_again again go (at_label s) m t = go (at_label s) m t

-- a test of the condition takes a turn; where it is true the range is executed
unfoldable pub repeated : Scope → Meaning → ExprTree → ℕ → Members → Follow → Map → ℕ → Ways → Ran
repeated scope rec e line range again m t go =
    turn line m
    t (λ u. with_ok (value scope e m) line
    m (λ v. if as_logical v then leads_on (rec range range m u) u (ways_again again go)
    else go onward m u))

-- a DO or DO WHILE statement with its range
unfoldable pub loop_by : Option ExprTree → Scope → Meaning → ItemTree → Members → Follow → Map → ℕ →
    Ways → Ran
loop_by None scope rec x range again m t go = looped scope rec x.shape x.line range m t go
loop_by (Some e) scope rec x range again m t go = repeated scope rec e x.line range again m t go

-- ---- a block IF and its arms (11.6 to 11.9)

-- the condition of an IF THEN or ELSE IF statement; ELSE has none
abbrev pub condition_of : ShapeTree → Option ExprTree
condition_of (block_if e) = Some e
condition_of (else_if e) = Some e
condition_of s = None

abbrev pub truth_of : Valued → Result Bool FaultKind
truth_of (Ok v) = Ok (as_logical v)
truth_of (Err k) = Err k

-- whether a condition is true; where there is none the arm is ELSE's and is executed
abbrev pub holds : Scope → Option ExprTree → Map → Result Bool FaultKind
holds scope None m = Ok true
holds scope (Some e) m = truth_of (value scope e m)

abbrev pub turn_if : Bool → ℕ → Map → ℕ → (ℕ → Ran) → Ran
turn_if true line m t go = turn line m t go
turn_if false line m t go = go t

-- whether an arm is executed. The block IF takes a turn, each ELSE IF that is tested another, and
-- ELSE none (own); the first arm is the block IF's
unfoldable pub tested : Scope → Bool → ItemTree → Map → ℕ → (Bool → ℕ → Ran) → Ran
tested scope first x m t go =
    turn_if (first || is_some (condition_of x.shape)) x.line m
    t (λ u. with_ok (holds scope (condition_of x.shape) m) x.line m (λ b. go b u))

-- the first arm whose condition is true is executed, and none where there is none
unfoldable pub arms_from : Scope → Meaning → Bool → Arms → Map → ℕ → Ways → Ran
arms_from scope rec first no_arms m t go = go onward m t
arms_from scope rec first (arm x body arms) m t go =
    tested scope first x m
    t (λ b u. if b then leads_on (rec body body m u) u go
    else arms_from scope rec false arms m u go)

-- ---- lists

-- a block IF has the label of its IF THEN statement
abbrev pub heads : ℕ → Arms → Bool
heads s no_arms = false
heads s (arm x body arms) = has_label s x

-- what of a list begins at the member with a label; END IF's label is that of the point behind its
-- block IF (own)
unfoldable pub labelled : ℕ → Members → Option Members
labelled s none = None
labelled s (plain x ms) = if has_label s x then Some (plain x ms) else labelled s ms
labelled s (loop x range ms) = if has_label s x then Some (loop x range ms) else labelled s ms
labelled s (block arms x ms) =
    if heads s arms then Some (block arms x ms)
    else (if has_label s x then Some ms else labelled s ms)

-- a transfer goes on at its label where that is one of this list; another one is the outcome of the
-- list
abbrev pub goes_at : Meaning → Members → Option Members → ℕ → Follow
goes_at rec all (Some rest) s m t = rec all rest m t
goes_at rec all None s m t = ended_by (jump s) m

-- the ways on from a member of a list
abbrev pub ways_in : Meaning → Members → Follow → Ways
ways_in rec all go onward m t = go m t
ways_in rec all go (at_label s) m t = goes_at rec all (labelled s all) s m t

-- one pass over what is left of a list; a range, an arm, what follows a transfer, and a DO WHILE
-- statement again, are executed by rec
unfoldable pub pass_over : List ItemTree → Meaning → Meaning
pass_over program rec all none m t = ended m
pass_over program rec all (plain x ms) m t =
    step program x.shape x.line m t (ways_in rec all (λ n u. pass_over program rec all ms n u))
pass_over program rec all (loop x range ms) m t =
    loop_by (while_of x.shape) (scope_of program) rec x range (rec all (loop x range ms)) m t
    (ways_in rec all (λ n u. pass_over program rec all ms n u))
pass_over program rec all (block arms x ms) m t =
    arms_from (scope_of program) rec true arms m t
    (ways_in rec all (λ n u. pass_over program rec all ms n u))

abbrev pub never : Meaning
never all rest m t = ended m

-- at most so many passes, one in another
unfoldable pub fuelled : List ItemTree → ℕ → Meaning
fuelled program zero = never
fuelled program (suc n) = pass_over program (fuelled program n)

-- each pass but the last takes a turn, so turns and one are passes enough
unfoldable pub exec : List ItemTree → Meaning
exec program all rest m t = fuelled program (suc t) all rest m t

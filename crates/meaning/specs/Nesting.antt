-- How statements nest as a program unit: their order, the ranges of DO statements, block IFs, and
-- END (ANSI X3.9-1978, 3.5 and 11.6 to 11.10).
use Rattle.std.specs.Prelude.{◌≡◌, ℕ, suc, ◌<◌, ◌^◌, Bool, true, false, not, ◌&&◌, ◌||◌, List, []}
use Rattle.std.specs.Prelude.{◌∷◌, ◌++◌, length, nat_le, min, if◌then◌else◌, Option, Some, None}
use Rattle.std.specs.Prelude.{option_map, Result, IsTrue, IsFalse, ◌⊎◌}
use Rattle.std.specs.List.{AllByRecursion, fold, list_any}
use Rattle.meaning.specs.declared.refusal.Broken.{Broken}
use Rattle.meaning.specs.declared.refusal.Rule.{Rule}
use Rattle.meaning.specs.declared.refusal.Rule.TheVariants.{N1, N2, N3, N4, N5}
use Rattle.meaning.specs.Characters.{number_of}
use Rattle.meaning.specs.Trees.{Members, none, plain, loop, block, Arms, no_arms, arm, Nested, flat}
use Rattle.meaning.specs.Trees.{flatten}
use Rattle.meaning.specs.Syntax.{ShapeTree, assignment, writing, printing, format, doing}
use Rattle.meaning.specs.Syntax.{doing_while, end_do, continuing, typing, ending, naming, implying}
use Rattle.meaning.specs.Syntax.{implicit_none, logical_typing, dimensioning, parameter, definition}
use Rattle.meaning.specs.Syntax.{computed_going, logical_if, block_if, else_if, otherwise, end_if}
use Rattle.meaning.specs.Syntax.{ItemTree}
use Rattle.meaning.specs.Refusals.{merge, unless, is_less}
use Rattle.meaning.specs.LabelRules.{is_label_at, has_label}

-- ---- what a statement is

-- what a statement does to the lists of a program unit: DO and DO WHILE open a range and name its
-- label or none, END DO closes one, IF THEN opens a block IF, ELSE IF and ELSE open the next arm of
-- one, END IF closes one, END closes the program unit, and any other stands in a list and may end a
-- range or not
pub data Effect : Type 0 where
  opens_range : Option ℕ → Effect
  closes_range : Effect
  opens_block : Effect
  opens_arm : Effect
  closes_block : Effect
  closes_unit : Effect
  stands : Bool → Effect

-- 4294967296 stands for a label that is more, which no statement has; the terminal statement of a
-- range is executable and is no GO TO, arithmetic or block IF, ELSE IF, ELSE, END IF, STOP, END or
-- DO (11.10)
abbrev pub named_label : Option (List ℕ) → Option ℕ
named_label label = option_map (λ digits. min (number_of digits) (2 ^ 32)) label

abbrev pub effect_of : ShapeTree → Effect
effect_of (doing label comma variable limits) = opens_range (named_label label)
effect_of (doing_while label comma e) = opens_range (named_label label)
effect_of end_do = closes_range
effect_of (block_if e) = opens_block
effect_of (else_if e) = opens_arm
effect_of otherwise = opens_arm
effect_of end_if = closes_block
effect_of ending = closes_unit
effect_of (assignment target subscripts e) = stands true
effect_of (definition target e) = stands true
effect_of (writing control list) = stands true
effect_of (printing source list) = stands true
effect_of (computed_going labels comma e) = stands true
effect_of (logical_if e statement) = stands true
effect_of continuing = stands true
effect_of s = stands false

-- the label that a DO or DO WHILE statement names
abbrev pub named : Effect → Option ℕ
named (opens_range label) = label
named e = None

abbrev pub may_end : Effect → Bool
may_end (stands may) = may
may_end closes_range = true
may_end e = false

abbrev pub is_end_do : Effect → Bool
is_end_do closes_range = true
is_end_do e = false

abbrev pub is_end : Effect → Bool
is_end closes_unit = true
is_end e = false

-- DO, DO WHILE or IF THEN
abbrev pub is_opening : Effect → Bool
is_opening (opens_range label) = true
is_opening opens_block = true
is_opening e = false

abbrev pub is_else : ShapeTree → Bool
is_else otherwise = true
is_else s = false

-- where a statement stands among others (3.5): PROGRAM; IMPLICIT; PARAMETER; type statements and
-- DIMENSION; FORMAT; the executable statements and any other
pub data Place : Type 0 where
  at_program : Place
  at_implicit : Place
  at_parameter : Place
  at_typing : Place
  at_format : Place
  at_executable : Place

abbrev pub place_of : ShapeTree → Place
place_of (naming letters) = at_program
place_of (implying parts) = at_implicit
place_of implicit_none = at_implicit
place_of (parameter constants) = at_parameter
place_of (typing declarators) = at_typing
place_of (logical_typing declarators) = at_typing
place_of (dimensioning declarators) = at_typing
place_of (format text) = at_format
place_of s = at_executable

-- nothing stands before PROGRAM; IMPLICIT, PARAMETER, type statements and DIMENSION stand before
-- the executable statements, and IMPLICIT before type statements and DIMENSION
abbrev pub may_stand_before : Place → Place → Bool
may_stand_before y at_program = false
may_stand_before at_executable at_implicit = false
may_stand_before at_executable at_parameter = false
may_stand_before at_executable at_typing = false
may_stand_before at_typing at_implicit = false
may_stand_before y x = true

abbrev pub may_follow : ItemTree → ItemTree → Bool
may_follow y x = may_stand_before (place_of y.shape) (place_of x.shape)

-- ---- well nested program units

-- members and then others
abbrev pub joined : Members → Members → Members
joined none others = others
joined (plain x ms) others = plain x (joined ms others)
joined (loop x range ms) others = loop x range (joined ms others)
joined (block arms x ms) others = block arms x (joined ms others)

abbrev pub joined_arms : Arms → Arms → Arms
joined_arms no_arms others = others
joined_arms (arm x ms arms) others = arm x ms (joined_arms arms others)

-- a range ends with the first statement that has the label, and that statement may end one
-- (11.10.1)
pub record IsRange (label : ℕ) (range : List ItemTree) : Type 0 where
  pub front : List ItemTree
  pub last : ItemTree
  pub parts : range ≡ front ++ last ∷ []
  pub unlabelled : AllByRecursion (λ x. IsFalse (has_label label x)) front
  pub labelled : IsTrue (has_label label last)
  pub terminal : IsTrue (may_end (effect_of last.shape))

-- END DO is the last member of a list
abbrev pub ends_with_end_do : Members → Bool
ends_with_end_do none = false
ends_with_end_do (plain x none) = is_end_do (effect_of x.shape)
ends_with_end_do (plain x ms) = ends_with_end_do ms
ends_with_end_do (loop x range ms) = ends_with_end_do ms
ends_with_end_do (block arms x ms) = ends_with_end_do ms

-- END DO ends one range and no other: it is a member of the range that it ends (own)
pub record IsRangeAt (label : ℕ) (range : Members) : Type 0 where
  pub ends : IsRange label (flat range)
  pub one : is_end_do (effect_of ends.last.shape) ≡ ends_with_end_do range

-- a DO statement without a label is ended by END DO alone (own)
abbrev pub IsEnded : Option ℕ → Members → Type 0
IsEnded (Some label) range = IsRangeAt label range
IsEnded None range = IsTrue (ends_with_end_do range)

-- the range of a DO or DO WHILE statement
pub record IsRangeOf (head : ShapeTree) (range : Members) : Type 0 where
  pub label : Option ℕ
  pub names : effect_of head ≡ opens_range label
  pub ends : IsEnded label range

-- a statement by itself
pub record IsPlain (s : ShapeTree) : Type 0 where
  pub may : Bool
  pub alone : effect_of s ≡ stands may

-- END DO stands at the end of a range, before nothing
pub record IsEndDo (in_range : Bool) (s : ShapeTree) (ms : Members) : Type 0 where
  pub ranged : IsTrue in_range
  pub closes : effect_of s ≡ closes_range
  pub last : ms ≡ none

abbrev mutual
  -- the members of a range, or of another list, that stand in so many ranges and block IFs are well
  -- nested; 32 at most are open at once (own)
  pub IsWell : Bool → ℕ → Members → Type 0
  IsWell in_range around none = Unit {0}
  IsWell in_range around (plain x ms) =
      (IsPlain x.shape ⊎ IsEndDo in_range x.shape ms) × IsWell in_range around ms
  IsWell in_range around (loop x range ms) =
      (around < 32) × IsRangeOf x.shape range × IsWell true (suc around) range
      × IsWell in_range around ms
  IsWell in_range around (block arms x ms) =
      (around < 32) × AreArms around arms × (effect_of x.shape ≡ closes_block)
      × IsWell in_range around ms

  -- the arm of IF THEN comes first (11.6)
  pub AreArms : ℕ → Arms → Type 0
  AreArms around no_arms = ⊥
  AreArms around (arm x ms arms) =
      (effect_of x.shape ≡ opens_block) × IsWell false (suc around) ms
      × AreFurther around false arms

  -- then those of ELSE IF and ELSE, and none behind that of ELSE (11.7, 11.8)
  pub AreFurther : ℕ → Bool → Arms → Type 0
  AreFurther around over no_arms = Unit {0}
  AreFurther around over (arm x ms arms) =
      IsFalse over × (effect_of x.shape ≡ opens_arm) × IsWell false (suc around) ms
      × AreFurther around (is_else x.shape) arms

-- each statement may stand before all that follow it (3.5)
abbrev pub IsOrdered : List ItemTree → Type 0
IsOrdered [] = Unit {0}
IsOrdered (y ∷ xs) = AllByRecursion (λ x. IsTrue (may_follow y x)) xs × IsOrdered xs

-- END is the last statement of the body and stands nowhere else (3.5)
pub record IsProgram (t : Nested) : Type 0 where
  pub front : Members
  pub last : ItemTree
  pub parts : t.body ≡ joined front (plain last none)
  pub well : IsWell false 0 front
  pub closed : effect_of last.shape ≡ closes_unit
  pub ordered : IsOrdered (flatten t)

-- the statements nest as the program unit
pub record NestsAs (items : List ItemTree) (t : Nested) : Type 0 where
  pub well : IsProgram t
  pub order : flatten t ≡ items

-- some well nested program unit begins with these statements
pub record IsViable (items : List ItemTree) : Type 0 where
  pub more : List ItemTree
  pub whole : Nested
  pub nests : NestsAs (items ++ more) whole

-- ---- what is open behind some statements

-- a program unit as far as it was read: END was read, or nothing is open; or the innermost open
-- range with its DO statement, the label that this names or none, what stands in the range so far,
-- and what the range stands in; or the innermost open block IF with its earlier arms, the statement
-- of the arm that is read, what stands in this so far, and what the block IF stands in
pub data Unfinished : Type 0 where
  ended : Members → Unfinished
  body : Members → Unfinished
  range : ItemTree → Option ℕ → Members → Unfinished → Unfinished
  branch : Arms → ItemTree → Members → Unfinished → Unfinished

abbrev pub start : Unfinished
start = body none

-- the members of the innermost list so far
abbrev pub innermost : Unfinished → Members
innermost (ended ms) = ms
innermost (body ms) = ms
innermost (range head s ms around) = ms
innermost (branch arms head ms around) = ms

-- an open range with its label or none, or an open block IF, and whether ELSE was read
pub data Level : Type 0 where
  in_range : Option ℕ → Level
  in_block : Bool → Level

-- what is open, innermost first
abbrev pub levels : Unfinished → List Level
levels (ended ms) = []
levels (body ms) = []
levels (range head s ms around) = in_range s ∷ levels around
levels (branch arms head ms around) = in_block (is_else head.shape) ∷ levels around

-- a statement's label is the one that a DO statement names
abbrev pub is_label_named : Option ℕ → Option ℕ → Bool
is_label_named label None = false
is_label_named label (Some s) = is_label_at label s

-- more members in the innermost list; their last statement has this label, or none, and ends the
-- innermost ranges whose DO statements name it (11.10.1)
abbrev pub add : Option ℕ → Members → Unfinished → Unfinished
add label more (ended ms) = ended (joined ms more)
add label more (body ms) = body (joined ms more)
add label more (range head s ms around) =
    if is_label_named label s then add label (loop head (joined ms more) none) around
    else range head s (joined ms more) around
add label more (branch arms head ms around) = branch arms head (joined ms more) around

-- the arms of a block IF with the one that was read
abbrev pub with_arm : Arms → ItemTree → Members → Arms
with_arm arms head ms = joined_arms arms (arm head ms no_arms)

-- behind ELSE IF or ELSE, and behind END IF, whose label belongs to the list that holds the block
-- IF; no rule allows them elsewhere
abbrev pub next_arm : ItemTree → Unfinished → Unfinished
next_arm x (branch arms head ms around) = branch (with_arm arms head ms) x none around
next_arm x z = z

abbrev pub close_block : ItemTree → Unfinished → Unfinished
close_block x (branch arms head ms around) =
    add x.label (block (with_arm arms head ms) x none) around
close_block x z = z

-- behind END DO, which closes the innermost range alone; no rule allows it elsewhere
abbrev pub close_range : ItemTree → Unfinished → Unfinished
close_range x (range head s ms around) = add None (loop head (joined ms (plain x none)) none) around
close_range x z = z

abbrev pub past_by : Unfinished → ItemTree → Effect → Unfinished
past_by z x (opens_range s) = range x s none z
past_by z x closes_range = close_range x z
past_by z x opens_block = branch no_arms x none z
past_by z x opens_arm = next_arm x z
past_by z x closes_block = close_block x z
past_by z x closes_unit = ended (joined (innermost z) (plain x none))
past_by z x (stands may) = add x.label (plain x none) z

-- behind one statement more
unfoldable pub past : Unfinished → ItemTree → Unfinished
past z x = past_by z x (effect_of x.shape)

-- behind some statements
abbrev pub behind : Unfinished → List ItemTree → Unfinished
behind z [] = z
behind z (x ∷ xs) = behind (past z x) xs

-- ---- the rules that a statement breaks behind others

-- N1: it may not stand behind one of those before it
abbrev pub is_misplaced : List ItemTree → ItemTree → Bool
is_misplaced before x = list_any (λ y. not (may_follow y x)) before

-- N2: nothing stands behind END
abbrev pub is_ended : Unfinished → Bool
is_ended (ended ms) = true
is_ended (body ms) = false
is_ended (range head s ms around) = false
is_ended (branch arms head ms around) = false

-- N3: ELSE IF, ELSE or END IF where the innermost open thing is no block IF, ELSE IF or ELSE behind
-- ELSE, or END in a block IF
abbrev pub is_stray : Effect → List Level → Bool
is_stray opens_arm (in_block over ∷ around) = over
is_stray opens_arm opened = true
is_stray closes_block (in_block over ∷ around) = false
is_stray closes_block opened = true
is_stray closes_unit (in_block over ∷ around) = true
is_stray e opened = false

-- an open DO statement names the label
abbrev pub is_named_at : Option ℕ → Level → Bool
is_named_at label (in_range s) = is_label_named label s
is_named_at label (in_block over) = false

abbrev pub is_named : Option ℕ → List Level → Bool
is_named label opened = list_any (is_named_at label) opened

-- an open DO statement names the label, and within its range another that names another or none, or
-- a block IF, is open: they would cross
abbrev pub is_hidden : Option ℕ → List Level → Bool
is_hidden label [] = false
is_hidden label (l ∷ opened) =
    if is_named_at label l then is_hidden label opened else is_named label opened

-- END in a range
abbrev pub is_end_in_range : Effect → List Level → Bool
is_end_in_range closes_unit (in_range s ∷ around) = true
is_end_in_range e opened = false

-- the innermost open thing is a range that END DO with the label ends: its DO statement names no
-- label, or this one
abbrev pub may_close : Option ℕ → Level → Bool
may_close label (in_range None) = true
may_close label (in_range (Some s)) = is_label_at label s
may_close label (in_block over) = false

-- END DO where it ends no range, or where another open DO statement names its label (own)
abbrev pub is_stray_end_do : Option ℕ → Effect → List Level → Bool
is_stray_end_do label closes_range [] = true
is_stray_end_do label closes_range (l ∷ around) = not (may_close label l) || is_named label around
is_stray_end_do label e opened = false

-- N4: the statement has the label of a range that it can't end, since something else is open within
-- or since it may not end one; or it is a DO statement whose range and an open one couldn't both
-- end; or it is END in a range; or END DO that can't end one
abbrev pub is_crossing : List Level → Option ℕ → Effect → Bool
is_crossing opened label e =
    is_hidden label opened
    || ((is_named label opened && not (may_end e))
    || (is_hidden (named e) opened
    || (is_end_in_range e opened || is_stray_end_do label e opened)))

-- N5: 32 are open already
abbrev pub is_too_deep : List Level → Effect → Bool
is_too_deep opened e = is_opening e && nat_le 32 (length opened)

-- the least of N3, N4 and N5 that a statement with a label and an effect breaks
abbrev pub breaks_nesting : List Level → Option ℕ → Effect → Option Rule
breaks_nesting opened label e =
    if is_stray e opened then Some N3
    else (if is_crossing opened label e then Some N4
    else (if is_too_deep opened e then Some N5 else None))

-- the least rule that a statement breaks there, by those before it
unfoldable pub breaks : List ItemTree → Unfinished → ItemTree → Option Rule
breaks before z x =
    if is_misplaced before x then Some N1
    else (if is_ended z then Some N2
    else breaks_nesting (levels z) x.label (effect_of x.shape))

-- ---- reading

-- no statement is END
abbrev pub lacks_end : List ItemTree → Bool
lacks_end items = not (list_any (λ (x : ItemTree). is_end (effect_of x.shape)) items)

-- the line of the last statement, or 1 where there is none
abbrev pub last_line : List ItemTree → ℕ
last_line items = fold (λ line (x : ItemTree). x.line) 1 items

-- N2: END is missing
unfoldable pub missing_end : List ItemTree → Option Broken
missing_end items =
    if lacks_end items then Some (record { line = last_line items; rule = N2 }) else None

-- the rule at the statement, if one is broken there, else the pair behind it
abbrev pub told_first : ItemTree → Option Rule → Option Broken → Option Broken
told_first x (Some rule) later = Some (record { line = x.line; rule = rule })
told_first x None later = later

-- the first statement that breaks a rule behind those before it
abbrev pub first_broken : List ItemTree → Unfinished → List ItemTree → Option Broken
first_broken before z [] = None
first_broken before z (x ∷ xs) =
    told_first x (breaks before z x) (first_broken (before ++ x ∷ []) (past z x) xs)

-- the program unit of the statements, or the least broken pair
unfoldable pub nest : List ItemTree → Result Nested Broken
nest items =
    unless (merge (missing_end items) (first_broken [] start items))
    (record { body = innermost (behind start items) })

-- ---- refusals

-- no statement is END; told at the last statement, or at line 1 where there is none
pub record LacksEnd (items : List ItemTree) (b : Broken) : Type 0 where
  pub open_all : AllByRecursion (λ x. IsFalse (is_end (effect_of x.shape))) items
  pub pair : b ≡ record { line = last_line items; rule = N2 }

-- told at a statement up to which no program unit begins so, while one begins with those before it
pub record GoesTooFar (items : List ItemTree) (b : Broken) : Type 0 where
  pub front : List ItemTree
  pub member : ItemTree
  pub back : List ItemTree
  pub parts : items ≡ front ++ member ∷ back
  pub viable : IsViable front
  pub over : ¬ IsViable (front ++ member ∷ [])
  pub at : b.line ≡ member.line
  pub rule_is : breaks front (behind start front) member ≡ Some b.rule

abbrev pub IsBroken : List ItemTree → Broken → Type 0
IsBroken items b = LacksEnd items b ⊎ GoesTooFar items b

-- the least pair that is broken
pub record IsRefusedAt (items : List ItemTree) (b : Broken) : Type 0 where
  pub broken : IsBroken items b
  pub least : (c : Broken) → IsBroken items c → IsFalse (is_less c b)

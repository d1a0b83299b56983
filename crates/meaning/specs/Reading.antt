-- Reading a bare text as a form. A reader answers what it read and what is left of the text, or
-- nothing.
use Rattle.std.specs.Prelude.{ℕ, zero, suc, ◌+◌, ◌-◌, Bool, true, false, ◌&&◌, not, List, [], ◌∷◌}
use Rattle.std.specs.Prelude.{◌++◌, length, nat_le, nat_lt, ◌==◌, if◌then◌else◌, Option, Some, None}
use Rattle.std.specs.Prelude.{Result, Ok, Err, codes, nat_eq, max}
use Rattle.std.specs.List.{starts_with, list_any, list_all}
use Rattle.meaning.specs.declared.syntax.Sign.{Sign}
use Rattle.meaning.specs.declared.syntax.Sign.TheVariants as signs
use Rattle.meaning.specs.declared.syntax.Operator.{Operator}
use Rattle.meaning.specs.declared.syntax.Operator.TheVariants as operators
use Rattle.meaning.specs.declared.syntax.DataType.{DataType}
use Rattle.meaning.specs.declared.syntax.DataType.TheVariants as types
use Rattle.meaning.specs.declared.syntax.Kind.{Kind}
use Rattle.meaning.specs.declared.syntax.Kind.TheVariants as kinds
use Rattle.meaning.specs.declared.refusal.Rule.{Rule}
use Rattle.meaning.specs.declared.refusal.Rule.TheVariants.{G1, G2, G3}
use Rattle.meaning.specs.Characters.{is_digit, is_letter, is_alphanumeric, is_name, is_number}
use Rattle.meaning.specs.Characters.{is_label, apostrophe}
use Rattle.meaning.specs.Syntax.{ExprTree, number, truth, name, signed, negated, binary, paren}
use Rattle.meaning.specs.Syntax.{element, call, ExprsTree, no_exprs, exprs, BoundsTree}
use Rattle.meaning.specs.Syntax.{DeclaratorTree, UnitTree, star, unit_number, LimitsTree}
use Rattle.meaning.specs.Syntax.{ListItemTree, value_item, loop_item, ListItemsTree, no_items}
use Rattle.meaning.specs.Syntax.{more_items, FormatTree, format_label, format_constant, ControlTree}
use Rattle.meaning.specs.Syntax.{LettersTree, ImplicitTree, ConstantTree, DataConstantTree}
use Rattle.meaning.specs.Syntax.{data_number, data_truth, data_name, RepeatTree, repeat_number}
use Rattle.meaning.specs.Syntax.{repeat_name, DataValueTree, DataSetTree, StopTree, stop_silent}
use Rattle.meaning.specs.Syntax.{stop_digits, stop_text, ShapeTree, assignment, writing, printing}
use Rattle.meaning.specs.Syntax.{format, doing, continuing, typing, ending, naming, implying}
use Rattle.meaning.specs.Syntax.{logical_typing, dimensioning, parameter, initializing, definition}
use Rattle.meaning.specs.Syntax.{going, computed_going, arithmetic_if, logical_if, block_if}
use Rattle.meaning.specs.Syntax.{else_if, otherwise, end_if, stopping, doing_while, end_do}
use Rattle.meaning.specs.Syntax.{implicit_none}
use Rattle.meaning.specs.Spelling.{operator_text, level, left_least, right_least, level_of}
use Rattle.meaning.specs.Spelling.{balanced, is_stop_number, are_data_items, begins_without_comma}
use Rattle.meaning.specs.declared.syntax.ControlOrder.TheVariants as orders
use Rattle.meaning.specs.Kinds.{kind_of, begins, begins_with_digit, has_equals}

abbrev pub Text : Type 0
Text = List ℕ

abbrev pub Reader : Type 0 → Type 0
Reader A = Text → Option (A × Text)

-- ---- combinators

infixl 10 ◌>>=◌
unfoldable pub ◌>>=◌ : {A B : Type 0} → Option A → (A → Option B) → Option B
None >>= f = None
(Some x) >>= f = f x

unfoldable pub when : {A : Type 0} → Bool → Option A → Option A
when true o = o
when false o = None

-- the first where there is nothing, else what the value gives
unfoldable pub either : {A B : Type 0} → Option A → B → (A → B) → B
either None b f = b
either (Some x) b f = f x

-- what stands behind a word
unfoldable pub after : List ℕ → Text → Option Text
after [] t = Some t
after (w ∷ ws) [] = None
after (w ∷ ws) (c ∷ t) = when (w == c) (after ws t)

-- a character more at the front of what was read
abbrev pub with_char : ℕ → Text × Text → Text × Text
with_char c r = (c ∷ r.0, r.1)

-- the longest front whose characters pass
unfoldable pub run : (ℕ → Bool) → Text → Text × Text
run test [] = ([], [])
run test (c ∷ t) = if test c then with_char c (run test t) else ([], c ∷ t)

abbrev pub at_end : {A : Type 0} → A × Text → Option A
at_end (x, []) = Some x
at_end (x, c ∷ t) = None

-- ---- expressions

unfoldable pub sign_at : Reader Sign
sign_at [] = None
sign_at (c ∷ t) =
    if c == 43 then Some (signs.Plus, t) else (if c == 45 then Some (signs.Minus, t) else None)

-- the operators; ** stands before *, with which it begins
abbrev pub all_operators : List Operator
all_operators =
    operators.Power ∷
    (operators.Multiply ∷
    (operators.Divide ∷
    (operators.Add ∷
    (operators.Subtract ∷
    (operators.Less ∷
    (operators.LessOrEqual ∷
    (operators.Equal ∷
    (operators.NotEqual ∷
    (operators.GreaterOrEqual ∷
    (operators.Greater ∷
    (operators.And ∷
    (operators.Or ∷ (operators.Equivalent ∷ (operators.NotEquivalent ∷ []))))))))))))))

unfoldable pub first_operator_at : List Operator → Reader Operator
unfolding either
first_operator_at [] t = None
first_operator_at (o ∷ os) t =
    either (after (operator_text o) t) (first_operator_at os t) (λ rest. Some (o, rest))

unfoldable pub operator_at : Reader Operator
operator_at t = first_operator_at all_operators t

unfoldable pub truth_at : Reader Bool
unfolding either
truth_at t =
    either (after (codes ".TRUE.") t) (either (after (codes ".FALSE.") t) None (λ rest. Some (false, rest))) (λ rest. Some (true, rest))

unfoldable pub name_at : Reader (List ℕ)
name_at t = if is_name (run is_alphanumeric t).0 then Some (run is_alphanumeric t) else None

-- an expression of the weakest level behind an opening parenthesis, and the closing one
unfoldable pub paren_at : (ℕ → Reader ExprTree) → Reader ExprTree
unfolding ◌>>=◌
paren_at rec t = rec 0 t >>= λ e. after (41 ∷ []) e.1 >>= λ rest. Some (paren e.0, rest)

-- expressions of the weakest level with commas between, one at least and so many at most
unfoldable pub exprs_at : (ℕ → Reader ExprTree) → ℕ → Reader ExprsTree
unfolding ◌>>=◌ either
exprs_at rec zero t = None
exprs_at rec (suc n) t =
    rec 0 t >>=
    λ e. either (after (44 ∷ []) e.1)
    (Some (exprs e.0 no_exprs, e.1)) (λ rest. exprs_at rec n rest >>=
    λ es. Some (exprs e.0 es.0, es.1))

-- subscripts in parentheses, or none
unfoldable pub subscripts_at : (ℕ → Reader ExprTree) → Reader ExprsTree
unfolding ◌>>=◌ either
subscripts_at rec t =
    either (after (40 ∷ []) t)
    (Some (no_exprs, t)) (λ rest. exprs_at rec (suc (length rest)) rest >>=
    λ es. after (41 ∷ []) es.1 >>= λ behind. Some (es.0, behind))

-- a name, or with subscripts an element
abbrev pub named_by : List ℕ → ExprsTree → ExprTree
named_by letters no_exprs = name letters
named_by letters (exprs e es) = element letters (exprs e es)

-- behind a name (), subscripts, or neither
unfoldable pub name_or_element_at : (ℕ → Reader ExprTree) → Reader ExprTree
unfolding ◌>>=◌ either
name_or_element_at rec t =
    name_at t >>=
    λ n. either (after (codes "()") n.1)
    (subscripts_at rec n.1 >>=
    λ es. Some (named_by n.0 es.0, es.1)) (λ rest. Some (call n.0, rest))

-- digits, an expression in parentheses, a logical constant, a name, an element or a function
-- reference
unfoldable pub primary_at : (ℕ → Reader ExprTree) → Reader ExprTree
unfolding ◌>>=◌
primary_at rec [] = None
primary_at rec (c ∷ t) =
    if is_digit c then Some (number (run is_digit (c ∷ t)).0, (run is_digit (c ∷ t)).1)
    else (if c == 40 then paren_at rec t
    else (if c == 46 then truth_at (c ∷ t) >>= (λ b. Some (truth b.0, b.1))
    else name_or_element_at rec (c ∷ t)))

-- .NOT. and its operand, where the level lets it stand, or a primary
unfoldable pub negation_at : (ℕ → Reader ExprTree) → ℕ → Reader ExprTree
unfolding ◌>>=◌ either when
negation_at rec least t =
    either (after (codes ".NOT.") t)
    (primary_at rec t) (λ rest. when (nat_le least 3)
    (rec 4 rest >>= λ e. Some (negated e.0, e.1)))

-- what an expression of a level begins with: a sign and one term, where the level lets a sign
-- stand, .NOT. and its operand, or a primary
unfoldable pub front_at : (ℕ → Reader ExprTree) → ℕ → Reader ExprTree
unfolding ◌>>=◌ either when
front_at rec least t =
    either (sign_at t)
    (negation_at rec least t) (λ s. when (nat_le least 5)
    (rec 6 s.1 >>= λ e. Some (signed s.0 e.0, e.1)))

-- an operator of this level or a stronger one that may have this operand on its left
abbrev pub may_follow : ℕ → ExprTree → Operator → Bool
may_follow least left o = nat_le least (level o) && nat_le (left_least (level o)) (level_of left)

-- goes on while such an operator follows; each takes an operand that binds strongly enough
unfoldable pub operations_at : (ℕ → Reader ExprTree) → ℕ → ℕ → ExprTree → Reader ExprTree
unfolding ◌>>=◌ either
operations_at rec zero least left t = Some (left, t)
operations_at rec (suc n) least left t =
    either (operator_at t) (Some (left, t)) (λ o.
    if may_follow least left o.0
    then (rec (right_least (level o.0)) o.1 >>= λ right. operations_at rec n least
    (binary o.0 left right.0) right.1)
    else Some (left, t))

unfoldable pub expression_at : ℕ → ℕ → Reader ExprTree
unfolding ◌>>=◌
expression_at zero least t = None
expression_at (suc n) least t =
    front_at (expression_at n) least t >>=
    λ e. operations_at (expression_at n) (length e.1) least e.0 e.1

-- an expression of the weakest level, with depth enough for any
unfoldable pub whole_expression_at : Reader ExprTree
whole_expression_at t = expression_at (suc (length t)) 0 t

-- ---- statements

unfoldable pub label_at : Reader (List ℕ)
label_at t = if is_label (run is_digit t).0 then Some (run is_digit t) else None

unfoldable pub unit_at : Reader UnitTree
unfolding ◌>>=◌ either
unit_at t =
    either (after (42 ∷ []) t)
    (whole_expression_at t >>= λ e. Some (unit_number e.0, e.1)) (λ rest. Some (star, rest))

-- limits: two expressions or three, with commas between
unfoldable pub limits_at : Reader LimitsTree
unfolding ◌>>=◌ either
limits_at t = do
  first ← whole_expression_at t
  behind ← after (44 ∷ []) first.1
  last ← whole_expression_at behind
  either (after (44 ∷ []) last.1)
      (Some (record { first = first.0; last = last.0; step = None }, last.1)) (λ rest.
      whole_expression_at rest >>=
      λ e. Some (record { first = first.0; last = last.0; step = Some e.0 }, e.1))

-- the text of a character constant behind its first apostrophe, up to the last one, behind what was
-- read of it; so many characters at most
unfoldable pub quoted_at : ℕ → Text → Reader Text
unfolding ◌>>=◌ either
quoted_at zero read t = None
quoted_at (suc n) read [] = None
quoted_at (suc n) read (c ∷ t) =
    if c == apostrophe
    then either (after (apostrophe ∷ []) t)
    (Some (read, t)) (λ rest. quoted_at n (read ++ (apostrophe ∷ (apostrophe ∷ []))) rest)
    else quoted_at n (read ++ (c ∷ [])) t

-- ---- lists of WRITE, PRINT and DATA statements

-- an expression of a level, with depth enough for any
unfoldable pub expression_from : ℕ → Reader ExprTree
expression_from least t = expression_at (suc (length t)) least t

-- the variable of an implied DO with its equals sign
unfoldable pub begins_control : Text → Bool
begins_control t = is_name (run is_alphanumeric t).0 && begins (run is_alphanumeric t).1 (codes "=")

-- no comma stands there, or a comma before such a variable
unfoldable pub ends_list : Text → Bool
unfolding either
ends_list t = either (after (44 ∷ []) t) true (λ rest. begins_control rest)

unfoldable pub value_item_at : ℕ → Reader ListItemTree
unfolding ◌>>=◌
value_item_at least t = expression_from least t >>= λ e. Some (value_item e.0, e.1)

-- an implied DO behind its opening parenthesis
unfoldable pub loop_item_at : Reader ListItemsTree → Reader ListItemTree
unfolding ◌>>=◌
loop_item_at rec t = do
  xs ← rec t
  rest ← after (44 ∷ []) xs.1
  v ← name_at rest
  behind ← after (61 ∷ []) v.1
  limits ← limits_at behind
  end ← after (41 ∷ []) limits.1
  Some (loop_item xs.0 v.0 limits.0, end)

-- a parenthesis with an equals sign before the one that closes it begins an implied DO
unfoldable pub item_at : ℕ → Reader ListItemsTree → Reader ListItemTree
unfolding either
item_at least rec t =
    either (after (40 ∷ []) t)
    (value_item_at least t) (λ rest. if has_equals rest then loop_item_at rec rest
    else value_item_at least t)

-- items with commas between, one at least and so many at most
unfoldable pub items_at : ℕ → ℕ → Reader ListItemsTree
unfolding ◌>>=◌
items_at least zero t = None
items_at least (suc n) t =
    item_at least (items_at least n) t >>= λ x.
    if ends_list x.1 then Some (more_items x.0 no_items, x.1)
    else (after (44 ∷ []) x.1 >>= λ rest. items_at least n rest >>= λ xs. Some
    (more_items x.0 xs.0, xs.1))

-- the rest of a text: items, or nothing
unfoldable pub list_of : Text → Option ListItemsTree
unfolding ◌>>=◌
list_of [] = Some no_items
list_of (c ∷ t) = items_at 0 (suc (length (c ∷ t))) (c ∷ t) >>= at_end

-- the same behind a comma
unfoldable pub list_behind_comma : Text → Option ListItemsTree
unfolding ◌>>=◌ when
list_behind_comma [] = Some no_items
list_behind_comma (c ∷ t) = when (c == 44) (items_at 0 (suc (length t)) t >>= at_end)

-- ---- WRITE and PRINT statements

-- a label or a character constant
unfoldable pub source_at : Reader FormatTree
unfolding ◌>>=◌ either
source_at t =
    either (after (apostrophe ∷ []) t)
    (label_at t >>=
    λ l. Some (format_label l.0, l.1)) (λ rest. quoted_at (suc (length rest)) [] rest >>=
    λ x. Some (format_constant x.0, x.1))

unfoldable pub format_first_at : Reader ControlTree
unfolding ◌>>=◌
format_first_at t = do
  f ← source_at t
  rest ← after (codes ",UNIT=") f.1
  u ← unit_at rest
  Some (record { order = orders.FormatFirst; unit = u.0; source = f.0 }, u.1)

unfoldable pub unit_first_at : Reader ControlTree
unfolding ◌>>=◌
unit_first_at t = do
  u ← unit_at t
  rest ← after (codes ",FMT=") u.1
  f ← source_at rest
  Some (record { order = orders.UnitFirst; unit = u.0; source = f.0 }, f.1)

-- a format behind a unit without a keyword, with a keyword or without one
unfoldable pub behind_unit_at : UnitTree → Reader ControlTree
unfolding ◌>>=◌ either
behind_unit_at u t =
    either (after (codes ",FMT=") t)
    (after (44 ∷ []) t >>= λ rest. source_at rest >>=
    λ f. Some (record { order = orders.Plain; unit = u; source = f.0 }, f.1))
    (λ rest. source_at rest >>=
    λ f. Some (record { order = orders.FormatNamed; unit = u; source = f.0 }, f.1))

unfoldable pub control_at : Reader ControlTree
unfolding ◌>>=◌ either
control_at t =
    either (after (codes "FMT=") t) (either (after (codes "UNIT=") t) (unit_at t >>= λ u. behind_unit_at u.0 u.1) (λ rest. unit_first_at rest)) (λ rest. format_first_at rest)

unfoldable pub writing_of : Text → Option ShapeTree
unfolding ◌>>=◌
writing_of t = do
  rest ← after (codes "WRITE(") t
  c ← control_at rest
  list ← after (41 ∷ []) c.1
  xs ← list_of list
  Some (writing c.0 xs)

unfoldable pub printing_of : Text → Option ShapeTree
unfolding ◌>>=◌
printing_of t = do
  rest ← after (codes "PRINT") t
  f ← source_at rest
  xs ← list_behind_comma f.1
  Some (printing f.0 xs)

-- ---- assignments, FORMAT and DO statements

-- what stands before a last closing parenthesis
unfoldable pub before_last_parenthesis : Text → Option Text
unfolding ◌>>=◌ when
before_last_parenthesis [] = None
before_last_parenthesis (c ∷ []) = when (c == 41) (Some [])
before_last_parenthesis (c ∷ d ∷ t) = before_last_parenthesis (d ∷ t) >>= λ r. Some (c ∷ r)

-- an expression that ends the text
unfoldable pub value_of : Text → Option ExprTree
unfolding ◌>>=◌
value_of t = whole_expression_at t >>= at_end

-- what stands behind the name on the left
unfoldable pub target_of : List ℕ → Text → Option ShapeTree
unfolding ◌>>=◌
target_of target t = do
  es ← subscripts_at (λ least rest. whole_expression_at rest) t
  rest ← after (61 ∷ []) es.1
  e ← value_of rest
  Some (assignment target es.0 e)

unfoldable pub assignment_of : Text → Option ShapeTree
unfolding ◌>>=◌ either
assignment_of t =
    name_at t >>=
    λ n. either (after (codes "()=") n.1)
    (target_of n.0 n.1) (λ rest. value_of rest >>= λ e. Some (definition n.0 e))

unfoldable pub format_of : Text → Option ShapeTree
unfolding ◌>>=◌ when
format_of t = do
  rest ← after (codes "FORMAT(") t
  text ← before_last_parenthesis rest
  when (balanced 0 false text) (Some (format text))

-- a statement that is a keyword alone
unfoldable pub alone_of : List ℕ → ShapeTree → Text → Option ShapeTree
unfolding ◌>>=◌
alone_of word s t = do
  rest ← after word t
  at_end (s, rest)

-- a comma, or none
unfoldable pub comma_at : Text → Bool × Text
unfolding either
comma_at t = either (after (44 ∷ []) t) (false, t) (λ rest. (true, rest))

-- the label of a DO or DO WHILE statement and a comma behind it or none, or neither
abbrev pub RangeLabel : Type 0
RangeLabel = Option (List ℕ) × Bool

unfoldable pub range_label_at : Reader RangeLabel
unfolding ◌>>=◌
range_label_at t =
    if begins_with_digit t
    then label_at t >>= (λ l. Some ((Some l.0, (comma_at l.1).0), (comma_at l.1).1))
    else Some ((None, false), t)

unfoldable pub doing_of : Text → Option ShapeTree
unfolding ◌>>=◌
doing_of t = do
  rest ← after (codes "DO") t
  l ← range_label_at rest
  v ← name_at l.1
  behind ← after (61 ∷ []) v.1
  limits ← limits_at behind
  at_end (doing l.0.0 l.0.1 v.0 limits.0, limits.1)

unfoldable pub doing_while_of : Text → Option ShapeTree
unfolding ◌>>=◌
doing_while_of t = do
  rest ← after (codes "DO") t
  l ← range_label_at rest
  opened ← after (codes "WHILE(") l.1
  e ← whole_expression_at opened
  behind ← after (41 ∷ []) e.1
  at_end (doing_while l.0.0 l.0.1 e.0, behind)

-- ---- type statements

-- bounds: an expression, or two with a colon between
unfoldable pub bounds_at : Reader BoundsTree
unfolding ◌>>=◌ either
bounds_at t =
    whole_expression_at t >>=
    λ e. either (after (58 ∷ []) e.1)
    (Some (record { lower = None; upper = e.0 }, e.1)) (λ rest. whole_expression_at rest >>=
    λ u. Some (record { lower = Some e.0; upper = u.0 }, u.1))

-- some with commas between, one at least and so many at most
unfoldable pub separated_at : {A : Type 0} → Reader A → ℕ → Reader (List A)
unfolding ◌>>=◌ either
separated_at one zero t = None
separated_at one (suc n) t =
    one t >>=
    λ x. either (after (44 ∷ []) x.1)
    (Some (x.0 ∷ [], x.1)) (λ rest. separated_at one n rest >>= λ xs. Some (x.0 ∷ xs.0, xs.1))

unfoldable pub dimensions_at : Reader (List BoundsTree)
unfolding ◌>>=◌ either
dimensions_at t =
    either (after (40 ∷ []) t)
    (Some ([], t)) (λ rest. separated_at bounds_at (suc (length rest)) rest >>=
    λ bs. after (41 ∷ []) bs.1 >>= λ behind. Some (bs.0, behind))

unfoldable pub declarator_at : Reader DeclaratorTree
unfolding ◌>>=◌
declarator_at t = name_at t >>= λ n. dimensions_at n.1 >>=
    λ bs. Some (record { name = n.0; bounds = bs.0 }, bs.1)

-- declarators behind a keyword
unfoldable pub declarators_of : List ℕ → Text → Option (List DeclaratorTree)
unfolding ◌>>=◌
declarators_of word t = do
  rest ← after word t
  ds ← separated_at declarator_at (suc (length rest)) rest
  at_end ds

unfoldable pub typing_of : Text → Option ShapeTree
unfolding ◌>>=◌
typing_of t = declarators_of (codes "INTEGER") t >>= λ ds. Some (typing ds)

unfoldable pub logical_typing_of : Text → Option ShapeTree
unfolding ◌>>=◌
logical_typing_of t = declarators_of (codes "LOGICAL") t >>= λ ds. Some (logical_typing ds)

abbrev pub has_bounds : DeclaratorTree → Bool
has_bounds d = nat_lt 0 (length d.bounds)

unfoldable pub dimensioning_of : Text → Option ShapeTree
unfolding ◌>>=◌ when
dimensioning_of t = declarators_of (codes "DIMENSION") t >>=
    λ ds. when (list_all has_bounds ds) (Some (dimensioning ds))

-- ---- PROGRAM, IMPLICIT and PARAMETER statements

unfoldable pub naming_of : Text → Option ShapeTree
unfolding ◌>>=◌
naming_of t = do
  rest ← after (codes "PROGRAM") t
  n ← name_at rest
  at_end (naming n.0, n.1)

unfoldable pub letter_at : Reader ℕ
unfolding when
letter_at [] = None
letter_at (c ∷ t) = when (is_letter c) (Some (c, t))

unfoldable pub letters_at : Reader LettersTree
unfolding ◌>>=◌ either
letters_at t =
    letter_at t >>=
    λ a. either (after (45 ∷ []) a.1)
    (Some (record { first_letter = a.0; last_letter = None }, a.1)) (λ rest. letter_at rest >>=
    λ b. Some (record { first_letter = a.0; last_letter = Some b.0 }, b.1))

unfoldable pub type_at : Reader DataType
unfolding either
type_at t =
    either (after (codes "INTEGER") t) (either (after (codes "LOGICAL") t) None (λ rest. Some (types.Logical, rest))) (λ rest. Some (types.Integer, rest))

unfoldable pub implicit_at : Reader ImplicitTree
unfolding ◌>>=◌
implicit_at t = do
  k ← type_at t
  rest ← after (40 ∷ []) k.1
  ls ← separated_at letters_at (suc (length rest)) rest
  behind ← after (41 ∷ []) ls.1
  Some (record { data_type = k.0; letters = ls.0 }, behind)

unfoldable pub implying_of : Text → Option ShapeTree
unfolding ◌>>=◌
implying_of t = do
  rest ← after (codes "IMPLICIT") t
  ps ← separated_at implicit_at (suc (length rest)) rest
  at_end (implying ps.0, ps.1)

unfoldable pub constant_at : Reader ConstantTree
unfolding ◌>>=◌
constant_at t = do
  n ← name_at t
  rest ← after (61 ∷ []) n.1
  e ← whole_expression_at rest
  Some (record { name = n.0; value = e.0 }, e.1)

unfoldable pub parameter_of : Text → Option ShapeTree
unfolding ◌>>=◌
parameter_of t = do
  rest ← after (codes "PARAMETER(") t
  cs ← separated_at constant_at (suc (length rest)) rest
  behind ← after (41 ∷ []) cs.1
  at_end (parameter cs.0, behind)

-- ---- DATA statements

-- an integer constant with a sign, if it has one
unfoldable pub number_behind_sign : Option Sign → Reader DataConstantTree
unfolding when
number_behind_sign sign t =
    when (is_number (run is_digit t).0)
    (Some (data_number sign (run is_digit t).0, (run is_digit t).1))

-- a constant without a sign
unfoldable pub unsigned_at : Reader DataConstantTree
unfolding ◌>>=◌
unsigned_at [] = None
unsigned_at (c ∷ t) =
    if is_digit c then number_behind_sign None (c ∷ t)
    else (if c == 46 then truth_at (c ∷ t) >>= (λ b. Some (data_truth b.0, b.1))
    else name_at (c ∷ t) >>= (λ n. Some (data_name n.0, n.1)))

unfoldable pub data_constant_at : Reader DataConstantTree
unfolding either
data_constant_at t = either (sign_at t) (unsigned_at t) (λ s. number_behind_sign (Some s.0) s.1)

-- letters and digits with an asterisk behind them
unfoldable pub begins_repeat : Text → Bool
begins_repeat t = begins (run is_alphanumeric t).1 (codes "*")

unfoldable pub repeat_of : List ℕ → Option RepeatTree
unfolding when
repeat_of word =
    if is_number word then Some (repeat_number word)
    else when (is_name word) (Some (repeat_name word))

unfoldable pub repeated_value_at : Reader DataValueTree
unfolding ◌>>=◌
repeated_value_at t = do
  r ← repeat_of (run is_alphanumeric t).0
  rest ← after (codes "*") (run is_alphanumeric t).1
  c ← data_constant_at rest
  Some (record { repeat_count = Some r; constant = c.0 }, c.1)

unfoldable pub data_value_at : Reader DataValueTree
unfolding ◌>>=◌
data_value_at t =
    if begins_repeat t then repeated_value_at t
    else (data_constant_at t >>= λ c. Some (record { repeat_count = None; constant = c.0 }, c.1))

-- the list before the constants: its items are primaries
unfoldable pub data_list_at : Reader ListItemsTree
unfolding ◌>>=◌ when
data_list_at t = items_at 8 (suc (length t)) t >>= λ xs. when (are_data_items true xs.0) (Some xs)

unfoldable pub data_set_at : Reader DataSetTree
unfolding ◌>>=◌
data_set_at t = do
  xs ← data_list_at (comma_at t).1
  rest ← after (codes "/") xs.1
  vs ← separated_at data_value_at (suc (length rest)) rest
  behind ← after (codes "/") vs.1
  Some (record { comma = (comma_at t).0; list = xs.0; values = vs.0 }, behind)

-- the rest of a text: lists with their constants, so many at most
unfoldable pub data_sets_of : ℕ → Text → Option (List DataSetTree)
unfolding ◌>>=◌
data_sets_of zero t = None
data_sets_of (suc n) [] = Some []
data_sets_of (suc n) (c ∷ t) = data_set_at (c ∷ t) >>= λ s. data_sets_of n s.1 >>=
    λ ss. Some (s.0 ∷ ss)

unfoldable pub initializing_of : Text → Option ShapeTree
unfolding ◌>>=◌ when
initializing_of t = do
  rest ← after (codes "DATA") t
  ss ← data_sets_of (suc (length rest)) rest
  when (begins_without_comma ss) (Some (initializing ss))

-- ---- GO TO, IF and STOP statements

unfoldable pub going_of : Text → Option ShapeTree
unfolding ◌>>=◌
going_of t = do
  rest ← after (codes "GOTO") t
  l ← label_at rest
  at_end (going l.0, l.1)

unfoldable pub computed_going_of : Text → Option ShapeTree
unfolding ◌>>=◌
computed_going_of t = do
  rest ← after (codes "GOTO(") t
  ls ← separated_at label_at (suc (length rest)) rest
  behind ← after (41 ∷ []) ls.1
  e ← value_of (comma_at behind).1
  Some (computed_going ls.0 (comma_at behind).0 e)

-- an expression behind a keyword and an opening parenthesis, and what stands behind the closing one
unfoldable pub condition_at : List ℕ → Reader ExprTree
unfolding ◌>>=◌
condition_at word t = do
  rest ← after word t
  e ← whole_expression_at rest
  behind ← after (41 ∷ []) e.1
  Some (e.0, behind)

unfoldable pub arithmetic_if_of : Text → Option ShapeTree
unfolding ◌>>=◌
arithmetic_if_of t = do
  e ← condition_at (codes "IF(") t
  n ← label_at e.1
  rest ← after (44 ∷ []) n.1
  z ← label_at rest
  behind ← after (44 ∷ []) z.1
  p ← label_at behind
  at_end (arithmetic_if e.0 n.0 z.0 p.0, p.1)

unfoldable pub block_if_of : Text → Option ShapeTree
unfolding ◌>>=◌
block_if_of t = do
  e ← condition_at (codes "IF(") t
  rest ← after (codes "THEN") e.1
  at_end (block_if e.0, rest)

unfoldable pub else_if_of : Text → Option ShapeTree
unfolding ◌>>=◌
else_if_of t = do
  e ← condition_at (codes "ELSEIF(") t
  rest ← after (codes "THEN") e.1
  at_end (else_if e.0, rest)

unfoldable pub stop_of : Text → Option StopTree
unfolding ◌>>=◌ when
stop_of [] = Some stop_silent
stop_of (c ∷ t) =
    if c == apostrophe then (quoted_at (suc (length t)) [] t >>= λ x. at_end (stop_text x.0, x.1))
    else when (is_stop_number (c ∷ t)) (Some (stop_digits (c ∷ t)))

unfoldable pub stopping_of : Text → Option ShapeTree
unfolding ◌>>=◌
stopping_of t = do
  rest ← after (codes "STOP") t
  s ← stop_of rest
  Some (stopping s)

-- ---- statements by their kinds

-- what may stand under a logical IF
unfoldable pub simple_by : Kind → Text → Option ShapeTree
simple_by kinds.Assignment t = assignment_of t
simple_by kinds.Write t = writing_of t
simple_by kinds.Print t = printing_of t
simple_by kinds.Continue t = alone_of (codes "CONTINUE") continuing t
simple_by kinds.GoTo t = going_of t
simple_by kinds.ComputedGoTo t = computed_going_of t
simple_by kinds.ArithmeticIf t = arithmetic_if_of t
simple_by kinds.Stop t = stopping_of t
simple_by kind t = None

unfoldable pub logical_if_of : Text → Option ShapeTree
unfolding ◌>>=◌
logical_if_of t = do
  e ← condition_at (codes "IF(") t
  s ← simple_by (kind_of e.1) e.1
  Some (logical_if e.0 s)

unfoldable pub shape_by : Kind → Text → Option ShapeTree
shape_by kinds.Format t = format_of t
shape_by kinds.Do t = doing_of t
shape_by kinds.Integer t = typing_of t
shape_by kinds.End t = alone_of (codes "END") ending t
shape_by kinds.Program t = naming_of t
shape_by kinds.Implicit t = implying_of t
shape_by kinds.Logical t = logical_typing_of t
shape_by kinds.Dimension t = dimensioning_of t
shape_by kinds.Parameter t = parameter_of t
shape_by kinds.Data t = initializing_of t
shape_by kinds.LogicalIf t = logical_if_of t
shape_by kinds.IfThen t = block_if_of t
shape_by kinds.ElseIf t = else_if_of t
shape_by kinds.Else t = alone_of (codes "ELSE") otherwise t
shape_by kinds.EndIf t = alone_of (codes "ENDIF") end_if t
shape_by kinds.DoWhile t = doing_while_of t
shape_by kinds.EndDo t = alone_of (codes "ENDDO") end_do t
shape_by kinds.ImplicitNone t = alone_of (codes "IMPLICITNONE") implicit_none t
shape_by kind t = simple_by kind t

-- the form that a bare text reads as
unfoldable pub shape_of : Text → Option ShapeTree
shape_of t = shape_by (kind_of t) t

-- ---- texts that have no reading

-- the most parentheses that are open at once outside apostrophes; one that closes nothing changes
-- nothing
unfoldable pub most_open : ℕ → Bool → Text → ℕ
most_open depth inside [] = depth
most_open depth true (c ∷ cs) = most_open depth (not (c == apostrophe)) cs
most_open depth false (c ∷ cs) =
    if c == apostrophe then most_open depth true cs
    else (if c == 40 then max depth (most_open (depth + 1) false cs)
    else (if c == 41 then max depth (most_open (depth - 1) false cs)
    else most_open depth false cs))

-- the beginnings of the FORTRAN 77 statements that are left out
abbrev pub left_out : List (List ℕ)
left_out =
    codes "READ" ∷ (codes "OPEN" ∷ (codes "CLOSE" ∷ (codes "INQUIRE" ∷ (codes "BACKSPACE" ∷ (codes "REWIND" ∷ (codes "ENDFILE" ∷ (codes "REAL" ∷ (codes "DOUBLEPRECISION" ∷ (codes "COMPLEX" ∷ (codes "CHARACTER" ∷ (codes "SUBROUTINE" ∷ (codes "FUNCTION" ∷ (codes "CALL" ∷ (codes "RETURN" ∷ (codes "COMMON" ∷ (codes "EQUIVALENCE" ∷ (codes "SAVE" ∷ (codes "EXTERNAL" ∷ (codes "INTRINSIC" ∷ (codes "BLOCKDATA" ∷ (codes "ENTRY" ∷ (codes "ASSIGN" ∷ (codes "PAUSE" ∷ (codes "IMPLICITREAL" ∷ (codes "IMPLICITDOUBLEPRECISION" ∷ (codes "IMPLICITCOMPLEX" ∷ (codes "IMPLICITCHARACTER" ∷ (codes "PRINT*" ∷ (codes "WRITE(*,*)" ∷ (codes "WRITE(6,*)" ∷ []))))))))))))))))))))))))))))))

unfoldable pub is_left_out : Text → Bool
is_left_out t = list_any (λ word. starts_with nat_eq t word) left_out

-- the form, or why there is none
unfoldable pub read_shape : Text → Result ShapeTree Rule
unfolding either
read_shape t =
    if nat_lt 64 (most_open 0 false t) then Err G3
    else either (shape_of t) (Err (if is_left_out t then G2 else G1)) (λ f. Ok f)

-- The bare text of a form, and which forms are well formed (ANSI X3.9-1978, chapters 4 to 16 and
-- appendix F). A text reads as a form exactly when the form is well formed and this is its
-- spelling.
use Rattle.std.specs.Prelude.{ℕ, Bool, true, false, ◌&&◌, not, List, [], ◌∷◌, ◌++◌, nat_le, nat_lt}
use Rattle.std.specs.Prelude.{length, ◌==◌, codes, if◌then◌else◌, IsTrue, ◌≡◌, ◌+◌, ◌-◌, Option}
use Rattle.std.specs.Prelude.{Some, None}
use Rattle.std.specs.List.{AllByRecursion}
use Rattle.meaning.specs.declared.syntax.Sign.{Sign}
use Rattle.meaning.specs.declared.syntax.Sign.TheVariants as signs
use Rattle.meaning.specs.declared.syntax.Operator.{Operator}
use Rattle.meaning.specs.declared.syntax.Operator.TheVariants as operators
use Rattle.meaning.specs.declared.syntax.ControlOrder.{ControlOrder}
use Rattle.meaning.specs.declared.syntax.ControlOrder.TheVariants as orders
use Rattle.meaning.specs.declared.syntax.DataType.{DataType}
use Rattle.meaning.specs.declared.syntax.DataType.TheVariants as types
use Rattle.meaning.specs.Syntax.{ExprTree, number, truth, name, signed, negated, binary, paren}
use Rattle.meaning.specs.Syntax.{element, call, ExprsTree, no_exprs, exprs, BoundsTree}
use Rattle.meaning.specs.Syntax.{DeclaratorTree, UnitTree, star, unit_number, LimitsTree}
use Rattle.meaning.specs.Syntax.{ListItemTree, value_item, loop_item, ListItemsTree, no_items}
use Rattle.meaning.specs.Syntax.{more_items, FormatTree, format_label, format_constant, ControlTree}
use Rattle.meaning.specs.Syntax.{LettersTree, ImplicitTree, ConstantTree, DataConstantTree}
use Rattle.meaning.specs.Syntax.{data_number, data_truth, data_name, RepeatTree, repeat_number}
use Rattle.meaning.specs.Syntax.{repeat_name, DataValueTree, DataSetTree, StopTree, stop_silent}
use Rattle.meaning.specs.Syntax.{stop_digits, stop_text, ShapeTree, assignment, writing, printing}
use Rattle.meaning.specs.Syntax.{format, doing, continuing, typing, ending, naming, implying}
use Rattle.meaning.specs.Syntax.{logical_typing, dimensioning, parameter, initializing, definition}
use Rattle.meaning.specs.Syntax.{going, computed_going, arithmetic_if, logical_if, block_if}
use Rattle.meaning.specs.Syntax.{else_if, otherwise, end_if, stopping, doing_while, end_do}
use Rattle.meaning.specs.Syntax.{implicit_none}
use Rattle.meaning.specs.Characters.{is_letter, is_number, is_name, is_label, apostrophe}

-- ---- expressions (6.1)

abbrev pub sign_byte : Sign → ℕ
sign_byte signs.Plus = 43
sign_byte signs.Minus = 45

abbrev pub operator_text : Operator → List ℕ
operator_text operators.Power = codes "**"
operator_text operators.Multiply = codes "*"
operator_text operators.Divide = codes "/"
operator_text operators.Add = codes "+"
operator_text operators.Subtract = codes "-"
operator_text operators.Less = codes ".LT."
operator_text operators.LessOrEqual = codes ".LE."
operator_text operators.Equal = codes ".EQ."
operator_text operators.NotEqual = codes ".NE."
operator_text operators.GreaterOrEqual = codes ".GE."
operator_text operators.Greater = codes ".GT."
operator_text operators.And = codes ".AND."
operator_text operators.Or = codes ".OR."
operator_text operators.Equivalent = codes ".EQV."
operator_text operators.NotEquivalent = codes ".NEQV."

-- a logical constant (4.7)
abbrev pub truth_text : Bool → List ℕ
truth_text true = codes ".TRUE."
truth_text false = codes ".FALSE."

abbrev mutual
  pub spell_expr : ExprTree → List ℕ
  spell_expr (number digits) = digits
  spell_expr (truth value) = truth_text value
  spell_expr (name letters) = letters
  spell_expr (signed sign e) = sign_byte sign ∷ spell_expr e
  spell_expr (negated e) = codes ".NOT." ++ spell_expr e
  spell_expr (binary operator a b) = spell_expr a ++ (operator_text operator ++ spell_expr b)
  spell_expr (paren e) = 40 ∷ (spell_expr e ++ 41 ∷ [])
  spell_expr (element letters es) = letters ++ (40 ∷ (spell_exprs es ++ 41 ∷ []))
  spell_expr (call letters) = letters ++ codes "()"

  -- expressions with commas between
  pub spell_exprs : ExprsTree → List ℕ
  spell_exprs no_exprs = []
  spell_exprs (exprs e es) = spell_expr e ++ spell_behind es

  -- others behind one
  pub spell_behind : ExprsTree → List ℕ
  spell_behind no_exprs = []
  spell_behind (exprs e es) = 44 ∷ (spell_expr e ++ spell_behind es)

-- how strongly an operator binds: .EQV. and .NEQV. stand at level 0, .OR. at 1, .AND. at 2, .NOT.
-- at 3, relations at 4, + and - at 5, * and / at 6, ** at 7 (6.1.3, 6.4.2 and 6.5)
abbrev pub level : Operator → ℕ
level operators.Power = 7
level operators.Multiply = 6
level operators.Divide = 6
level operators.Add = 5
level operators.Subtract = 5
level operators.Less = 4
level operators.LessOrEqual = 4
level operators.Equal = 4
level operators.NotEqual = 4
level operators.GreaterOrEqual = 4
level operators.Greater = 4
level operators.And = 2
level operators.Or = 1
level operators.Equivalent = 0
level operators.NotEquivalent = 0

-- the least levels of an operator's operands, by its level: relations don't chain, ** groups from
-- the right and the others from the left (6.1.3, 6.3.1 and 6.5)
abbrev pub left_least : ℕ → ℕ
left_least k = if k == 4 then 5 else (if k == 7 then 8 else k)

abbrev pub right_least : ℕ → ℕ
right_least k = if k == 7 then 7 else k + 1

-- the level at which an expression stands: a primary binds strongest
abbrev pub level_of : ExprTree → ℕ
level_of (number digits) = 8
level_of (truth value) = 8
level_of (name letters) = 8
level_of (signed sign e) = 5
level_of (negated e) = 3
level_of (binary operator a b) = level operator
level_of (paren e) = 8
level_of (element letters es) = 8
level_of (call letters) = 8

-- one expression at least
abbrev pub is_more : ExprsTree → Bool
is_more no_exprs = false
is_more (exprs e es) = true

-- operands bind strongly enough, a sign takes one term and .NOT. a relation or what binds more
-- strongly, and there is one subscript at least
abbrev mutual
  pub IsWellExpr : ExprTree → Type 0
  IsWellExpr (number digits) = IsTrue (is_number digits)
  IsWellExpr (truth value) = Unit {0}
  IsWellExpr (name letters) = IsTrue (is_name letters)
  IsWellExpr (signed sign e) = IsWellExpr e × IsTrue (nat_le 6 (level_of e))
  IsWellExpr (negated e) = IsWellExpr e × IsTrue (nat_le 4 (level_of e))
  IsWellExpr (binary operator a b) =
      IsWellExpr a
      × (IsWellExpr b
      × (IsTrue (nat_le (left_least (level operator)) (level_of a))
      × IsTrue (nat_le (right_least (level operator)) (level_of b))))
  IsWellExpr (paren e) = IsWellExpr e
  IsWellExpr (element letters es) =
      IsTrue (is_name letters) × (IsTrue (is_more es) × AreWellSubscripts es)
  IsWellExpr (call letters) = IsTrue (is_name letters)

  pub AreWellSubscripts : ExprsTree → Type 0
  AreWellSubscripts no_exprs = Unit {0}
  AreWellSubscripts (exprs e es) = IsWellExpr e × AreWellSubscripts es

-- ---- the text of a FORMAT statement (13.1)

-- the apostrophes pair up, and outside them no front has more `)` than `(`, and the whole as many
unfoldable pub balanced : ℕ → Bool → List ℕ → Bool
balanced depth true [] = false
balanced depth false [] = depth == 0
balanced depth true (c ∷ cs) = balanced depth (not (c == apostrophe)) cs
balanced depth false (c ∷ cs) =
    if c == apostrophe then balanced depth true cs
    else (if c == 40 then balanced (depth + 1) false cs
    else (if c == 41 then nat_lt 0 depth && balanced (depth - 1) false cs
    else balanced depth false cs))

-- ---- statements

abbrev pub spell_unit : UnitTree → List ℕ
spell_unit star = 42 ∷ []
spell_unit (unit_number e) = spell_expr e

abbrev pub IsWellUnit : UnitTree → Type 0
IsWellUnit star = Unit {0}
IsWellUnit (unit_number e) = IsWellExpr e

-- the step of limits, and what may stand behind a label
abbrev pub spell_step : Option ExprTree → List ℕ
spell_step None = []
spell_step (Some e) = 44 ∷ spell_expr e

abbrev pub IsWellStep : Option ExprTree → Type 0
IsWellStep None = Unit {0}
IsWellStep (Some e) = IsWellExpr e

abbrev pub spell_limits : LimitsTree → List ℕ
spell_limits l = spell_expr l.first ++ (44 ∷ (spell_expr l.last ++ spell_step l.step))

abbrev pub IsWellLimits : LimitsTree → Type 0
IsWellLimits l = IsWellExpr l.first × (IsWellExpr l.last × IsWellStep l.step)

abbrev pub spell_comma : Bool → List ℕ
spell_comma true = 44 ∷ []
spell_comma false = []

-- subscripts in parentheses, where there are any
abbrev pub spell_subscripts : ExprsTree → List ℕ
spell_subscripts no_exprs = []
spell_subscripts (exprs e es) = 40 ∷ (spell_exprs (exprs e es) ++ 41 ∷ [])

-- a dimension, and dimensions with commas between
abbrev pub spell_lower : Option ExprTree → List ℕ
spell_lower None = []
spell_lower (Some e) = spell_expr e ++ 58 ∷ []

abbrev pub spell_bounds : BoundsTree → List ℕ
spell_bounds b = spell_lower b.lower ++ spell_expr b.upper

abbrev pub spell_more_bounds : List BoundsTree → List ℕ
spell_more_bounds [] = []
spell_more_bounds (b ∷ bs) = 44 ∷ (spell_bounds b ++ spell_more_bounds bs)

abbrev pub spell_dimensions : List BoundsTree → List ℕ
spell_dimensions [] = []
spell_dimensions (b ∷ bs) = 40 ∷ (spell_bounds b ++ (spell_more_bounds bs ++ 41 ∷ []))

abbrev pub spell_declarator : DeclaratorTree → List ℕ
spell_declarator d = d.name ++ spell_dimensions d.bounds

abbrev pub spell_more_declarators : List DeclaratorTree → List ℕ
spell_more_declarators [] = []
spell_more_declarators (d ∷ ds) = 44 ∷ (spell_declarator d ++ spell_more_declarators ds)

abbrev pub spell_declarators : List DeclaratorTree → List ℕ
spell_declarators [] = []
spell_declarators (d ∷ ds) = spell_declarator d ++ spell_more_declarators ds

abbrev pub IsWellBounds : BoundsTree → Type 0
IsWellBounds b = IsWellStep b.lower × IsWellExpr b.upper

abbrev pub IsWellDeclarator : DeclaratorTree → Type 0
IsWellDeclarator d = IsTrue (is_name d.name) × AllByRecursion IsWellBounds d.bounds

-- others with commas before them, and some with commas between
abbrev pub joined_more : {A : Type 0} → (A → List ℕ) → List A → List ℕ
joined_more spelling [] = []
joined_more spelling (x ∷ xs) = 44 ∷ (spelling x ++ joined_more spelling xs)

abbrev pub joined : {A : Type 0} → (A → List ℕ) → List A → List ℕ
joined spelling [] = []
joined spelling (x ∷ xs) = spelling x ++ joined_more spelling xs

-- one at least, each well formed
abbrev pub AreWell : {A : Type 0} → (A → Type 0) → List A → Type 0
AreWell IsWellOne xs = IsTrue (nat_lt 0 (length xs)) × AllByRecursion IsWellOne xs

-- letters and data types in an IMPLICIT statement
abbrev pub spell_last : Option ℕ → List ℕ
spell_last None = []
spell_last (Some c) = 45 ∷ (c ∷ [])

abbrev pub spell_letters : LettersTree → List ℕ
spell_letters l = l.first_letter ∷ spell_last l.last_letter

abbrev pub IsWellLast : Option ℕ → Type 0
IsWellLast None = Unit {0}
IsWellLast (Some c) = IsTrue (is_letter c)

abbrev pub IsWellLetters : LettersTree → Type 0
IsWellLetters l = IsTrue (is_letter l.first_letter) × IsWellLast l.last_letter

abbrev pub type_text : DataType → List ℕ
type_text types.Integer = codes "INTEGER"
type_text types.Logical = codes "LOGICAL"

abbrev pub spell_implicit : ImplicitTree → List ℕ
spell_implicit p = type_text p.data_type ++ (40 ∷ (joined spell_letters p.letters ++ 41 ∷ []))

abbrev pub IsWellImplicit : ImplicitTree → Type 0
IsWellImplicit p = AreWell IsWellLetters p.letters

-- a constant in a PARAMETER statement
abbrev pub spell_constant : ConstantTree → List ℕ
spell_constant c = c.name ++ (61 ∷ spell_expr c.value)

abbrev pub IsWellConstant : ConstantTree → Type 0
IsWellConstant c = IsTrue (is_name c.name) × IsWellExpr c.value

-- an array with its bounds
abbrev pub IsWellArray : DeclaratorTree → Type 0
IsWellArray d = IsTrue (nat_lt 0 (length d.bounds)) × IsWellDeclarator d

-- labels
abbrev pub spell_label : List ℕ → List ℕ
spell_label label = label

abbrev pub IsWellLabel : List ℕ → Type 0
IsWellLabel label = IsTrue (is_label label)

-- the label of a DO or DO WHILE statement, and a comma behind it or none; where there is no label
-- there is no comma (11.10, own)
abbrev pub spell_range_label : Option (List ℕ) → Bool → List ℕ
spell_range_label None comma = []
spell_range_label (Some label) comma = label ++ spell_comma comma

abbrev pub IsWellRangeLabel : Option (List ℕ) → Bool → Type 0
IsWellRangeLabel None comma = IsTrue (not comma)
IsWellRangeLabel (Some label) comma = IsTrue (is_label label)

-- the text of a character constant: each apostrophe in it is written twice (4.8)
abbrev pub is_paired : List ℕ → Bool
is_paired [] = true
is_paired (c ∷ []) = not (c == apostrophe)
is_paired (c ∷ d ∷ cs) =
    if c == apostrophe then (d == apostrophe && is_paired cs) else is_paired (d ∷ cs)

-- a character constant
abbrev pub spell_quoted : List ℕ → List ℕ
spell_quoted text = apostrophe ∷ (text ++ apostrophe ∷ [])

-- what stands behind STOP
abbrev pub spell_stop : StopTree → List ℕ
spell_stop stop_silent = []
spell_stop (stop_digits digits) = digits
spell_stop (stop_text text) = spell_quoted text

-- one to five digits
abbrev pub is_stop_number : List ℕ → Bool
is_stop_number digits = is_number digits && nat_le (length digits) 5

abbrev pub IsWellStop : StopTree → Type 0
IsWellStop stop_silent = Unit {0}
IsWellStop (stop_digits digits) = IsTrue (is_stop_number digits)
IsWellStop (stop_text text) = IsTrue (is_paired text)

-- items of a list, and others behind one
abbrev mutual
  pub spell_item : ListItemTree → List ℕ
  spell_item (value_item e) = spell_expr e
  spell_item (loop_item xs variable limits) =
      40 ∷ ((spell_items xs ++ (44 ∷ (variable ++ (61 ∷ spell_limits limits)))) ++ 41 ∷ [])

  pub spell_items : ListItemsTree → List ℕ
  spell_items no_items = []
  spell_items (more_items x xs) = spell_item x ++ spell_items_behind xs

  pub spell_items_behind : ListItemsTree → List ℕ
  spell_items_behind no_items = []
  spell_items_behind (more_items x xs) = 44 ∷ (spell_item x ++ spell_items_behind xs)

abbrev pub has_item : ListItemsTree → Bool
has_item no_items = false
has_item (more_items x xs) = true

-- expressions of this level or a stronger one; an implied DO has one item at least
abbrev mutual
  pub IsWellItem : ℕ → ListItemTree → Type 0
  IsWellItem least (value_item e) = IsWellExpr e × IsTrue (nat_le least (level_of e))
  IsWellItem least (loop_item xs variable limits) =
      IsTrue (has_item xs)
      × (AreWellItems least xs × (IsTrue (is_name variable) × IsWellLimits limits))

  pub AreWellItems : ℕ → ListItemsTree → Type 0
  AreWellItems least no_items = Unit {0}
  AreWellItems least (more_items x xs) = IsWellItem least x × AreWellItems least xs

-- an item of a DATA statement: an element, or outside implied DOs a name too
abbrev pub is_data_value : Bool → ExprTree → Bool
is_data_value outside (name letters) = outside
is_data_value outside (element letters es) = true
is_data_value outside e = false

abbrev mutual
  pub is_data_item : Bool → ListItemTree → Bool
  is_data_item outside (value_item e) = is_data_value outside e
  is_data_item outside (loop_item xs variable limits) = are_data_items false xs

  pub are_data_items : Bool → ListItemsTree → Bool
  are_data_items outside no_items = true
  are_data_items outside (more_items x xs) = is_data_item outside x && are_data_items outside xs

-- a constant of a DATA statement, with its repeat count
abbrev pub spell_sign : Option Sign → List ℕ
spell_sign None = []
spell_sign (Some s) = sign_byte s ∷ []

abbrev pub spell_data_constant : DataConstantTree → List ℕ
spell_data_constant (data_number sign digits) = spell_sign sign ++ digits
spell_data_constant (data_truth value) = truth_text value
spell_data_constant (data_name letters) = letters

abbrev pub IsWellDataConstant : DataConstantTree → Type 0
IsWellDataConstant (data_number sign digits) = IsTrue (is_number digits)
IsWellDataConstant (data_truth value) = Unit {0}
IsWellDataConstant (data_name letters) = IsTrue (is_name letters)

abbrev pub spell_repeat : Option RepeatTree → List ℕ
spell_repeat None = []
spell_repeat (Some (repeat_number digits)) = digits ++ codes "*"
spell_repeat (Some (repeat_name letters)) = letters ++ codes "*"

abbrev pub IsWellRepeat : Option RepeatTree → Type 0
IsWellRepeat None = Unit {0}
IsWellRepeat (Some (repeat_number digits)) = IsTrue (is_number digits)
IsWellRepeat (Some (repeat_name letters)) = IsTrue (is_name letters)

abbrev pub spell_data_value : DataValueTree → List ℕ
spell_data_value v = spell_repeat v.repeat_count ++ spell_data_constant v.constant

abbrev pub IsWellDataValue : DataValueTree → Type 0
IsWellDataValue v = IsWellRepeat v.repeat_count × IsWellDataConstant v.constant

-- a list and its constants in a DATA statement; a comma may stand before any but the first
abbrev pub spell_data_set : DataSetTree → List ℕ
spell_data_set s =
    spell_comma s.comma
    ++ (spell_items s.list ++ (47 ∷ (joined spell_data_value s.values ++ 47 ∷ [])))

abbrev pub IsWellDataSet : DataSetTree → Type 0
IsWellDataSet s =
    IsTrue (has_item s.list)
    × (AreWellItems 8 s.list
    × (IsTrue (are_data_items true s.list) × AreWell IsWellDataValue s.values))

abbrev pub spell_data_sets : List DataSetTree → List ℕ
spell_data_sets [] = []
spell_data_sets (s ∷ ss) = spell_data_set s ++ spell_data_sets ss

abbrev pub begins_without_comma : List DataSetTree → Bool
begins_without_comma [] = false
begins_without_comma (s ∷ ss) = not s.comma

-- formats, and what the parentheses of a WRITE statement hold
abbrev pub spell_source : FormatTree → List ℕ
spell_source (format_label label) = label
spell_source (format_constant text) = spell_quoted text

abbrev pub IsWellSource : FormatTree → Type 0
IsWellSource (format_label label) = IsTrue (is_label label)
IsWellSource (format_constant text) = IsTrue (is_paired text)

abbrev pub spell_control_by : ControlOrder → UnitTree → FormatTree → List ℕ
spell_control_by orders.Plain unit source = spell_unit unit ++ (44 ∷ spell_source source)
spell_control_by orders.FormatNamed unit source =
    spell_unit unit ++ (codes ",FMT=" ++ spell_source source)
spell_control_by orders.UnitFirst unit source = codes "UNIT=" ++ (spell_unit unit ++ (codes ",FMT=" ++ spell_source source))
spell_control_by orders.FormatFirst unit source = codes "FMT=" ++ (spell_source source ++ (codes ",UNIT=" ++ spell_unit unit))

abbrev pub spell_control : ControlTree → List ℕ
spell_control c = spell_control_by c.order c.unit c.source

abbrev pub IsWellControl : ControlTree → Type 0
IsWellControl c = IsWellUnit c.unit × IsWellSource c.source

-- what may stand under a logical IF (11.5), of the statements that are read
abbrev pub is_simple : ShapeTree → Bool
is_simple (assignment target subscripts e) = true
is_simple (definition target e) = true
is_simple (going label) = true
is_simple (computed_going labels comma e) = true
is_simple (arithmetic_if e negative zero positive) = true
is_simple continuing = true
is_simple (stopping text) = true
is_simple (writing control xs) = true
is_simple (printing source xs) = true
is_simple s = false

abbrev pub spell : ShapeTree → List ℕ
spell (assignment target subscripts e) =
    target ++ (spell_subscripts subscripts ++ (61 ∷ spell_expr e))
spell (writing control xs) = codes "WRITE(" ++ (spell_control control ++ (41 ∷ spell_items xs))
spell (printing source xs) = codes "PRINT" ++ (spell_source source ++ spell_items_behind xs)
spell (format text) = codes "FORMAT(" ++ (text ++ 41 ∷ [])
spell (doing label comma variable limits) =
    codes "DO" ++ (spell_range_label label comma ++ (variable ++ (61 ∷ spell_limits limits)))
spell continuing = codes "CONTINUE"
spell (typing declarators) = codes "INTEGER" ++ spell_declarators declarators
spell ending = codes "END"
spell (naming letters) = codes "PROGRAM" ++ letters
spell (implying parts) = codes "IMPLICIT" ++ joined spell_implicit parts
spell (logical_typing declarators) = codes "LOGICAL" ++ spell_declarators declarators
spell (dimensioning declarators) = codes "DIMENSION" ++ spell_declarators declarators
spell (parameter constants) = codes "PARAMETER(" ++ (joined spell_constant constants ++ 41 ∷ [])
spell (initializing sets) = codes "DATA" ++ spell_data_sets sets
spell (definition target e) = target ++ (codes "()=" ++ spell_expr e)
spell (going label) = codes "GOTO" ++ label
spell (computed_going labels comma e) =
    codes "GOTO(" ++ (joined spell_label labels ++ (41 ∷ (spell_comma comma ++ spell_expr e)))
spell (arithmetic_if e negative zero positive) =
    codes "IF(" ++ (spell_expr e ++ (41 ∷ (negative ++ (44 ∷ (zero ++ (44 ∷ positive))))))
spell (logical_if e s) = codes "IF(" ++ (spell_expr e ++ (41 ∷ spell s))
spell (block_if e) = codes "IF(" ++ (spell_expr e ++ codes ")THEN")
spell (else_if e) = codes "ELSEIF(" ++ (spell_expr e ++ codes ")THEN")
spell otherwise = codes "ELSE"
spell end_if = codes "ENDIF"
spell (stopping text) = codes "STOP" ++ spell_stop text
spell (doing_while label comma e) = codes "DO" ++ (spell_range_label label comma ++ (codes "WHILE(" ++ (spell_expr e ++ 41 ∷ [])))
spell end_do = codes "ENDDO"
spell implicit_none = codes "IMPLICITNONE"

abbrev pub IsWell : ShapeTree → Type 0
IsWell (assignment target subscripts e) =
    IsTrue (is_name target) × (AreWellSubscripts subscripts × IsWellExpr e)
IsWell (writing control xs) = IsWellControl control × AreWellItems 0 xs
IsWell (printing source xs) = IsWellSource source × AreWellItems 0 xs
IsWell (format text) = IsTrue (balanced 0 false text)
IsWell (doing label comma variable limits) =
    IsWellRangeLabel label comma × (IsTrue (is_name variable) × IsWellLimits limits)
IsWell continuing = Unit {0}
IsWell (typing declarators) = AreWell IsWellDeclarator declarators
IsWell ending = Unit {0}
IsWell (naming letters) = IsTrue (is_name letters)
IsWell (implying parts) = AreWell IsWellImplicit parts
IsWell (logical_typing declarators) = AreWell IsWellDeclarator declarators
IsWell (dimensioning declarators) = AreWell IsWellArray declarators
IsWell (parameter constants) = AreWell IsWellConstant constants
IsWell (initializing sets) = IsTrue (begins_without_comma sets) × AllByRecursion IsWellDataSet sets
IsWell (definition target e) = IsTrue (is_name target) × IsWellExpr e
IsWell (going label) = IsTrue (is_label label)
IsWell (computed_going labels comma e) = AreWell IsWellLabel labels × IsWellExpr e
IsWell (arithmetic_if e negative zero positive) =
    IsWellExpr e
    × (IsTrue (is_label negative) × (IsTrue (is_label zero) × IsTrue (is_label positive)))
IsWell (logical_if e s) = IsWellExpr e × (IsTrue (is_simple s) × IsWell s)
IsWell (block_if e) = IsWellExpr e
IsWell (else_if e) = IsWellExpr e
IsWell otherwise = Unit {0}
IsWell end_if = Unit {0}
IsWell (stopping text) = IsWellStop text
IsWell (doing_while label comma e) = IsWellRangeLabel label comma × IsWellExpr e
IsWell end_do = Unit {0}
IsWell implicit_none = Unit {0}

-- the text reads as the form
pub record Reads (text : List ℕ) (form : ShapeTree) : Type 0 where
  pub well : IsWell form
  pub spelled : spell form ≡ text

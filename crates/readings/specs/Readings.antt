-- As what a statement is read, for whoever tells it (ANSI X3.9-1978, 3.3 and 7 to 15): its own
-- words.
use Rattle.std.specs.Prelude.{ℕ, ◌==◌, ◌++◌, Bool, true, false, List, Option, None, option_map}
use Rattle.std.specs.Prelude.{drop, Result, Ok, Err, codes, if◌then◌else◌}
use Rattle.std.specs.List.{find}
use Rattle.meaning.specs.declared.refusal.Broken.{Broken}
use Rattle.meaning.specs.declared.syntax.Kind.{Kind}
use Rattle.meaning.specs.declared.syntax.Kind.TheVariants as kinds
use Rattle.meaning.specs.BareText.{bare}
use Rattle.meaning.specs.Kinds.{behind_closing, kind_of}
use Rattle.meaning.specs.Statements.{Entry, statements_of}
use Rattle.readings.specs.declared.kinds.Reading.{Reading}
use Rattle.readings.specs.declared.kinds.Reading.TheVariants.{Alone, Under}

-- ---- the kinds by which the reading of a statement goes

abbrev pub is_logical_if : Kind → Bool
is_logical_if kinds.LogicalIf = true
is_logical_if kind = false

-- what stands behind IF and its parentheses
abbrev pub behind_if : List ℕ → List ℕ
behind_if text = behind_closing 0 false (drop 3 text)

-- that of a bare text; of a logical IF also that of the statement under it
abbrev pub reading_of : List ℕ → Reading
reading_of text =
    if is_logical_if (kind_of text) then Under (kind_of (behind_if text)) else Alone (kind_of text)

abbrev pub reading_of_entry : Entry → Reading
reading_of_entry e = reading_of (bare e.text)

abbrev pub begins_at : ℕ → Entry → Bool
begins_at line e = e.line == line

abbrev pub reading_among : ℕ → List Entry → Option Reading
reading_among line entries = option_map reading_of_entry (find (begins_at line) entries)

-- none where a rule on lines is broken
abbrev pub reading_in : ℕ → Result (List Entry) Broken → Option Reading
reading_in line (Ok entries) = reading_among line entries
reading_in line (Err b) = None

-- of the statement whose initial line has this number
abbrev pub reading_at : ℕ → List ℕ → Option Reading
reading_at line source = reading_in line (statements_of source)

-- ---- in words, with the form of such a statement

abbrev pub name_text : Kind → List ℕ
name_text kinds.Assignment = codes "an assignment"
name_text kinds.Write = codes "a WRITE statement"
name_text kinds.Format = codes "a FORMAT statement"
name_text kinds.Do = codes "a DO statement"
name_text kinds.DoWhile = codes "a DO WHILE statement"
name_text kinds.EndDo = codes "an END DO statement"
name_text kinds.Continue = codes "a CONTINUE statement"
name_text kinds.Integer = codes "an INTEGER statement"
name_text kinds.End = codes "an END statement"
name_text kinds.Program = codes "a PROGRAM statement"
name_text kinds.Implicit = codes "an IMPLICIT statement"
name_text kinds.ImplicitNone = codes "an IMPLICIT NONE statement"
name_text kinds.Logical = codes "a LOGICAL statement"
name_text kinds.Dimension = codes "a DIMENSION statement"
name_text kinds.Parameter = codes "a PARAMETER statement"
name_text kinds.Data = codes "a DATA statement"
name_text kinds.GoTo = codes "a GO TO statement"
name_text kinds.ComputedGoTo = codes "a computed GO TO statement"
name_text kinds.ArithmeticIf = codes "an arithmetic IF statement"
name_text kinds.LogicalIf = codes "a logical IF statement"
name_text kinds.IfThen = codes "a block IF statement"
name_text kinds.ElseIf = codes "an ELSE IF statement"
name_text kinds.Else = codes "an ELSE statement"
name_text kinds.EndIf = codes "an END IF statement"
name_text kinds.Stop = codes "a STOP statement"
name_text kinds.Print = codes "a PRINT statement"
name_text kinds.Other = codes "no statement"

abbrev pub form_text : Kind → List ℕ
form_text kinds.Assignment = codes ", which is a variable or an element, = and an expression"
form_text kinds.Write = codes ", which is WRITE (unit, format) and a list or nothing"
form_text kinds.Format = codes ", which is FORMAT (text) with paired parentheses"
form_text kinds.Do = codes ", which is DO [label] variable = limit, limit [, step]"
form_text kinds.DoWhile = codes ", which is DO [label] WHILE (expression)"
form_text kinds.EndDo = codes ", which is END DO and nothing more"
form_text kinds.Continue = codes ", which is CONTINUE and nothing more"
form_text kinds.Integer = codes ", which is INTEGER and names, or names (bounds)"
form_text kinds.End = codes ", which is END and nothing more"
form_text kinds.Program = codes ", which is PROGRAM and a name"
form_text kinds.Implicit = codes ", which is IMPLICIT and types (letters)"
form_text kinds.ImplicitNone = codes ", which is IMPLICIT NONE and nothing more"
form_text kinds.Logical = codes ", which is LOGICAL and names, or names (bounds)"
form_text kinds.Dimension = codes ", which is DIMENSION and names (bounds)"
form_text kinds.Parameter = codes ", which is PARAMETER (name = expression, ..)"
form_text kinds.Data = codes ", which is DATA and sets of the form list/values/"
form_text kinds.GoTo = codes ", which is GO TO and a label"
form_text kinds.ComputedGoTo = codes ", which is GO TO (labels), expression"
form_text kinds.ArithmeticIf = codes ", which is IF (expression) and three labels"
form_text kinds.LogicalIf = codes ", which is IF (expression) and a statement"
form_text kinds.IfThen = codes ", which is IF (expression) THEN"
form_text kinds.ElseIf = codes ", which is ELSE IF (expression) THEN"
form_text kinds.Else = codes ", which is ELSE and nothing more"
form_text kinds.EndIf = codes ", which is END IF and nothing more"
form_text kinds.Stop = codes ", which is STOP [1 to 5 digits or a constant]"
form_text kinds.Print = codes ", which is PRINT format [, list]"
form_text kinds.Other = codes ": no = stands outside parentheses, and none begins so"

-- whether a statement of this kind may stand under a logical IF (11.5), or is none
abbrev pub may_stand : Kind → Bool
may_stand kinds.Assignment = true
may_stand kinds.Write = true
may_stand kinds.Print = true
may_stand kinds.Continue = true
may_stand kinds.GoTo = true
may_stand kinds.ComputedGoTo = true
may_stand kinds.ArithmeticIf = true
may_stand kinds.Stop = true
may_stand kinds.Other = true
may_stand kind = false

abbrev pub text_under : Kind → List ℕ
text_under kind = if may_stand kind then form_text kind else codes ", which may not stand there"

abbrev pub reading_text : Reading → List ℕ
reading_text (Alone kind) = codes "read as " ++ name_text kind ++ form_text kind
reading_text (Under kind) =
    codes "read as IF (expression) and " ++ name_text kind ++ text_under kind

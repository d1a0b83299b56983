-- Which statement a bare text can be: by the equals signs and commas outside parentheses and
-- apostrophes, and else by its keyword (ANSI X3.9-1978, 3.1.6; keywords aren't reserved).
use Rattle.std.specs.Prelude.{ℕ, ◌+◌, ◌-◌, Bool, true, false, not, ◌||◌, ◌&&◌, List, [], ◌∷◌, ◌==◌}
use Rattle.std.specs.Prelude.{if◌then◌else◌, codes, drop}
use Rattle.std.specs.List.{starts_with, list_any}
use Rattle.meaning.specs.declared.syntax.Kind.{Kind}
use Rattle.meaning.specs.declared.syntax.Kind.TheVariants as kinds
use Rattle.meaning.specs.Characters.{is_digit, apostrophe}
use Rattle.meaning.specs.Syntax.{ShapeTree, assignment, writing, printing, format, doing}
use Rattle.meaning.specs.Syntax.{continuing, typing, ending, naming, implying, logical_typing}
use Rattle.meaning.specs.Syntax.{dimensioning, parameter, initializing, definition, going}
use Rattle.meaning.specs.Syntax.{computed_going, arithmetic_if, logical_if, block_if, else_if}
use Rattle.meaning.specs.Syntax.{otherwise, end_if, stopping, doing_while, end_do, implicit_none}
use Rattle.std.specs.Prelude.{nat_eq}

-- the equals signs and commas of a text that stand outside parentheses and apostrophes, up to a
-- parenthesis that closes what the text doesn't open
unfoldable pub marks_at : ℕ → Bool → List ℕ → List ℕ
marks_at depth inside [] = []
marks_at depth true (c ∷ cs) = marks_at depth (not (c == apostrophe)) cs
marks_at depth false (c ∷ cs) =
    if c == apostrophe then marks_at depth true cs
    else (if c == 40 then marks_at (depth + 1) false cs
    else (if c == 41 then (if depth == 0 then [] else marks_at (depth - 1) false cs)
    else (if (depth == 0) && ((c == 61) || (c == 44)) then c ∷ marks_at depth false cs
    else marks_at depth false cs)))

abbrev pub has_equals : List ℕ → Bool
has_equals text = list_any (λ c. c == 61) (marks_at 0 false text)

-- marks with a comma behind the first equals sign, as a DO statement has
unfoldable pub has_limits : List ℕ → Bool
has_limits [] = false
has_limits (c ∷ cs) = if c == 61 then list_any (λ d. d == 44) cs else has_limits cs

-- what stands behind the parenthesis that closes what the text doesn't open
unfoldable pub behind_closing : ℕ → Bool → List ℕ → List ℕ
behind_closing depth inside [] = []
behind_closing depth true (c ∷ cs) = behind_closing depth (not (c == apostrophe)) cs
behind_closing depth false (c ∷ cs) =
    if c == apostrophe then behind_closing depth true cs
    else (if c == 40 then behind_closing (depth + 1) false cs
    else (if c == 41 then (if depth == 0 then cs else behind_closing (depth - 1) false cs)
    else behind_closing depth false cs))

abbrev pub begins : List ℕ → List ℕ → Bool
begins text word = starts_with nat_eq text word

abbrev pub begins_with_digit : List ℕ → Bool
begins_with_digit [] = false
begins_with_digit (c ∷ cs) = is_digit c

-- what stands behind digits, and behind a comma
unfoldable pub behind_digits : List ℕ → List ℕ
behind_digits [] = []
behind_digits (c ∷ cs) = if is_digit c then behind_digits cs else c ∷ cs

abbrev pub behind_comma : List ℕ → List ℕ
behind_comma [] = []
behind_comma (c ∷ cs) = if c == 44 then cs else c ∷ cs

-- DO, digits or none, a comma or none, WHILE and a parenthesis
abbrev pub begins_while : List ℕ → Bool
begins_while text = begins text (codes "DO") && begins (behind_comma (behind_digits (drop 2 text))) (codes "WHILE(")

-- what a first keyword says
unfoldable pub kind_by_control_keyword : List ℕ → Kind
kind_by_control_keyword text =
    if begins text (codes "ENDIF") then kinds.EndIf
    else (if begins text (codes "ENDDO") then kinds.EndDo
    else (if begins text (codes "END") then kinds.End
    else (if begins text (codes "CONTINUE") then kinds.Continue
    else (if begins text (codes "GOTO(") then kinds.ComputedGoTo
    else (if begins text (codes "GOTO") then kinds.GoTo
    else (if begins text (codes "ELSEIF(") then kinds.ElseIf
    else (if begins text (codes "ELSE") then kinds.Else
    else (if begins text (codes "STOP") then kinds.Stop
    else (if begins_while text then kinds.DoWhile
    else kinds.Other)))))))))

unfoldable pub kind_by_keyword : List ℕ → Kind
kind_by_keyword text =
    if begins text (codes "WRITE(") then kinds.Write
    else (if begins text (codes "PRINT") then kinds.Print
    else (if begins text (codes "FORMAT(") then kinds.Format
    else (if begins text (codes "INTEGER") then kinds.Integer
    else (if begins text (codes "LOGICAL") then kinds.Logical
    else (if begins text (codes "DIMENSION") then kinds.Dimension
    else (if begins text (codes "PARAMETER(") then kinds.Parameter
    else (if begins text (codes "PROGRAM") then kinds.Program
    else (if begins text (codes "IMPLICITNONE") then kinds.ImplicitNone
    else (if begins text (codes "IMPLICIT") then kinds.Implicit
    else (if begins text (codes "DATA") then kinds.Data
    else kind_by_control_keyword text))))))))))

-- with an equals sign a DO statement or an assignment, else what the first keyword says
unfoldable pub kind_outside_if : List ℕ → Kind
kind_outside_if text =
    if has_equals text
    then (if has_limits (marks_at 0 false text) then kinds.Do else kinds.Assignment)
    else kind_by_keyword text

-- what stands behind IF and its parentheses says which IF it is; an equals sign there makes the
-- text an assignment to an array IF
unfoldable pub kind_behind_if : List ℕ → List ℕ → Kind
kind_behind_if text rest =
    if begins rest (codes "=") then kind_outside_if text
    else (if begins_with_digit rest then kinds.ArithmeticIf
    else (if begins rest (codes "THEN") && not (has_equals rest) then kinds.IfThen
    else kinds.LogicalIf))

unfoldable pub kind_of : List ℕ → Kind
kind_of text =
    if begins text (codes "IF(") then kind_behind_if text (behind_closing 0 false (drop 3 text))
    else kind_outside_if text

abbrev pub kind_of_shape : ShapeTree → Kind
kind_of_shape (assignment target subscripts e) = kinds.Assignment
kind_of_shape (writing control xs) = kinds.Write
kind_of_shape (printing source xs) = kinds.Print
kind_of_shape (format text) = kinds.Format
kind_of_shape (doing label comma variable limits) = kinds.Do
kind_of_shape continuing = kinds.Continue
kind_of_shape (typing declarators) = kinds.Integer
kind_of_shape ending = kinds.End
kind_of_shape (naming letters) = kinds.Program
kind_of_shape (implying parts) = kinds.Implicit
kind_of_shape (logical_typing declarators) = kinds.Logical
kind_of_shape (dimensioning declarators) = kinds.Dimension
kind_of_shape (parameter constants) = kinds.Parameter
kind_of_shape (initializing sets) = kinds.Data
kind_of_shape (definition target e) = kinds.Assignment
kind_of_shape (going label) = kinds.GoTo
kind_of_shape (computed_going labels comma e) = kinds.ComputedGoTo
kind_of_shape (arithmetic_if e negative zero positive) = kinds.ArithmeticIf
kind_of_shape (logical_if e s) = kinds.LogicalIf
kind_of_shape (block_if e) = kinds.IfThen
kind_of_shape (else_if e) = kinds.ElseIf
kind_of_shape otherwise = kinds.Else
kind_of_shape end_if = kinds.EndIf
kind_of_shape (stopping text) = kinds.Stop
kind_of_shape (doing_while label comma e) = kinds.DoWhile
kind_of_shape end_do = kinds.EndDo
kind_of_shape implicit_none = kinds.ImplicitNone

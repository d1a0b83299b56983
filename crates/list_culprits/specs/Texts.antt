-- What is told of a broken rule on lists, as text.
use Rattle.std.specs.Prelude.{ℕ, ◌++◌, List, codes}
use Rattle.std.specs.Fmt.{decimal}
use Rattle.list_culprits.specs.declared.culprit.Kind.{Kind}
use Rattle.list_culprits.specs.declared.culprit.Kind.TheVariants as kinds
use Rattle.list_culprits.specs.Told.{Told, nowhere, closed, in_range, in_block, apart, shared}
use Rattle.list_culprits.specs.Told.{uncounted, counting, implied}

-- a statement of a kind
abbrev pub kind_text : Kind → List ℕ
kind_text kinds.Program = codes "a PROGRAM statement"
kind_text kinds.Implicit = codes "an IMPLICIT statement"
kind_text kinds.Parameter = codes "a PARAMETER statement"
kind_text kinds.Integer = codes "an INTEGER statement"
kind_text kinds.Logical = codes "a LOGICAL statement"
kind_text kinds.Dimension = codes "a DIMENSION statement"
kind_text kinds.Data = codes "a DATA statement"
kind_text kinds.Format = codes "a FORMAT statement"
kind_text kinds.StatementFunction = codes "a statement function"
kind_text kinds.ElseIf = codes "an ELSE IF statement"
kind_text kinds.Else = codes "an ELSE statement"

abbrev pub label_text : List ℕ → List ℕ → List ℕ
label_text label text = codes "label " ++ label ++ text

abbrev pub closed_text : List ℕ → Kind → List ℕ
closed_text label kind = label_text label (codes " is that of ") ++ kind_text kind

abbrev pub told_text : Told → List ℕ
told_text (nowhere label) = label_text label (codes " stands nowhere")
told_text (closed label kind) = closed_text label kind
told_text (in_range label line) = label_text label (codes " stands in the DO range that begins at line ") ++ decimal line
told_text (in_block label line) = label_text label (codes " stands in the block that begins at line ") ++ decimal line
told_text (apart label) = label_text label (codes " stands where no transfer from here may go")
told_text (shared label) = label_text label (codes " stands at more than one statement")
told_text (uncounted name) = name ++ codes " is no INTEGER variable"
told_text (counting name line) = name ++ codes " is the DO variable of line " ++ decimal line
told_text (implied name) = name ++ codes " is the variable of an implied DO around it"

-- the label or the name that it is about
abbrev pub word_of : Told → List ℕ
word_of (nowhere label) = label
word_of (closed label kind) = label
word_of (in_range label line) = label
word_of (in_block label line) = label
word_of (apart label) = label
word_of (shared label) = label
word_of (uncounted name) = name
word_of (counting name line) = name
word_of (implied name) = name

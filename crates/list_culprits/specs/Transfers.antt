-- The first label that a transfer misses, and why (ANSI X3.9-1978, 11.1, 11.2, 11.4 and 11.10.8).
use Rattle.std.specs.Prelude.{ℕ, ◌==◌, Bool, not, List, [], ◌∷◌, count_by, if◌then◌else◌, Option}
use Rattle.std.specs.Prelude.{Some, None, option_map}
use Rattle.std.specs.List.{find}
use Rattle.std.specs.Option.{option_or}
use Rattle.meaning.specs.Characters.{number_of}
use Rattle.meaning.specs.LabelRules.{has_label, not_executable}
use Rattle.meaning.specs.Syntax.{ItemTree, ShapeTree, assignment, definition, typing}
use Rattle.meaning.specs.Syntax.{logical_typing, dimensioning, naming, implying, implicit_none}
use Rattle.meaning.specs.Syntax.{parameter, initializing, format, going, computed_going}
use Rattle.meaning.specs.Syntax.{arithmetic_if, logical_if, else_if, otherwise}
use Rattle.meaning.specs.Uses.{Symbols}
use Rattle.list_culprits.specs.declared.culprit.Kind.{Kind}
use Rattle.list_culprits.specs.declared.culprit.Kind.TheVariants as kinds
use Rattle.list_culprits.specs.Seats.{Opener, range_of, block_of, Seat, seat_passing}
use Rattle.list_culprits.specs.Told.{Told, nowhere, closed, in_range, in_block, apart, shared}

-- what comes first of some things
abbrev pub first_told : {X : Type 0} → (X → Option Told) → List X → Option Told
first_told f [] = None
first_told f (x ∷ xs) = option_or (f x) (first_told f xs)

-- the labels that a statement transfers to, as digits
abbrev pub targets_of : ShapeTree → List (List ℕ)
targets_of (going label) = label ∷ []
targets_of (computed_going labels comma e) = labels
targets_of (arithmetic_if e negative zero positive) = negative ∷ (zero ∷ (positive ∷ []))
targets_of (logical_if e statement) = targets_of statement
targets_of s = []

-- the kind of an ELSE IF or ELSE statement
abbrev pub branch_kind : ShapeTree → Option Kind
branch_kind (else_if e) = Some kinds.ElseIf
branch_kind otherwise = Some kinds.Else
branch_kind s = None

-- the kind of a statement that isn't executable
abbrev pub closed_kind : ShapeTree → Kind
closed_kind (naming letters) = kinds.Program
closed_kind (implying parts) = kinds.Implicit
closed_kind implicit_none = kinds.Implicit
closed_kind (parameter constants) = kinds.Parameter
closed_kind (typing ds) = kinds.Integer
closed_kind (logical_typing ds) = kinds.Logical
closed_kind (dimensioning ds) = kinds.Dimension
closed_kind (initializing sets) = kinds.Data
closed_kind (format text) = kinds.Format
closed_kind s = kinds.StatementFunction

-- a label that is not around, by the first statement that has it, if one does
abbrev pub told_in : List ℕ → List Opener → Told
told_in label [] = apart label
told_in label (range_of x ∷ os) = in_range label x.line
told_in label (block_of x ∷ os) = in_block label x.line

abbrev pub told_by_kind : List ℕ → Option Kind → List Opener → Told
told_by_kind label (Some kind) os = closed label kind
told_by_kind label None os = told_in label os

abbrev pub told_absent : List ℕ → Option Seat → Told
told_absent label None = nowhere label
told_absent label (Some z) = told_by_kind label (branch_kind z.item.shape) z.openers

-- a label that is around, by the first statement that has it and isn't executable, if there is one
abbrev pub told_closed : List ℕ → Option ItemTree → Option Told
told_closed label x = option_map (λ y. closed label (closed_kind y.shape)) x

-- how often a label stands
abbrev pub times : List ℕ → List ItemTree → ℕ
times label items = count_by (has_label (number_of label)) items

-- the parts of a program unit that labels are sought in
pub record ProgramUnit : Type 0 where
  pub symbols : Symbols
  pub seats : List Seat
  pub all : List ItemTree

abbrev pub told_present : Symbols → List ItemTree → List ItemTree → List ℕ → Option Told
told_present r all reach label =
    if not (times label reach == times label all) then Some (shared label)
    else told_closed label (find (has_label (number_of label)) (not_executable r [] all))

-- what is told of a label that a statement transfers to, if it misses it
abbrev pub missed_at : ProgramUnit → List ItemTree → List ℕ → Option Told
missed_at u reach label =
    if times label reach == 0
    then Some (told_absent label (seat_passing (has_label (number_of label)) u.seats))
    else told_present u.symbols u.all reach label

-- K2: of the labels of a statement the first that it misses
abbrev pub missed_in : ProgramUnit → Seat → Option Told
missed_in u z = first_told (missed_at u z.reach) (targets_of z.item.shape)

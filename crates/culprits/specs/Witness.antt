-- What is told is a witness: by it the rule's own definition is broken at a statement of the line.
use Rattle.std.specs.Prelude.{◌≡◌, ℕ, ◌==◌, Bool, true, false, List, ◌∷◌, ◌++◌, Option, Some, None}
use Rattle.std.specs.Prelude.{option_map, IsTrue, ◌⊎◌}
use Rattle.std.specs.List.{Contains, list_any}
use Rattle.meaning.specs.declared.refusal.Rule.{Rule}
use Rattle.meaning.specs.declared.refusal.Rule.TheVariants.{K1, K2, K3, K4, K5, K6, K7, K8, K9}
use Rattle.meaning.specs.declared.refusal.Rule.TheVariants.{K10, K11, K12, K13}
use Rattle.meaning.specs.Initial.{has_bad_data}
use Rattle.meaning.specs.LabelRules.{has_bad_output, has_repeated_label}
use Rattle.meaning.specs.NameRules.{breaks_function_rules, has_misuse, has_real_name}
use Rattle.meaning.specs.NameRules.{has_unknown_function, is_disputed, is_misused_array}
use Rattle.meaning.specs.NameRules.{is_misused_function, is_real, is_unknown_function}
use Rattle.meaning.specs.NameRules.{is_wrongly_typed}
use Rattle.meaning.specs.NumberRules.{has_bad_number, has_large_array}
use Rattle.meaning.specs.Syntax.{ItemTree}
use Rattle.meaning.specs.Trees.{Nested, flatten}
use Rattle.meaning.specs.Types.{has_implicit_none}
use Rattle.meaning.specs.Uses.{Symbols, Use, is_defining, parts_at, symbols_of, uses_at}
use Rattle.culprits.specs.declared.culprit.Wanted.{Wanted}
use Rattle.culprits.specs.Counts.{arguments_of, capped, subscripts_of}
use Rattle.culprits.specs.Culprits.{culprit_at, items_in, names_in}
use Rattle.culprits.specs.Told.{Told, repeated, real, miscounted, mistyped, numbered, sized}
use Rattle.culprits.specs.Told.{disputed, misgiven, misformed, defined, unknown, listed}
use Rattle.data_culprits.specs.Witness.{IsBy as IsDataBy}
use Rattle.number_culprits.specs.Witness.{IsBy as IsNumberBy}
use Rattle.output_culprits.specs.Witness.{IsBy as IsOutputBy}
use Rattle.type_culprits.specs.Witness.{IsBy as IsTypeBy}
use Rattle.size_culprits.specs.Witness.{IsBy as IsSizeBy}
use Rattle.name_culprits.specs.Witness.{IsBy as IsNameBy, breaks_in_part}
use Rattle.function_culprits.specs.Witness.{IsBy as IsFunctionBy, breaks_but_deep}
use Rattle.list_culprits.specs.Seats.{Seat, seats_of}
use Rattle.list_culprits.specs.Witness.{IsLoopedBy, IsMissedBy, is_loop_broken, is_transfer_broken}
use Rattle.list_culprits.specs.Witness.{unit_of}

-- ---- the rules that something is told of

abbrev pub is_covered : Rule → Bool
is_covered K1 = true
is_covered K2 = true
is_covered K3 = true
is_covered K5 = true
is_covered K6 = true
is_covered K7 = true
is_covered K4 = true
is_covered K8 = true
is_covered K9 = true
is_covered K10 = true
is_covered K11 = true
is_covered K12 = true
is_covered K13 = true
is_covered rule = false

-- a statement breaks the rule behind others
abbrev pub item_breaks : Rule → List ItemTree → List ItemTree → ItemTree → Bool
item_breaks K1 all before x = has_repeated_label before x
item_breaks K3 all before x = has_real_name (symbols_of all) before x
item_breaks K5 all before x = is_wrongly_typed (symbols_of all) before x
item_breaks K6 all before x = has_bad_number (symbols_of all) before x
item_breaks K7 all before x = has_large_array (symbols_of all) before x
item_breaks K4 all before x = is_disputed (symbols_of all) before x
item_breaks K8 all before x = has_misuse (symbols_of all) before x
item_breaks K10 all before x = has_bad_data (symbols_of all) before x
item_breaks K11 all before x = has_bad_output (symbols_of all) all before x
item_breaks K12 all before x = breaks_function_rules (symbols_of all) before x
item_breaks K13 all before x = has_unknown_function (symbols_of all) before x
item_breaks rule all before x = false

-- a statement of a program unit breaks it in its seat, behind others
abbrev pub breaks : Rule → Nested → List ItemTree → Seat → Bool
breaks K2 t before z = is_transfer_broken t z
breaks K9 t before z = is_loop_broken t z
breaks rule t before z = item_breaks rule (flatten t) before z.item

-- what of a rule is covered is broken: of K4 all but letters, variables that are functions too, and
-- LOGICAL intrinsic functions, of K12 all but how deep statement functions go and how large they
-- become
abbrev pub breaks_covered : Rule → Nested → List ItemTree → Seat → Bool
breaks_covered K4 t before z = breaks_in_part (symbols_of (flatten t)) before z.item
breaks_covered K12 t before z = breaks_but_deep (symbols_of (flatten t)) before z.item
breaks_covered rule t before z = breaks rule t before z

-- ---- by what it is broken

-- K1: the statement has the label, and one before it, at that line, has it too
pub record Repeats (before : List ItemTree) (x : ItemTree) (label line : ℕ) : Type 0 where
  pub earlier : ItemTree
  pub stands : Contains before earlier
  pub line_is : earlier.line ≡ line
  pub earlier_has : earlier.label ≡ Some label
  pub has : x.label ≡ Some label

-- K3: the statement defines the name, or uses it as what is no function, and it is REAL or has no
-- type
pub record IsRealHere (r : Symbols) (before : List ItemTree) (x : ItemTree) (name : List ℕ) : Type 0
  where
    pub stands : Contains (names_in r (is_defining r before x) x.shape) name
    pub is_real_name : IsTrue (is_real r name)

-- K8: the statement uses the name of an array or of a function, with another number of subscripts
-- or arguments than are wanted
pub record IsMisused (wants : List ℕ → Option Wanted) (test : Use → Bool) (uses : List Use)
    (name : List ℕ) (wanted : Wanted) (given : Option ℕ) : Type 0 where
  pub one : Use
  pub stands : Contains uses one
  pub is_misused : IsTrue (test one)
  pub name_is : one.name ≡ name
  pub wanted_is : wants one.name ≡ Some wanted
  pub given_is : option_map capped one.arguments ≡ given

abbrev pub IsMiscountedHere : Symbols → List ItemTree → ItemTree → List ℕ → Wanted → Option ℕ →
    Type 0
IsMiscountedHere r before x name wanted given =
    IsMisused (subscripts_of r) (is_misused_array r) (uses_at r before x) name wanted given
    ⊎ IsMisused (arguments_of r) (is_misused_function r) (parts_at r before x).reads name wanted
    given

-- K13: the statement refers to a function of that name, which isn't in the table
pub record IsUnknownHere (r : Symbols) (before : List ItemTree) (x : ItemTree) (name : List ℕ) :
    Type
    0 where
  pub reference : Use
  pub stands : Contains (parts_at r before x).reads reference
  pub name_is : reference.name ≡ name
  pub is_unknown : IsTrue (is_unknown_function r reference)

abbrev pub IsItemBy : Rule → List ItemTree → List ItemTree → ItemTree → Told → Type 0
IsItemBy K1 all before x (repeated label line) = Repeats before x label line
IsItemBy K3 all before x (real name without_letters) =
    IsRealHere (symbols_of all) before x name × (without_letters ≡ has_implicit_none all)
IsItemBy K5 all before x (mistyped k) = IsTypeBy (symbols_of all) before x k
IsItemBy K6 all before x (numbered k) = IsNumberBy (symbols_of all) before x k
IsItemBy K7 all before x (sized k) = IsSizeBy (symbols_of all) before x k
IsItemBy K4 all before x (disputed k) = IsNameBy (symbols_of all) before x k
IsItemBy K8 all before x (miscounted name wanted given) =
    IsMiscountedHere (symbols_of all) before x name wanted given
IsItemBy K10 all before x (misgiven k) = IsDataBy (symbols_of all) before x k
IsItemBy K11 all before x (misformed k) = IsOutputBy (symbols_of all) all before x k
IsItemBy K12 all before x (defined k) = IsFunctionBy (symbols_of all) before x k
IsItemBy K13 all before x (unknown name) = IsUnknownHere (symbols_of all) before x name
IsItemBy rule all before x told = ⊥

-- K2 and K9: as the rules on lists have it
abbrev pub IsBy : Rule → Nested → List ItemTree → Seat → Told → Type 0
IsBy K2 t before z (listed k) = IsMissedBy (unit_of t) z k
IsBy K9 t before z (listed k) = IsLoopedBy (symbols_of (flatten t)) z k
IsBy rule t before z told = IsItemBy rule (flatten t) before z.item told

-- ---- at a line

-- the first of some statements in their seats that stands at a line, and those before it
pub record IsFirstAt (all : List Seat) (line : ℕ) (front : List Seat) (z : Seat) : Type 0 where
  pub after : List Seat
  pub parts : all ≡ front ++ (z ∷ after)
  pub line_is : z.item.line ≡ line
  pub first : list_any (λ (y : Seat). y.item.line == line) front ≡ false

-- it breaks the rule by what is told
pub record IsCulprit (t : Nested) (rule : Rule) (line : ℕ) (told : Told) : Type 0 where
  pub front : List Seat
  pub statement : Seat
  pub placed : IsFirstAt (seats_of t) line front statement
  pub broken : IsTrue (breaks rule t (items_in front) statement)
  pub by : IsBy rule t (items_in front) statement told

-- of a rule that is covered nothing is told only where it doesn't break what of it is covered
abbrev pub IsKept : Nested → Rule → ℕ → Type 0
IsKept t rule line =
    (front : List Seat) (z : Seat) → IsFirstAt (seats_of t) line front z →
    IsTrue (is_covered rule) → breaks_covered rule t (items_in front) z ≡ false

abbrev pub IsAnswer : Nested → Rule → ℕ → Option Told → Type 0
IsAnswer t rule line (Some told) = IsCulprit t rule line told
IsAnswer t rule line None = IsKept t rule line

abbrev pub TellsWitnesses : Type 0
TellsWitnesses =
    (t : Nested) (rule : Rule) (line : ℕ) → IsAnswer t rule line (culprit_at rule line t)

-- The first thing by which a statement breaks the rule on what names are (ANSI X3.9-1978, 8.1, 8.4
-- to 8.6 and 15.4): what is given twice, or as a constant and as an array or a statement function;
-- what is used against what it is; IMPLICIT NONE beside another IMPLICIT statement.
use Rattle.std.specs.Prelude.{ℕ, Bool, true, false, is_none, List, [], ◌∷◌, ◌++◌, if◌then◌else◌}
use Rattle.std.specs.Prelude.{Option, Some, None, option_map}
use Rattle.std.specs.List.{find}
use Rattle.std.specs.Option.{option_or}
use Rattle.meaning.specs.NameRules.{Given, given_by, is_against_role, is_implicit}
use Rattle.meaning.specs.Syntax.{ItemTree, ShapeTree, assignment, definition, logical_if, implying}
use Rattle.meaning.specs.Syntax.{implicit_none}
use Rattle.meaning.specs.Types.{is_implicit_none}
use Rattle.meaning.specs.Uses.{Symbols, Use, is_constant, is_defining, is_one_of, uses_at}
use Rattle.name_culprits.specs.declared.culprit.Giving.{Giving}
use Rattle.name_culprits.specs.declared.culprit.Giving.TheVariants.{Typed, Bounds, Value}
use Rattle.name_culprits.specs.declared.culprit.Giving.TheVariants.{Expression, Either}
use Rattle.name_culprits.specs.Told.{Told, given, bare, referenced, assigned, rival}

-- ---- what statements give names

abbrev pub names_by : Giving → Given → List (List ℕ)
names_by Typed g = g.typed
names_by Bounds g = g.bounded
names_by Value g = g.valued
names_by Expression g = g.defined
names_by Either g = g.bounded ++ g.defined

-- the names that a statement behind others gives something
abbrev pub gives : Symbols → Giving → List ItemTree → ItemTree → List (List ℕ)
gives r k before x = names_by k (given_by r (is_defining r before x) x.shape)

-- the line of the first of some statements that gives a name something
unfoldable pub giving_line : Symbols → Giving → List ItemTree → List ItemTree → List ℕ → Option ℕ
giving_line r k before [] n = None
giving_line r k before (x ∷ xs) n =
    if is_one_of (gives r k before x) n then Some x.line
    else giving_line r k (before ++ x ∷ []) xs n

-- the first of some names that a statement before gives something
abbrev pub given_before : Symbols → Giving → List ItemTree → List ℕ → Option Told
given_before r k before n = option_map (given n k) (giving_line r k [] before n)

abbrev pub shared_in : Symbols → Giving → List ItemTree → List (List ℕ) → Option Told
shared_in r k before [] = None
shared_in r k before (n ∷ ns) = option_or (given_before r k before n) (shared_in r k before ns)

-- the first that one gives it, or that stands before among the names of the statement, which is
-- that of a line
abbrev pub seen_told : Giving → ℕ → Bool → List ℕ → Option Told
seen_told k line seen n = if seen then Some (given n k line) else None

abbrev pub again_in : Symbols → Giving → List ItemTree → ℕ → List (List ℕ) → List (List ℕ) →
    Option Told
again_in r k before line seen [] = None
again_in r k before line seen (n ∷ ns) =
    option_or (option_or (given_before r k before n) (seen_told k line (is_one_of seen n) n))
    (again_in r k before line (seen ++ n ∷ []) ns)

-- by what a statement behind others gives
abbrev pub twice_in : Symbols → List ItemTree → ℕ → Given → Option Told
twice_in r before line g =
    option_or (again_in r Typed before line [] g.typed)
    (option_or (again_in r Bounds before line [] g.bounded)
    (option_or (again_in r Value before line [] g.valued)
    (again_in r Expression before line [] g.defined)))

abbrev pub two_roles_in : Symbols → List ItemTree → Given → Option Told
two_roles_in r before g =
    option_or (shared_in r Either before g.valued)
    (shared_in r Value before (g.bounded ++ g.defined))

abbrev pub given_in : Symbols → List ItemTree → ℕ → Given → Option Told
given_in r before line g = option_or (twice_in r before line g) (two_roles_in r before g)

-- ---- what is used against what it is

abbrev pub against_told : Use → Told
against_told u = if is_none u.arguments then bare u.name else referenced u.name

abbrev pub assigned_told : Bool → List ℕ → Option Told
assigned_told is_constant n = if is_constant then Some (assigned n) else None

abbrev pub assigned_in : Symbols → ShapeTree → Option Told
assigned_in r (assignment n es e) = assigned_told (is_constant r n) n
assigned_in r (definition n e) = assigned_told (is_constant r n) n
assigned_in r (logical_if e s) = assigned_in r s
assigned_in r s = None

abbrev pub used_in : Symbols → List Use → ShapeTree → Option Told
used_in r us s = option_or (option_map against_told (find (is_against_role r) us)) (assigned_in r s)

-- ---- IMPLICIT NONE

abbrev pub line_if : Option ItemTree → Option ℕ
line_if o = option_map (λ (y : ItemTree). y.line) o

abbrev pub rival_in : List ItemTree → ShapeTree → Option Told
rival_in before implicit_none =
    option_map rival (line_if (find (λ (y : ItemTree). is_implicit y.shape) before))
rival_in before (implying ps) =
    option_map rival (line_if (find (λ (y : ItemTree). is_implicit_none y.shape) before))
rival_in before s = None

-- K4, at a statement behind others
abbrev pub disputed_in : Symbols → List ItemTree → ItemTree → Option Told
disputed_in r before x =
    option_or (given_in r before x.line (given_by r (is_defining r before x) x.shape))
    (option_or (used_in r (uses_at r before x) x.shape) (rival_in before x.shape))

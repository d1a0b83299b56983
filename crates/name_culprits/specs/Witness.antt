-- What is told is a witness: by it a statement breaks the rule on what names are behind others.
use Rattle.std.specs.Prelude.{◌≡◌, ℕ, Bool, false, ◌||◌, List, [], ◌∷◌, ◌++◌, IsTrue, ◌⊎◌, Option}
use Rattle.std.specs.Prelude.{Some, None}
use Rattle.std.specs.List.{Contains, list_any}
use Rattle.meaning.specs.NameRules.{given_by, given_from, given_twice, has_rival, has_two_roles}
use Rattle.meaning.specs.NameRules.{is_against_role, is_disputed, is_implicit, sets_constant}
use Rattle.meaning.specs.Syntax.{ItemTree, ShapeTree, assignment, definition, logical_if}
use Rattle.meaning.specs.Uses.{Symbols, Use, is_constant, is_defining, is_one_of, uses_at}
use Rattle.name_culprits.specs.declared.culprit.Giving.{Giving}
use Rattle.name_culprits.specs.Names.{against_told, disputed_in, gives}
use Rattle.name_culprits.specs.Told.{Told, given, assigned, rival}

-- ---- what of the rule is covered: all but what it says of letters, of variables that are
-- functions too, and of LOGICAL intrinsic functions

abbrev pub is_overgiven : Symbols → List ItemTree → ItemTree → Bool
is_overgiven r before x =
    given_twice (given_from r [] before) (given_by r (is_defining r before x) x.shape)
    || has_two_roles (given_from r [] before) (given_by r (is_defining r before x) x.shape)

abbrev pub is_misused : Symbols → List ItemTree → ItemTree → Bool
is_misused r before x = list_any (is_against_role r) (uses_at r before x) || sets_constant r x.shape

abbrev pub breaks_in_part : Symbols → List ItemTree → ItemTree → Bool
breaks_in_part r before x = is_overgiven r before x || (is_misused r before x || has_rival before x)

-- ---- by what it is broken

-- a statement before, at that line, gives the name that, and this one gives it something
pub record IsGivenBefore (r : Symbols) (k : Giving) (before : List ItemTree) (name : List ℕ)
    (line : ℕ) : Type 0 where
  pub front : List ItemTree
  pub earlier : ItemTree
  pub back : List ItemTree
  pub parts : before ≡ front ++ (earlier ∷ back)
  pub line_is : earlier.line ≡ line
  pub gives_it : IsTrue (is_one_of (gives r k front earlier) name)

-- or this one does so twice
abbrev pub IsGiven : Symbols → List ItemTree → ItemTree → Told → Type 0
IsGiven r before x t =
    (name : List ℕ) × (k : Giving) × (line : ℕ) × (given name k line ≡ t)
    × (IsGivenBefore r k before name line ⊎ (x.line ≡ line))

-- a use goes against what its name is, or the name of a constant is set
abbrev pub IsAgainst : Symbols → List Use → Told → Type 0
IsAgainst r us k = (u : Use) × Contains us u × IsTrue (is_against_role r u) × (against_told u ≡ k)

abbrev pub Assigns : ShapeTree → List ℕ → Type 0
Assigns (assignment n es e) name = n ≡ name
Assigns (definition n e) name = n ≡ name
Assigns (logical_if e s) name = Assigns s name
Assigns s name = ⊥

abbrev pub IsAssigned : Symbols → ShapeTree → Told → Type 0
IsAssigned r s k = (n : List ℕ) × Assigns s n × IsTrue (is_constant r n) × (assigned n ≡ k)

abbrev pub IsUsed : Symbols → List ItemTree → ItemTree → Told → Type 0
IsUsed r before x k = IsAgainst r (uses_at r before x) k ⊎ IsAssigned r x.shape k

-- an IMPLICIT statement stands before
abbrev pub IsRival : List ItemTree → Told → Type 0
IsRival before k =
    (y : ItemTree) × Contains before y × IsTrue (is_implicit y.shape) × (rival y.line ≡ k)

abbrev pub IsBy : Symbols → List ItemTree → ItemTree → Told → Type 0
IsBy r before x k = IsGiven r before x k ⊎ (IsUsed r before x k ⊎ IsRival before k)

-- what is told breaks the rule; where nothing is told, the statement keeps what of it is covered
abbrev pub IsTold : Symbols → List ItemTree → ItemTree → Option Told → Type 0
IsTold r before x (Some k) = IsTrue (is_disputed r before x) × IsBy r before x k
IsTold r before x None = breaks_in_part r before x ≡ false

abbrev pub TellsWitnesses : Type 0
TellsWitnesses =
    (r : Symbols) (before : List ItemTree) (x : ItemTree) →
    IsTold r before x (disputed_in r before x)

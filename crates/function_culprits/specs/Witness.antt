-- What is told is a witness: by it a statement breaks the rule on statement functions behind
-- others.
use Rattle.std.specs.Prelude.{◌≡◌, ℕ, Bool, true, false, ◌||◌, nat_lt, length, List, [], ◌∷◌}
use Rattle.std.specs.Prelude.{Option, Some, None, IsTrue, ◌⊎◌, reverse}
use Rattle.std.specs.List.{Contains, list_any}
use Rattle.std.specs.Str.{bytes_eq}
use Rattle.meaning.specs.NameRules.{breaks_function_rules, defined_here, dummy_names}
use Rattle.meaning.specs.NameRules.{has_bad_dummies, is_late, is_no_name, uses_dummy_as_function}
use Rattle.meaning.specs.NameRules.{uses_later}
use Rattle.meaning.specs.Scopes.{Definition, defined_by, definitions_of}
use Rattle.meaning.specs.Syntax.{ItemTree, ShapeTree, logical_if}
use Rattle.meaning.specs.Uses.{Symbols, Use, is_before_executables, is_one_of, uses_in}
use Rattle.function_culprits.specs.Functions.{is_dummy_use, is_later_use, misdefined_at}
use Rattle.function_culprits.specs.Functions.{names_before}
use Rattle.function_culprits.specs.Told.{Told, late, conditional, crowded, unnamed, doubled, called}
use Rattle.function_culprits.specs.Told.{recursive, later}

-- ---- what of the rule is covered: all but how deep statement functions go and how large they
-- become

abbrev pub is_bad_but_deep : Symbols → List Definition → Definition → Bool
is_bad_but_deep r earlier d =
    has_bad_dummies d || (uses_dummy_as_function d || uses_later r earlier d)

abbrev pub breaks_but_deep : Symbols → List ItemTree → ItemTree → Bool
breaks_but_deep r before x =
    is_late r before x
    || list_any (is_bad_but_deep r (reverse (definitions_of r.names.arrays before)))
    (defined_here r before x)

-- ---- by what it is broken

-- the statement would define a statement function of that name
pub record Defines (r : Symbols) (s : ShapeTree) (d : Definition) : Type 0 where
  pub defines : defined_by r.names.arrays s ≡ Some d

-- it defines one where it may stand
pub record DefinesHere (r : Symbols) (before : List ItemTree) (x : ItemTree) (d : Definition) : Type
    0
  where
    pub defines : defined_by r.names.arrays x.shape ≡ Some d
    pub early : is_before_executables r before ≡ true

-- a logical IF holds a statement that would define one of that name
abbrev pub IsConditional : Symbols → ShapeTree → List ℕ → Type 0
IsConditional r (logical_if e s) name = (d : Definition) × (d.name ≡ name) × Defines r s d
IsConditional r s name = ⊥

-- a reference in its expression
pub record Refers (d : Definition) (test : Use → Bool) (name : List ℕ) : Type 0 where
  pub reference : Use
  pub stands : Contains (uses_in d.body) reference
  pub name_is : reference.name ≡ name
  pub passes : IsTrue (test reference)

-- the name stands among names, and among those behind it again
abbrev pub IsTwice : List ℕ → List (List ℕ) → Type 0
IsTwice name [] = ⊥
IsTwice name (n ∷ ns) = ((n ≡ name) × IsTrue (is_one_of ns n)) ⊎ IsTwice name ns

-- what is told of a function that is defined here
abbrev pub IsByFunction : Symbols → List ItemTree → Definition → Told → Type 0
IsByFunction r before d (crowded name) = (d.name ≡ name) × IsTrue (nat_lt 16 (length d.dummies))
IsByFunction r before d (unnamed name) = (d.name ≡ name) × IsTrue (list_any is_no_name d.dummies)
IsByFunction r before d (doubled name) = IsTwice name (dummy_names d)
IsByFunction r before d (called name) = Refers d (is_dummy_use d) name
IsByFunction r before d (recursive name) =
    Refers d (is_later_use r (names_before r before)) name × IsTrue (bytes_eq d.name name)
IsByFunction r before d (later name) = Refers d (is_later_use r (names_before r before)) name
IsByFunction r before d k = ⊥

-- of one that stands too late, under a logical IF, or here
abbrev pub IsBy : Symbols → List ItemTree → ItemTree → Told → Type 0
IsBy r before x (late name) =
    (d : Definition) × (d.name ≡ name) × Defines r x.shape d
    × (is_before_executables r before ≡ false)
IsBy r before x (conditional name) = IsConditional r x.shape name
IsBy r before x k = (d : Definition) × DefinesHere r before x d × IsByFunction r before d k

-- what is told breaks the rule; where nothing is told, the statement keeps what of it is covered
abbrev pub IsTold : Symbols → List ItemTree → ItemTree → Option Told → Type 0
IsTold r before x (Some k) = IsTrue (breaks_function_rules r before x) × IsBy r before x k
IsTold r before x None = breaks_but_deep r before x ≡ false

abbrev pub TellsWitnesses : Type 0
TellsWitnesses =
    (r : Symbols) (before : List ItemTree) (x : ItemTree) →
    IsTold r before x (misdefined_at r before x)

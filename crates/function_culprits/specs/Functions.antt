-- The first thing by which a statement breaks the rule on statement functions (ANSI X3.9-1978,
-- 15.4).
use Rattle.std.specs.Prelude.{ℕ, Bool, true, false, not, ◌&&◌, nat_lt, length, List, [], ◌∷◌, map}
use Rattle.std.specs.Prelude.{is_some, if◌then◌else◌, Option, Some, None, option_map}
use Rattle.std.specs.List.{find, list_any}
use Rattle.std.specs.Option.{option_or}
use Rattle.std.specs.Str.{bytes_eq}
use Rattle.meaning.specs.NameRules.{dummy_names, is_no_name}
use Rattle.meaning.specs.Scopes.{Definition, defined_by, definitions_of, is_specification}
use Rattle.meaning.specs.Syntax.{ItemTree, ShapeTree, logical_if}
use Rattle.meaning.specs.Uses.{Symbols, Use, is_before_executables, is_function, is_one_of, uses_in}
use Rattle.function_culprits.specs.Told.{Told, late, conditional, crowded, unnamed, doubled, called}
use Rattle.function_culprits.specs.Told.{recursive, later}

-- what would be a statement function under a logical IF
abbrev pub conditional_told : Option Definition → Option Told
conditional_told d = option_map (λ e. conditional e.name) d

abbrev pub conditional_in : Symbols → ShapeTree → Option Told
conditional_in r (logical_if e s) = conditional_told (defined_by r.names.arrays s)
conditional_in r s = None

-- the first name that stands among those behind it
abbrev pub twice_in : List (List ℕ) → Option (List ℕ)
twice_in [] = None
twice_in (n ∷ ns) = if is_one_of ns n then Some n else twice_in ns

-- its dummies
abbrev pub crowded_in : Definition → Option Told
crowded_in d = if nat_lt 16 (length d.dummies) then Some (crowded d.name) else None

abbrev pub unnamed_in : Definition → Option Told
unnamed_in d = if list_any is_no_name d.dummies then Some (unnamed d.name) else None

abbrev pub doubled_in : Definition → Option Told
doubled_in d = option_map doubled (twice_in (dummy_names d))

-- what it refers to
abbrev pub is_dummy_use : Definition → Use → Bool
is_dummy_use d u = is_some u.arguments && is_one_of (dummy_names d) u.name

abbrev pub called_among : Definition → List Use → Option Told
called_among d us = option_map (λ u. called u.name) (find (is_dummy_use d) us)

abbrev pub is_later_use : Symbols → List (List ℕ) → Use → Bool
is_later_use r earlier u =
    is_some u.arguments && (is_function r u.name && not (is_one_of earlier u.name))

abbrev pub later_told : List ℕ → List ℕ → Told
later_told own name = if bytes_eq own name then recursive name else later name

abbrev pub later_among : Symbols → List (List ℕ) → List ℕ → List Use → Option Told
later_among r earlier own us =
    option_map (λ u. later_told own u.name) (find (is_later_use r earlier) us)

-- of a statement function, behind those of these names
abbrev pub bad_dummies_in : Definition → Option Told
bad_dummies_in d = option_or (crowded_in d) (option_or (unnamed_in d) (doubled_in d))

abbrev pub bad_among : Symbols → List (List ℕ) → Definition → List Use → Option Told
bad_among r earlier d us = option_or (called_among d us) (later_among r earlier d.name us)

abbrev pub bad_in : Symbols → List (List ℕ) → Definition → Option Told
bad_in r earlier d = option_or (bad_dummies_in d) (bad_among r earlier d (uses_in d.body))

-- the statement functions that stand before
abbrev pub names_before : Symbols → List ItemTree → List (List ℕ)
names_before r before = map (λ d. d.name) (definitions_of r.names.arrays before)

-- a statement settles whether one of that name does
abbrev pub settled_in : Option Definition → Bool → List ℕ → Option Bool
settled_in (Some d) passes n = if bytes_eq n d.name then Some true else None
settled_in None true n = None
settled_in None false n = Some false

abbrev pub settled_by : Symbols → ShapeTree → List ℕ → Option Bool
settled_by r s n = settled_in (defined_by r.names.arrays s) (is_specification s) n

-- K12, but how deep statement functions go and how large they become: of a statement, by what it
-- would define
abbrev pub defined_told : Symbols → Bool → List (List ℕ) → Definition → Option Told
defined_told r may earlier d = if may then bad_in r earlier d else Some (late d.name)

abbrev pub misdefined_in : Symbols → Bool → List (List ℕ) → ShapeTree → Option Definition →
    Option Told
misdefined_in r may earlier s None = conditional_in r s
misdefined_in r may earlier s (Some d) = defined_told r may earlier d

abbrev pub misdefined_at : Symbols → List ItemTree → ItemTree → Option Told
misdefined_at r before x =
    misdefined_in r (is_before_executables r before) (names_before r before) x.shape
    (defined_by r.names.arrays x.shape)

-- The rules on names: K3, K4, K8, K12 and K13 (ANSI X3.9-1978, 2.5, 4.1.2, 5.1, 8.1, 8.4 to 8.6,
-- 15.2 to 15.4 and 18.2).
use Rattle.std.specs.Prelude.{ℕ, suc, ◌+◌, max, Bool, true, false, not, ◌&&◌, ◌||◌, nat_lt, ◌==◌}
use Rattle.std.specs.Prelude.{length, List, [], ◌∷◌, ◌++◌, map, flat_map, is_some, is_none}
use Rattle.std.specs.Prelude.{if◌then◌else◌, Option, Some, None, unwrap_or, reverse}
use Rattle.std.specs.List.{list_any, filter, fold}
use Rattle.std.specs.Str.{bytes_eq}
use Rattle.meaning.specs.declared.refusal.Broken.{Broken}
use Rattle.meaning.specs.declared.refusal.Rule.{Rule}
use Rattle.meaning.specs.declared.refusal.Rule.TheVariants.{K3, K4, K5, K8, K12, K13}
use Rattle.meaning.specs.declared.syntax.DataType.{DataType}
use Rattle.meaning.specs.declared.syntax.DataType.TheVariants as types
use Rattle.meaning.specs.Statements.{broken_if}
use Rattle.meaning.specs.Syntax.{LettersTree, DeclaratorTree, ExprTree, number, truth, name, signed}
use Rattle.meaning.specs.Syntax.{negated, binary, paren, element, call, ExprsTree, no_exprs, exprs}
use Rattle.meaning.specs.Syntax.{ShapeTree, assignment, definition, logical_if, implying}
use Rattle.meaning.specs.Syntax.{implicit_none, ItemTree}
use Rattle.meaning.specs.Types.{implied_in, typed_in, is_among, is_implicit_none, has_implicit_none}
use Rattle.meaning.specs.Intrinsics.{Intrinsic, intrinsic_named, takes}
use Rattle.meaning.specs.Scopes.{constants_in, declarators_in, Definition, defined_by}
use Rattle.meaning.specs.Scopes.{definitions_of, dummy_name}
use Rattle.meaning.specs.Typing.{has_wrong_type, option_list}
use Rattle.meaning.specs.Uses.{Use, Symbols, is_one_of, is_constant, is_function, is_other, uses_in}
use Rattle.meaning.specs.Uses.{Parts, parts_at, parts_from, uses_at, is_defining}
use Rattle.meaning.specs.Uses.{is_before_executables}

-- a rule that a statement breaks behind others, told at its line
unfoldable pub told : (List ItemTree → ItemTree → Bool) → Rule → List ItemTree → List ItemTree →
    List Broken
told breaks rule before [] = []
told breaks rule before (x ∷ xs) =
    broken_if (breaks before x) x.line rule ++ told breaks rule (before ++ x ∷ []) xs

-- ---- K3: a variable, array, constant, statement function or dummy that is REAL

abbrev pub is_real : Symbols → List ℕ → Bool
is_real r n = is_none (r.names.types n)

abbrev pub is_real_use : Symbols → Use → Bool
is_real_use r u = is_real r u.name && (is_none u.arguments || not (is_other r u.name))

abbrev pub dummy_names : Definition → List (List ℕ)
dummy_names d = flat_map dummy_name d.dummies

-- the names that a statement defines: constants, arrays, a statement function and its dummies
abbrev pub function_names : Option Definition → List (List ℕ)
function_names None = []
function_names (Some d) = d.name ∷ dummy_names d

abbrev pub names_defined : Symbols → Bool → ShapeTree → List (List ℕ)
names_defined r defines s =
    map (λ c. c.name) (constants_in s)
    ++ (map (λ d. d.name) (declarators_in s)
    ++ (if defines then function_names (defined_by r.names.arrays s) else []))

abbrev pub has_real_name : Symbols → List ItemTree → ItemTree → Bool
has_real_name r before x =
    list_any (is_real r) (names_defined r (is_defining r before x) x.shape)
    || list_any (is_real_use r) (uses_at r before x)

-- ---- K4: names that are given too much

-- the names that a statement gives a type, bounds, a PARAMETER value, or an expression as a
-- statement function
pub record Given : Type 0 where
  pub typed : List (List ℕ)
  pub bounded : List (List ℕ)
  pub valued : List (List ℕ)
  pub defined : List (List ℕ)

abbrev pub has_bounds : DeclaratorTree → Bool
has_bounds d = nat_lt 0 (length d.bounds)

abbrev pub given_by : Symbols → Bool → ShapeTree → Given
given_by r defines s = record {
  typed = map (λ t. t.name) (typed_in s);
  bounded = map (λ d. d.name) (filter has_bounds (declarators_in s));
  valued = map (λ c. c.name) (constants_in s);
  defined = if defines then map (λ d. d.name) (option_list (defined_by r.names.arrays s)) else [];
}

unfoldable pub given_from : Symbols → List ItemTree → List ItemTree → List Given
given_from r before [] = []
given_from r before (x ∷ xs) =
    given_by r (is_defining r before x) x.shape ∷ given_from r (before ++ x ∷ []) xs

-- names of which one stands among others, or twice
abbrev pub repeats : List (List ℕ) → List (List ℕ) → Bool
repeats earlier [] = false
repeats earlier (n ∷ ns) = is_one_of earlier n || repeats (n ∷ earlier) ns

abbrev pub given_twice : List Given → Given → Bool
given_twice gs g =
    repeats (flat_map (λ h. h.typed) gs) g.typed
    || (repeats (flat_map (λ h. h.bounded) gs) g.bounded
    || (repeats (flat_map (λ h. h.valued) gs) g.valued
    || repeats (flat_map (λ h. h.defined) gs) g.defined))

-- two of the roles constant, array and statement function; an array is no statement function
abbrev pub shares : List (List ℕ) → List (List ℕ) → Bool
shares ns ms = list_any (is_one_of ms) ns

abbrev pub has_two_roles : List Given → Given → Bool
has_two_roles gs g =
    shares g.valued (flat_map (λ h. h.bounded ++ h.defined) gs)
    || shares (g.bounded ++ g.defined) (flat_map (λ h. h.valued) gs)

-- a constant is set or has parentheses, a statement function has none
abbrev pub is_against_role : Symbols → Use → Bool
is_against_role r u =
    (is_constant r u.name && is_some u.arguments) || (is_function r u.name && is_none u.arguments)

abbrev pub sets_constant : Symbols → ShapeTree → Bool
sets_constant r (assignment n es e) = is_constant r n
sets_constant r (definition n e) = is_constant r n
sets_constant r (logical_if e s) = sets_constant r s
sets_constant r s = false

-- a variable that is also used as a function, told at the later statement
abbrev pub is_variable_use : Symbols → Use → Bool
is_variable_use r u = is_other r u.name && is_none u.arguments

abbrev pub is_function_use : Symbols → Use → Bool
is_function_use r u = is_other r u.name && is_some u.arguments

abbrev pub names_used : (Use → Bool) → List Use → List (List ℕ)
names_used test us = map (λ u. u.name) (filter test us)

-- what statements set and read
abbrev pub is_both : Symbols → Parts → Parts → Bool
is_both r before here =
    shares (names_used (is_variable_use r) (here.sets ++ here.reads))
    (names_used (is_function_use r) (before.reads ++ here.reads))
    || shares (names_used (is_function_use r) here.reads)
    (names_used (is_variable_use r) (before.sets ++ before.reads))

-- a function of the standard that is used, and that a LOGICAL statement names
abbrev pub is_intrinsic_use : Symbols → Use → Bool
is_intrinsic_use r u = is_function_use r u && is_some (intrinsic_named u.name)

abbrev pub is_logical_type : DataType → Bool
is_logical_type types.Logical = true
is_logical_type types.Integer = false

abbrev pub logical_names : ItemTree → List (List ℕ)
logical_names x = map (λ t. t.name) (filter (λ t. is_logical_type t.data_type) (typed_in x.shape))

abbrev pub is_logical_function : Symbols → List ItemTree → List Use → ItemTree → List Use → Bool
is_logical_function r before used x here =
    shares (logical_names x) (names_used (is_intrinsic_use r) (used ++ here))
    || shares (names_used (is_intrinsic_use r) here) (flat_map logical_names before)

-- a letter in two ranges of IMPLICIT statements, or a range out of order
abbrev pub last_letter : LettersTree → ℕ
last_letter l = unwrap_or l.last_letter l.first_letter

abbrev pub is_reversed : LettersTree → Bool
is_reversed l = nat_lt (last_letter l) l.first_letter

abbrev pub meet : LettersTree → LettersTree → Bool
meet l k = is_among l.first_letter k || is_among k.first_letter l

abbrev pub letters_in : ItemTree → List LettersTree
letters_in x = flat_map (λ p. p.letters) (implied_in x.shape)

abbrev pub letters_clash : List LettersTree → List LettersTree → Bool
letters_clash earlier [] = false
letters_clash earlier (l ∷ ls) =
    (is_reversed l || list_any (λ k. not (is_reversed k) && meet l k) earlier)
    || letters_clash (l ∷ earlier) ls

-- IMPLICIT NONE beside another IMPLICIT statement, told at the later of the two (own)
abbrev pub is_implicit : ShapeTree → Bool
is_implicit (implying ps) = true
is_implicit implicit_none = true
is_implicit s = false

abbrev pub has_rival : List ItemTree → ItemTree → Bool
has_rival before x =
    (is_implicit_none x.shape && list_any (λ (y : ItemTree). is_implicit y.shape) before)
    || (is_implicit x.shape && has_implicit_none before)

abbrev pub is_disputed : Symbols → List ItemTree → ItemTree → Bool
is_disputed r before x =
    (given_twice (given_from r [] before) (given_by r (is_defining r before x) x.shape)
    || has_two_roles (given_from r [] before) (given_by r (is_defining r before x) x.shape))
    || ((list_any (is_against_role r) (uses_at r before x) || sets_constant r x.shape)
    || (is_both r (parts_from r [] before) (parts_at r before x)
    || (is_logical_function r before (parts_from r [] before).reads x (parts_at r before x).reads
    || (letters_clash (flat_map letters_in before) (letters_in x) || has_rival before x))))

-- ---- K5: a wrong type

abbrev pub is_wrongly_typed : Symbols → List ItemTree → ItemTree → Bool
is_wrongly_typed r before x = has_wrong_type r.names (is_defining r before x) x.shape

-- ---- K8: a wrong number of subscripts or arguments, or an array's name without subscripts

abbrev pub is_other_number : Option ℕ → Option ℕ → Bool
is_other_number None used = false
is_other_number (Some n) None = true
is_other_number (Some n) (Some k) = not (n == k)

abbrev pub length_if : {A : Type 0} → Option (List A) → Option ℕ
length_if None = None
length_if (Some xs) = Some (length xs)

abbrev pub does_not_take : Option Intrinsic → Option ℕ → Bool
does_not_take (Some f) (Some k) = not (takes f k)
does_not_take f k = false

-- an array, wherever it stands
abbrev pub is_misused_array : Symbols → Use → Bool
is_misused_array r u = is_other_number (length_if (r.names.arrays u.name)) u.arguments

-- a function that is referenced
abbrev pub is_misused_function : Symbols → Use → Bool
is_misused_function r u =
    (is_some u.arguments && is_other_number (length_if (r.names.functions u.name)) u.arguments)
    || (is_other r u.name && does_not_take (intrinsic_named u.name) u.arguments)

abbrev pub has_misuse : Symbols → List ItemTree → ItemTree → Bool
has_misuse r before x =
    list_any (is_misused_array r) (uses_at r before x)
    || list_any (is_misused_function r) (parts_at r before x).reads

-- ---- K12: statement functions

-- an assignment to what is no array and has parentheses, behind an executable statement or under a
-- logical IF
abbrev pub sets_no_array : Symbols → ShapeTree → Bool
sets_no_array r (logical_if e s) = is_some (defined_by r.names.arrays s)
sets_no_array r s = false

abbrev pub is_late : Symbols → List ItemTree → ItemTree → Bool
is_late r before x =
    (is_some (defined_by r.names.arrays x.shape) && not (is_before_executables r before))
    || sets_no_array r x.shape

-- dummies are distinct names, 16 at most (own)
abbrev pub is_no_name : ExprTree → Bool
is_no_name (name letters) = false
is_no_name e = true

abbrev pub has_bad_dummies : Definition → Bool
has_bad_dummies d =
    nat_lt 16 (length d.dummies) || (list_any is_no_name d.dummies || repeats [] (dummy_names d))

abbrev pub uses_dummy_as_function : Definition → Bool
uses_dummy_as_function d =
    list_any (λ u. is_some u.arguments && is_one_of (dummy_names d) u.name) (uses_in d.body)

-- it uses itself or one that stands behind it: a statement function that none before it is
abbrev pub uses_later : Symbols → List Definition → Definition → Bool
uses_later r earlier d =
    list_any (λ u. is_some u.arguments
    && (is_function r u.name && not (is_one_of (map (λ e. e.name) earlier) u.name)))
    (uses_in d.body)

-- how deep statement functions call one another; the definitions stand last to first
abbrev pub greatest : (List ℕ → ℕ) → List Use → ℕ
greatest level us = fold (λ k u. max k (if is_some u.arguments then level u.name else 0)) 0 us

unfoldable pub level_by : List Definition → List ℕ → ℕ
level_by [] n = 0
level_by (d ∷ ds) n =
    if bytes_eq n d.name then suc (greatest (level_by ds) (uses_in d.body)) else level_by ds n

-- how many constants, names, operators and parentheses there are when each use of a statement
-- function is replaced by its expression (own)
abbrev mutual
  pub nodes_in : (List ℕ → Option ℕ) → ExprTree → ℕ
  nodes_in expanded (number digits) = 1
  nodes_in expanded (truth value) = 1
  nodes_in expanded (name letters) = 1
  nodes_in expanded (signed sign e) = suc (nodes_in expanded e)
  nodes_in expanded (negated e) = suc (nodes_in expanded e)
  nodes_in expanded (binary operator a b) = suc (nodes_in expanded a + nodes_in expanded b)
  nodes_in expanded (paren e) = suc (nodes_in expanded e)
  nodes_in expanded (element letters es) =
      unwrap_or (expanded letters) (2 + nodes_in_all expanded es)
  nodes_in expanded (call letters) = unwrap_or (expanded letters) 2

  pub nodes_in_all : (List ℕ → Option ℕ) → ExprsTree → ℕ
  nodes_in_all expanded no_exprs = 0
  nodes_in_all expanded (exprs e es) = nodes_in expanded e + nodes_in_all expanded es

unfoldable pub nodes_by : List Definition → List ℕ → Option ℕ
nodes_by [] n = None
nodes_by (d ∷ ds) n =
    if bytes_eq n d.name then Some (nodes_in (nodes_by ds) d.body) else nodes_by ds n

abbrev pub is_too_deep : List Definition → Definition → Bool
is_too_deep earlier d =
    nat_lt 32 (suc (greatest (level_by earlier) (uses_in d.body)))
    || nat_lt 65536 (nodes_in (nodes_by earlier) d.body)

abbrev pub is_bad_definition : Symbols → List Definition → Definition → Bool
is_bad_definition r earlier d =
    has_bad_dummies d
    || (uses_dummy_as_function d || (uses_later r earlier d || is_too_deep earlier d))

abbrev pub defined_here : Symbols → List ItemTree → ItemTree → List Definition
defined_here r before x =
    if is_before_executables r before then option_list (defined_by r.names.arrays x.shape) else []

abbrev pub breaks_function_rules : Symbols → List ItemTree → ItemTree → Bool
breaks_function_rules r before x =
    is_late r before x
    || list_any (is_bad_definition r (reverse (definitions_of r.names.arrays before)))
    (defined_here r before x)

-- ---- K13: a function that isn't known

abbrev pub is_unknown_function : Symbols → Use → Bool
is_unknown_function r u = is_function_use r u && is_none (intrinsic_named u.name)

abbrev pub has_unknown_function : Symbols → List ItemTree → ItemTree → Bool
has_unknown_function r before x = list_any (is_unknown_function r) (parts_at r before x).reads

-- ---- all of them

abbrev pub broken_names : Symbols → List ItemTree → List Broken
broken_names r all =
    told (has_real_name r) K3 [] all
    ++ (told (is_disputed r) K4 [] all
    ++ (told (is_wrongly_typed r) K5 [] all
    ++ (told (has_misuse r) K8 [] all
    ++ (told (breaks_function_rules r) K12 [] all
    ++ told (has_unknown_function r) K13 [] all))))

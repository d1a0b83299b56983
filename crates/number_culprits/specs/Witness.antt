-- What is told is a witness: by it a statement breaks the rule on integer constants and constant
-- expressions behind others.
use Rattle.std.specs.Prelude.{◌≡◌, ℕ, is_none, List, [], ◌∷◌, IsTrue, ◌⊎◌}
use Rattle.std.specs.List.{Contains}
use Rattle.finding.specs.Answers.{IsAnswer}
use Rattle.meaning.specs.NumberRules.{has_bad_number, is_too_great, is_unknown, known_behind_all}
use Rattle.meaning.specs.Scopes.{constant_value, constants_in, declarators_in, with_constant}
use Rattle.meaning.specs.Syntax.{ConstantTree, DeclaratorTree, ExprTree, ItemTree}
use Rattle.meaning.specs.Types.{Types}
use Rattle.meaning.specs.Uses.{Symbols, Use, uses_in}
use Rattle.meaning.specs.Values.{Known}
use Rattle.number_culprits.specs.Numbers.{bad_in, bounds_of, numbers_of, unknown_told}
use Rattle.number_culprits.specs.Told.{Told, great, faulty, unbounded}

-- a constant of the statement is too great
abbrev pub IsGreatBy : Symbols → ItemTree → Told → Type 0
IsGreatBy r x k =
    (digits : List ℕ) × Contains (numbers_of r x.shape) digits × IsTrue (is_too_great digits)
    × (great digits ≡ k)

-- an expression uses a name that is no constant's, or has no value
abbrev pub IsUnknownBy : Known → ExprTree → Told → Type 0
IsUnknownBy known e k =
    (u : Use) × Contains (uses_in e) u × IsTrue (is_unknown known u) × (unknown_told u ≡ k)

abbrev pub IsNoneBy : Types → Known → Told → ExprTree → Told → Type 0
IsNoneBy types known fault e k =
    IsUnknownBy known e k ⊎ ((fault ≡ k) × IsTrue (is_none (constant_value types known e)))

-- one of several does; a constant of a PARAMETER statement, each with those before it; a bound of
-- an array
abbrev pub IsNoneAmong : Types → Known → Told → List ExprTree → Told → Type 0
IsNoneAmong types known fault [] k = ⊥
IsNoneAmong types known fault (e ∷ es) k =
    IsNoneBy types known fault e k ⊎ IsNoneAmong types known fault es k

abbrev pub IsConstantBy : Types → Known → List ConstantTree → Told → Type 0
IsConstantBy types known [] k = ⊥
IsConstantBy types known (c ∷ cs) k =
    IsNoneBy types known (faulty c.name) c.value k
    ⊎ IsConstantBy types (with_constant types known c) cs k

abbrev pub IsBoundBy : Types → Known → List DeclaratorTree → Told → Type 0
IsBoundBy types known [] k = ⊥
IsBoundBy types known (d ∷ ds) k =
    IsNoneAmong types known (unbounded d.name) (bounds_of d) k ⊎ IsBoundBy types known ds k

abbrev pub IsBy : Symbols → List ItemTree → ItemTree → Told → Type 0
IsBy r before x k =
    IsGreatBy r x k
    ⊎ (IsConstantBy r.names.types (known_behind_all r before) (constants_in x.shape) k
    ⊎ IsBoundBy r.names.types (known_behind_all r before) (declarators_in x.shape) k)

abbrev pub TellsWitnesses : Type 0
TellsWitnesses =
    (r : Symbols) (before : List ItemTree) (x : ItemTree) →
    IsAnswer (IsBy r before x) (has_bad_number r before x) (bad_in r before x)

-- The first of what passes a test.
use Rattle.std.specs.Prelude.{◌≡◌, ℕ, Bool, List, flat_map, Option, option_map}
use Rattle.std.specs.Borrow.{Bor}
use Rattle.std.specs.List.{find}
use Rattle.meaning.specs.Scopes.{dummy_name, listed}
use Rattle.meaning.specs.Syntax.{ExprsTree}
use Rattle.meaning.specs.Uses.{Use}
use Rattle.name_uses.specs.declared.uses.NameUse.{NameUse}
use Rattle.name_uses.specs.UsesAt.{use_at, uses_at}

-- a use, and a name, behind a reference
abbrev pub use_if : Option NameUse → Option Use
use_if u = option_map use_at u

abbrev pub name_if : Option (Bor (List ℕ)) → Option (List ℕ)
name_if n = option_map (λ m. m.now) n

-- the first use that passes
abbrev pub IsFirstUse : (Use → Bool) → List NameUse → Option NameUse → Type 0
IsFirstUse test us u = use_if u ≡ find test (uses_at us)

-- the names of dummies
abbrev pub dummy_names_in : ExprsTree → List (List ℕ)
dummy_names_in es = flat_map dummy_name (listed es)

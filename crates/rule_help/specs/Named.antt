-- The rule or the fault that has a name, and the names that none has. Large and small letters are
-- the same in names.
use Rattle.std.specs.Prelude.{◌≡◌, ℕ, List, map}
use Rattle.std.specs.Char.{to_ascii_lowercase}
use Rattle.meaning.specs.declared.ending.FaultKind.{FaultKind}
use Rattle.meaning.specs.declared.refusal.Rule.{Rule}
use Rattle.meaning.specs.Names.{fault_name, rule_name}

abbrev pub Spells : List ℕ → List ℕ → Type 0
Spells text name = map to_ascii_lowercase name ≡ map to_ascii_lowercase text

abbrev pub IsNoRule : List ℕ → Type 0
IsNoRule text = (rule : Rule) → Spells text (rule_name rule) → ⊥

abbrev pub IsNoFault : List ℕ → Type 0
IsNoFault text = (kind : FaultKind) → Spells text (fault_name kind) → ⊥
